-- The first and the last that a list gives of something; and the stamps, the fixes and the skies of symbols, entries and
-- reports.
use Rattle.std.specs.Prelude.{ℕ, List, [], ◌∷◌, Option, Some, None, cond, map, nat_eq}
use Rattle.std.specs.Option.{option_or}
use Rattle.gps_fixed.specs.Moment.{Moment}
use Rattle.gps_report.specs.declared.edge.Symbol.{Symbol}
use Rattle.gps_report.specs.declared.edge.Symbol.TheVariants.{Byte, Edge as EdgeSymbol}
use Rattle.gps_report.specs.declared.fix.Fix.{Fix}
use Rattle.gps_report.specs.declared.fix.Sky.{Sky}
use Rattle.gps_report.specs.declared.report.Body.{Body}
use Rattle.gps_report.specs.declared.report.Body.TheVariants.{Tpv, Sky as SkyBody}
use Rattle.gps_report.specs.declared.report.Report.{Report}
use Rattle.book_log.specs.Entries.{Entry, Got, Ended, Lost}

abbrev pub first_of : {X Y : Type 0} → (X → Option Y) → List X → Option Y
first_of f [] = None
first_of f (x ∷ xs) = option_or (f x) (first_of f xs)

abbrev pub last_of : {X Y : Type 0} → (X → Option Y) → List X → Option Y
last_of f [] = None
last_of f (x ∷ xs) = option_or (last_of f xs) (f x)

-- the stamp of a byte
abbrev pub stamp_in : Symbol → Option Moment
stamp_in (Byte at byte) = Some at
stamp_in (EdgeSymbol edge) = None

abbrev pub first_stamp : List Symbol → Option Moment
first_stamp stream = first_of stamp_in stream

abbrev pub stamp_at : Entry → Option Moment
stamp_at (Got d symbol) = stamp_in symbol
stamp_at (Ended d) = None
stamp_at (Lost d) = None

-- the stamp of the last byte of any device
abbrev pub last_stamp : List Entry → Option Moment
last_stamp log = last_of stamp_at log

abbrev pub fix_in : Body → Option Fix
fix_in (Tpv fix) = Some fix
fix_in _ = None

abbrev pub sky_in : Body → Option Sky
sky_in (SkyBody sky) = Some sky
sky_in _ = None

-- what a report of device d gives
abbrev pub given_by : {Y : Type 0} → (Body → Option Y) → ℕ → Report → Option Y
given_by f d report = cond (nat_eq report.device d) (f report.body) None

abbrev pub last_fix : ℕ → List Report → Option Fix
last_fix d reports = last_of (given_by fix_in d) reports

abbrev pub last_sky : ℕ → List Report → Option Sky
last_sky d reports = last_of (given_by sky_in d) reports

abbrev pub of_device : ℕ → List Body → List Report
of_device d bodies = map (λ body. record { device = d; body = body }) bodies
