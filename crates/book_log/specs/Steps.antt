-- Steps of the calls, which no public clause names: what becomes of one device's line and of all lines, and of what is kept of a
-- generation.
use Rattle.std.specs.Prelude.{◌≡◌, ◌≤◌, ◌+◌, ℕ, List, [], ◌∷◌, ◌++◌, Option, Some, None, length, get_or}
use Rattle.std.proofs.Math.ListN.{set}
use Rattle.std.specs.Option.{option_or}
use Rattle.gps_fixed.specs.Moment.{Moment}
use Rattle.gps_report.specs.declared.edge.Symbol.{Symbol}
use Rattle.gps_report.specs.declared.report.Body.{Body}
use Rattle.gps_report.specs.declared.report.Body.TheVariants.{Device}
use Rattle.gps_report.specs.declared.report.Report.{Report}
use Rattle.device_core.specs.Reports.{device_close, Gains}
use Rattle.device_core.specs.Standing.{StandsFor as DeviceStands}
use Rattle.book_log.specs.declared.device_stage.DeviceStage.TheVariants.{Running, Ended, Lost}
use Rattle.book_log.specs.Readings.{fix_in, last_of, of_device, sky_in}
use Rattle.book_log.specs.Entries.{Entry, stream}
use Rattle.book_log.specs.History.{history_after}
use Rattle.book_log.specs.Standing.{DeviceStateView, StandsAt, StandsFor, DeviceStatesView, DevicesGoOn, GoesOnBy}

abbrev pub announcement : Option Moment → List Body
announcement None = []
announcement (Some at) = Device (Some at) ∷ []

-- a first stamp is announced if there was none
abbrev pub unless_known : Option Moment → Option Moment → Option Moment
unless_known (Some first) at = None
unless_known None at = at

-- a device that was given nothing yet
pub record IsNew (line : DeviceStateView) : Type 0 where
  pub device : DeviceStands line.kept []
  pub first : line.first ≡ None
  pub stage : line.stage ≡ Running
  pub fix : line.fix ≡ None
  pub sky : line.sky ≡ None

-- how many reports come at most of a piece, and of an edge, which has no stamp
abbrev pub most_reports : Option Moment → List Symbol → ℕ
most_reports (Some at) symbols = 2056 + length symbols
most_reports None symbols = 1

-- a device took symbols, whose first byte has this stamp, and `out` are the reports that it gained
pub record Took (old new : DeviceStateView) (d : ℕ) (symbols : List Symbol) (stamp : Option Moment) (out : List Body) (reports : List Report) : Type 0 where
  pub gains : (s : List Symbol) → DeviceStands old.kept s → Gains s symbols out
  pub stands : (s : List Symbol) → DeviceStands old.kept s → DeviceStands new.kept (s ++ symbols)
  pub reports_are : reports ≡ of_device d (announcement (unless_known old.first stamp) ++ out)
  pub first : new.first ≡ option_or old.first stamp
  pub stage : new.stage ≡ old.stage
  pub fix : new.fix ≡ option_or (last_of fix_in out) old.fix
  pub sky : new.sky ≡ option_or (last_of sky_in out) old.sky
  pub few : length reports ≤ most_reports stamp symbols

abbrev pub TakesSymbols : DeviceStateView → DeviceStateView → ℕ → List Symbol → Option Moment → List Report → Type 0
TakesSymbols old new d symbols stamp reports = (out : List Body) × Took old new d symbols stamp out reports

-- a device has ended, and `out` are the reports of its end
pub record Closed (old new : DeviceStateView) (d : ℕ) (out : List Body) (reports : List Report) : Type 0 where
  pub closes : (s : List Symbol) → DeviceStands old.kept s → out ≡ device_close s
  pub reports_are : reports ≡ of_device d (out ++ Device None ∷ [])
  pub first : new.first ≡ old.first
  pub stage : new.stage ≡ Ended
  pub fix : new.fix ≡ option_or (last_of fix_in out) old.fix
  pub sky : new.sky ≡ option_or (last_of sky_in out) old.sky
  pub few : length reports ≤ 3

abbrev pub Ends : DeviceStateView → DeviceStateView → ℕ → List Report → Type 0
Ends old new d reports = (out : List Body) × Closed old new d out reports

-- the line of device d alone became another one, by this relation
pub record ChangesAt (olds news : List DeviceStateView) (d : ℕ) (R : DeviceStateView → DeviceStateView → Type 0) : Type 0 where
  pub next : DeviceStateView
  pub news_are : news ≡ set olds d next
  pub changes : (free : DeviceStateView) → R (get_or olds d free) next

-- device d took symbols, among all devices
pub record TakesAt (old new : DeviceStatesView) (d : ℕ) (symbols : List Symbol) (stamp : Option Moment) (reports : List Report) : Type 0 where
  pub lines_are : ChangesAt old.lines new.lines d (λ before after. TakesSymbols before after d symbols stamp reports)
  pub stamp_is : new.stamp ≡ option_or stamp old.stamp

pub record EndsAt (old new : DeviceStatesView) (d : ℕ) (reports : List Report) : Type 0 where
  pub lines_are : ChangesAt old.lines new.lines d (λ before after. Ends before after d reports)
  pub stamp_is : new.stamp ≡ old.stamp

abbrev pub Loses : DeviceStateView → DeviceStateView → Type 0
Loses old new = new ≡ record old { stage = Lost }

pub record LosesAt (old new : DeviceStatesView) (d : ℕ) : Type 0 where
  pub lines_are : ChangesAt old.lines new.lines d Loses
  pub stamp_is : new.stamp ≡ old.stamp

-- one device's line goes on from every log that it stood for
pub record Goes (d : ℕ) (old new : DeviceStateView) (entries : List Entry) (reports : List Report) : Type 0 where
  pub adds : (log : List Entry) → StandsAt old d log → history_after log entries ≡ reports
  pub stands : (log : List Entry) → StandsAt old d log → StandsAt new d (log ++ entries)
  pub device : GoesOnBy old new (stream d entries)

-- all lines go on from every log that they stood for
pub record GoesAll (old new : DeviceStatesView) (entries : List Entry) (reports : List Report) : Type 0 where
  pub adds : (log : List Entry) → StandsFor old log → history_after log entries ≡ reports
  pub stands : (log : List Entry) → StandsFor old log → StandsFor new (log ++ entries)
  pub devices : DevicesGoOn old new entries
  pub count : length new.lines ≡ length old.lines
