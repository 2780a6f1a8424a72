-- Fixes one after another: their sentences, what is asked of them, and their lines. The sentences are those of NMEA 0183, RMC and GGA; the rest is
-- this project's own.
use Rattle.std.specs.Prelude.{◌≢◌, ℕ, ◌+◌, ◌*◌, ◌%◌, ◌^◌, List, [], ◌∷◌, Option, IsSome, option_map, unsigned_abs}
use Rattle.std.specs.List.{AllByRecursion, flat_map}
use Rattle.gps_fixed.specs.Moment.{Moment}
use Rattle.gps_report.specs.declared.fix.Fix.{Fix}
use Rattle.gps_report.specs.declared.policy.Form.TheVariants.{Json}
use Rattle.gps_report.specs.declared.report.Body.{Body}
use Rattle.gps_report.specs.declared.report.Body.TheVariants.{Tpv}
use Rattle.json_line.specs.Lines.{text}
use Rattle.pseudo_nmea.specs.Fitting.{HasStamp, IsFitting, spoken}
use Rattle.pseudo_nmea.specs.Sentences.{pseudo}
use Rattle.upstream_laws.specs.Alike.{shown}

-- the sentences of all of them, in order
abbrev pub sentences_of : List Fix → List ℕ
sentences_of fixes = flat_map pseudo fixes

-- the nanoseconds of the day
abbrev pub time_of_day : Fix → Option ℕ
time_of_day fix = option_map (λ (at : Moment). unsigned_abs at.sec % 86_400 * 10 ^ 9 + at.nsec) fix.time

-- it fits the two sentences, and has a time, which a stamp can have
pub record IsSayable (fix : Fix) : Type 0 where
  pub fits : IsFitting fix
  pub stamp : HasStamp fix.time
  pub timed : IsSome fix.time

abbrev pub AreSayable : List Fix → Type 0
AreSayable fixes = AllByRecursion IsSayable fixes

-- the time of day of each differs from that of the next one
abbrev pub AreApart : List Fix → Type 0
AreApart [] = Unit {0}
AreApart (fix ∷ []) = Unit {0}
AreApart (fix ∷ next ∷ more) = (time_of_day fix ≢ time_of_day next) × AreApart (next ∷ more)

-- the report of a fix, without what sentences cannot say
abbrev pub spoken_fix : Fix → Body
spoken_fix fix = Tpv (spoken fix)

-- the lines of the fixes and skies among reports of a device with this name
abbrev pub lines_shown : List ℕ → List Body → List ℕ
lines_shown name bodies = flat_map (text Json name) (shown bodies)

abbrev pub lines_of : List ℕ → List Fix → List ℕ
lines_of name fixes = flat_map (λ fix. text Json name (spoken_fix fix)) fixes
