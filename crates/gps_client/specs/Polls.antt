-- The reports in the answer to a POLL, each with the name of its device, as they are read back.
use Rattle.std.specs.Prelude.{ℕ, List, [], ◌∷◌, ◌++◌, Option}
use Rattle.gps_fixed.specs.Moment.{Moment}
use Rattle.gps_report.specs.declared.fix.Fix.{Fix}
use Rattle.gps_report.specs.declared.fix.Sky.{Sky}
use Rattle.gps_report.specs.declared.report.Body.{Body}
use Rattle.gps_report.specs.declared.report.Body.TheVariants as body
use Rattle.gps_report.specs.declared.report.Report.{Report}
use Rattle.json_line.specs.Lines.{name_of}
use Rattle.gps_client.specs.declared.line.Polled.{Polled}

abbrev pub named_fix : List ℕ → Body → List (List ℕ × Fix)
named_fix name (body.Tpv fix) = (name, fix) ∷ []
named_fix name _ = []

abbrev pub fixes_of : List (List ℕ) → List Report → List (List ℕ × Fix)
fixes_of names [] = []
fixes_of names (r ∷ reports) = named_fix (name_of names r.device) r.body ++ fixes_of names reports

abbrev pub named_sky : List ℕ → Body → List (List ℕ × Sky)
named_sky name (body.Sky sky) = (name, sky) ∷ []
named_sky name _ = []

abbrev pub skies_of : List (List ℕ) → List Report → List (List ℕ × Sky)
skies_of names [] = []
skies_of names (r ∷ reports) = named_sky (name_of names r.device) r.body ++ skies_of names reports

abbrev pub polled_of : Option Moment → ℕ → List Report → List Report → List (List ℕ) → Polled
polled_of last active fixes skies names = record { time = last; active = active; tpv = fixes_of names fixes; sky = skies_of names skies }
