-- The line that a policy selects of a report, after the WATCH object of gpsd_json(5).
use Rattle.std.specs.Prelude.{ℕ, List, [], ◌∷◌, Option, Some, None}
use Rattle.gps_report.specs.declared.policy.Form.{Form}
use Rattle.gps_report.specs.declared.policy.Policy.{Policy}
use Rattle.gps_report.specs.declared.report.Report.{Report}
use Rattle.json_line.specs.Lines.{text_of}
use Rattle.watch_policy.specs.Selection.{selected}

abbrev pub line_in : List (List ℕ) → Report → Option Form → List (List ℕ)
line_in names report None = []
line_in names report (Some form) = text_of form names report ∷ []

-- one line or none
abbrev pub line_for : List (List ℕ) → Policy → Report → List (List ℕ)
line_for names policy report = line_in names report (selected policy names report)
