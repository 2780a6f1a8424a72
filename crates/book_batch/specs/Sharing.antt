-- The reports of one call, and a row of their forms for each session that may take them.
use Rattle.std.specs.Prelude.{ℕ, ◌≡◌, true, List, length, map, nat_lt}
use Rattle.std.specs.List.{All, list_all}
use Rattle.gps_report.specs.declared.report.Report.{Report}
use Rattle.book_batch.specs.Forms.{forms_of}
use Rattle.book_batch.specs.declared.forms.Forms.{Forms}

pub record BatchView : Type 0 where
  pub reports : List Report
  pub rows : List (List Forms)

abbrev pub shares_of : BatchView → ℕ
shares_of batch = length batch.rows

-- the devices of the reports have names
abbrev pub AreNamed : List (List ℕ) → List Report → Type 0
AreNamed names reports = list_all (λ report. nat_lt report.device (length names)) reports ≡ true

-- a row with the forms of these reports, in order
abbrev pub row_of : List (List ℕ) → List Report → List Forms
row_of names reports = map (forms_of names) reports

-- each row has the forms of the reports, by the names of the devices
abbrev pub SharesLines : List (List ℕ) → BatchView → Type 0
SharesLines names batch = All (λ row. row ≡ row_of names batch.reports) batch.rows
