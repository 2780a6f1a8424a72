-- One more report on the way through a batch.
use Rattle.std.proofs.Common.{◌≡◌, ◌<◌, ◌+◌, ℕ, true, List, [], ◌∷◌, ◌++◌, length, take, map, slice_index_or, nat_lt, ap, ◌∙◌, arith}
use Rattle.std.specs.List.{All}
use Rattle.std.proofs.lemmas.List.{map-append, take_more}
use Rattle.std.proofs.lemmas.List.Elements.{All-push}
use Rattle.std.proofs.lemmas.List.Sums.{AllPass-from_list_all}
use Rattle.gps_report.specs.declared.report.Report.{Report}
use Rattle.book_batch.specs.Forms.{forms_of}
use Rattle.book_batch.specs.declared.forms.Forms.{Forms}
use Rattle.book_batch.specs.Sharing.{AreNamed, row_of}

pub named_at : (names : List (List ℕ)) (reports : List Report) (i : ℕ) (d : Report) → i < length reports → AreNamed names reports
    → (slice_index_or reports i d).device < length names
named_at names reports i d within named =
    let passed : nat_lt (slice_index_or reports i d).device (length names) ≡ true =
    AllPass-from_list_all (λ (report : Report). nat_lt report.device (length names)) reports named i d within in
    grind arith

pub row_more : (names : List (List ℕ)) (reports : List Report) (i : ℕ) (d : Report) → i < length reports
    → row_of names (take (i + 1) reports) ≡ row_of names (take i reports) ++ forms_of names (slice_index_or reports i d) ∷ []
row_more names reports i d within =
    ap (map (forms_of names)) (take_more reports i d within)
    ∙ map-append (forms_of names) (take i reports) (slice_index_or reports i d ∷ [])

pub one_more_row : (rows : List (List Forms)) (row forms : List Forms) → All (λ row. row ≡ forms) rows → row ≡ forms
    → All (λ row. row ≡ forms) (rows ++ row ∷ [])
one_more_row rows row forms each same = All-push (λ row. row ≡ forms) rows row each same
