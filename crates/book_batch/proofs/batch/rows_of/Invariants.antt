use Rattle.std.proofs.Common.{◌≡◌, ◌+◌, length}
use Rattle.std.specs.List.{All}
use Rattle.book_batch.proofs.batch.rows_of.Given as goal

abbrev pub invariant-rows : goal.invariant-rows
invariant-rows l = All (λ row. row ≡ l.forms.items) l.rows.items × (length l.rows.items + 1 ≡ l.counter)
