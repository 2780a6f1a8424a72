use Rattle.std.proofs.Common.{◌≡◌, take}
use Rattle.book_batch.proofs.row.Row.shared.Given as goal

abbrev pub invariant-loop-form : goal.invariant-loop-form
invariant-loop-form l = l.row.items ≡ take l.form-index l.forms
