use Rattle.std.proofs.Common.{◌≡◌, take}
use Rattle.book_batch.specs.Sharing.{row_of}
use Rattle.book_batch.proofs.batch.forms_of_all.Given as goal

abbrev pub invariant-loop-report : goal.invariant-loop-report
invariant-loop-report l = l.forms.items ≡ row_of l.names (take l.report-index l.reports)
