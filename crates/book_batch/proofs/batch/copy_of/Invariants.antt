use Rattle.std.proofs.Common.{◌≡◌, take}
use Rattle.book_batch.proofs.batch.copy_of.Given as goal

abbrev pub invariant-loop-report : goal.invariant-loop-report
invariant-loop-report l = l.copy.items ≡ take l.report-index l.reports
