use Rattle.std.proofs.Common.{◌≡◌, ◌≤◌, ◌+◌, ◌++◌, length}
use Rattle.std.specs.Vec.{vec_len, vec_capacity}
use Rattle.std.specs.Vec.Iter.{into_iter_items}
use Rattle.book_log.specs.Readings.{of_device}
use Rattle.book_log.specs.Steps.{announcement}
use Rattle.book_log.proofs.gather.reported.Given as goal

abbrev pub invariant-bodies : goal.invariant-bodies
invariant-bodies l = record {
  reports_are : l.reports.items ≡ of_device l.device (announcement l.fn.first ++ l.yielded);
  room : vec_len l.reports + length (into_iter_items l.body-iterator) ≤ vec_capacity l.reports;
}
