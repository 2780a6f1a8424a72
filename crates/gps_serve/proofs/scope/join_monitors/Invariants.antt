use Rattle.std.proofs.Common.{◌≡◌, ◌≤◌, ◌+◌, length}
use Rattle.std.specs.Vec.{vec_len, vec_capacity}
use Rattle.std.specs.Vec.Iter.{into_iter_items}
use Rattle.serve_workers.specs.Joining.{RanSoFar}
use Rattle.gps_serve.specs.Works.{JoinsMonitor}
use Rattle.gps_serve.proofs.scope.join_monitors.Given as goal

abbrev pub invariant-works : goal.invariant-works
invariant-works g l = record {
  so_far : RanSoFar JoinsMonitor l.fn.works.items (into_iter_items l.work-iterator) l.watched.items;
  count : vec_len l.watched + length (into_iter_items l.work-iterator) ≡ vec_len l.fn.works;
  room : vec_len l.fn.works ≤ vec_capacity l.watched;
}
