use Rattle.std.proofs.Common.{◌≡◌, ◌≤◌, ◌+◌, length}
use Rattle.std.specs.Vec.{vec_len, vec_capacity}
use Rattle.std.specs.Vec.Iter.{into_iter_items}
use Rattle.serve_workers.specs.Joining.{RanSoFar}
use Rattle.gps_serve.specs.Works.{WatchesFor}
use Rattle.gps_serve.proofs.scope.start_monitors.Given as goal

abbrev pub invariant-monitor_starts : goal.invariant-monitor_starts
invariant-monitor_starts g l = record {
  so_far : RanSoFar (WatchesFor l.fn.tries) l.fn.monitor_starts.items (into_iter_items l.monitor_start-iterator) l.works.items;
  count : vec_len l.works + length (into_iter_items l.monitor_start-iterator) ≡ vec_len l.fn.monitor_starts;
  room : vec_len l.fn.monitor_starts ≤ vec_capacity l.works;
}
