use Rattle.std.proofs.Common.{◌≡◌, ◌≤◌, ◌+◌, length, map}
use Rattle.std.specs.List.{range_with_len}
use Rattle.std.specs.Vec.{vec_len, vec_capacity}
use Rattle.std.specs.Vec.Iter.{into_iter_items}
use Rattle.serve_end.specs.declared.done.MonitorDone.{MonitorDone}
use Rattle.gps_serve.specs.Served.{monitored}
use Rattle.serve_workers.specs.Joining.{RanSoFar}
use Rattle.gps_serve.specs.Readies.{IsLeftOfWatch, MonitorsSoFar}
use Rattle.gps_serve.proofs.settling.monitors_done.Given as goal

abbrev pub invariant-units : goal.invariant-units
invariant-units g l = record {
  so_far : MonitorsSoFar l.fn.tries l.fn.no_memory (monitored l.fn.tries l.book.units) (into_iter_items l.watched) l.unit l.done.items;
  left_of : RanSoFar IsLeftOfWatch l.fn.watched.items (into_iter_items l.watched) l.done.items;
  numbers : map (λ (m : MonitorDone). m.unit) l.done.items ≡ range_with_len 0 l.unit;
  book : l.book ≡ l.initial.book;
  all : l.count ≡ length (monitored l.fn.tries l.book.units);
  count : vec_len l.done + length (into_iter_items l.watched) ≡ vec_len l.fn.watched;
  room : vec_len l.fn.watched ≤ vec_capacity l.done;
}
