use Rattle.std.proofs.Common.{◌≡◌, ◌≤◌, ◌+◌, true, false, ◌++◌, length, map}
use Rattle.std.specs.Vec.{vec_len, vec_capacity}
use Rattle.std.specs.Vec.Iter.{into_iter_items}
use Rattle.serve_end.specs.declared.done.DeviceDone.{DeviceDone}
use Rattle.serve_end.specs.Failing.{DeviceFailed, AnyOf}
use Rattle.serve_end.specs.Runs.{EachRun, RunCause, source_facts}
use Rattle.serve_workers.specs.Joining.{RanSoFar}
use Rattle.gps_serve.specs.Runs.{DevicesSoFar, IsLeftOf}
use Rattle.gps_serve.specs.Statuses.{TellsNoFault}
use Rattle.gps_serve.proofs.settling.devices_done.Given as goal

abbrev pub invariant-devices : goal.invariant-devices
invariant-devices g l = record {
  so_far : DevicesSoFar g.D.Dials.may (source_facts g.S.Source) l.fn.inlets.items (into_iter_items l.inlets)
      (into_iter_items l.run-iterator) l.devices.items;
  left_of : RanSoFar IsLeftOf l.fn.runs.items (into_iter_items l.run-iterator) l.devices.items;
  causes : EachRun (RunCause g.S.Source.faults) (into_iter_items l.run-iterator);
  ends : map (λ (d : DeviceDone g.row.S.Denot g.row.R.Denot). d.end) l.devices.items ++ into_iter_items l.ends ≡ l.fn.ends.items;
  left : length (into_iter_items l.ends) ≡ length (into_iter_items l.inlets);
  failed : l.failed ≡ true → AnyOf (DeviceFailed g.S.Source.faults) l.devices.items;
  missed : l.failed ≡ false → AnyOf (DeviceFailed g.S.Source.faults) l.devices.items → ⊥;
  untold : l.failed ≡ false → EachRun TellsNoFault l.devices.items;
  count : vec_len l.devices + length (into_iter_items l.run-iterator) ≡ vec_len l.fn.runs;
  room : vec_len l.fn.runs ≤ vec_capacity l.devices;
}
