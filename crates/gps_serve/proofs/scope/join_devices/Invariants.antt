use Rattle.std.proofs.Common.{◌≡◌, ◌≤◌, ◌+◌, length}
use Rattle.std.specs.Vec.{vec_len, vec_capacity}
use Rattle.std.specs.Vec.Iter.{into_iter_items}
use Rattle.serve_workers.specs.Joining.{RanSoFar}
use Rattle.gps_serve.specs.Dealt.{UsedSoFar}
use Rattle.serve_end.specs.Runs.{EachRun, RunCause, source_facts}
use Rattle.gps_serve.specs.Works.{JoinsDevice}
use Rattle.gps_serve.proofs.scope.join_devices.Given as goal

abbrev pub invariant-works : goal.invariant-works
invariant-works g l = record {
  so_far : RanSoFar (JoinsDevice g.D.Dials.may (source_facts g.S.Source)) l.fn.works.items (into_iter_items l.work-iterator) l.runs.items;
  causes : EachRun (RunCause g.S.Source.faults) l.runs.items;
  count : vec_len l.runs + length (into_iter_items l.work-iterator) ≡ vec_len l.fn.works;
  room : vec_len l.fn.works ≤ vec_capacity l.runs;
  shares : UsedSoFar l.fn.works.items (into_iter_items l.work-iterator) l.runs.items l.roll.ended;
}
