use Rattle.std.proofs.Common.{◌≡◌, true, false, length, sym, ◌∙◌, ap, subst, arith}
use Rattle.serve_end.specs.Failing.{DeviceFailed}
use Rattle.serve_end.specs.Runs.{EachRun, RunCause}
use Rattle.gps_serve.proofs.Causes.{failed_more}
use Rattle.gps_serve.proofs.Devices.{devices_all, devices_begin, devices_more, ends_all, ends_begin, ends_more, lanes_left, next_device}
use Rattle.gps_serve.proofs.First.{missed_begin, missed_more, untold_begin, untold_more}
use Rattle.gps_serve.specs.Runs.{IsLeftOf}
use Rattle.serve_workers.proofs.Zips.{ran_begin, ran_end, ran_next}
use Rattle.gps_serve.proofs.settling.devices_done.Goals as goal

pub devices-init : goal.devices-init
devices-init g c =
    let runs = c.into_iter-run-iterator.ensures.into_iter_gives.0 in
    let empty = c.requires.empty in
    record {
      so_far = devices_begin _ _ _ _ _ _ _ c.requires.ready c.into_iter-inlets.ensures.rest runs c.requires.none;
      left_of = ran_begin IsLeftOf _ _ _ runs c.requires.none;
      causes = subst (EachRun (RunCause g.S.Source.faults)) (sym runs) c.requires.causes;
      ends = ends_begin _ _ _ c.requires.none c.into_iter-ends.ensures.rest;
      left = ap length c.into_iter-ends.ensures.rest ∙ c.requires.ends ∙ ap length (sym c.into_iter-inlets.ensures.rest);
      failed = λ (e : false ≡ true). absurd cc;
      missed = λ (e : false ≡ false). missed_begin (DeviceFailed g.S.Source.faults) _ c.requires.none;
      untold = λ (e : false ≡ false). untold_begin _ c.requires.none;
      count = omega (arith, empty, ap length runs, c.args.runs.ok.0);
      room = c.requires.enough;
    }

pub next_of-lanes-requires : goal.next_of-lanes-requires
next_of-lanes-requires g c = lanes_left _ _ _ _ _ _ _ _ c.devices.invariant.so_far c.in-Some.ensures.steps.0

pub next_of-end-requires : goal.next_of-end-requires
next_of-end-requires g c =
    let some = lanes_left _ _ _ _ _ _ _ _ c.devices.invariant.so_far c.in-Some.ensures.steps.0 in
    omega (arith, some, c.devices.invariant.left)

pub left_of-left-requires-clause-ready : goal.left_of-left-requires-clause-ready
left_of-left-requires-clause-ready g c =
    (next_device _ _ _ _ _ _ _ _ _ _ c.devices.invariant.so_far c.next_of-lanes.ensures c.in-Some.ensures.steps.0).ready.0

pub left_of-left-requires-clause-cause : goal.left_of-left-requires-clause-cause
left_of-left-requires-clause-cause g c = (subst (EachRun (RunCause g.S.Source.faults)) c.in-Some.ensures.steps.0 c.devices.invariant.causes).0

pub push_reserved-requires : goal.push_reserved-requires
push_reserved-requires g c = omega (arith, c.devices.invariant.count, c.devices.invariant.room, ap length c.in-Some.ensures.steps.0)

pub devices-preserved : goal.devices-preserved
devices-preserved g c = record {
  so_far = devices_more _ _ _ _ _ _ _ _ _ _ (next_device _ _ _ _ _ _ _ _ _ _ c.devices.invariant.so_far c.next_of-lanes.ensures c.in-Some.ensures.steps.0)
      c.left_of-left.ensures.served c.push_reserved.ensures.items;
  left_of = ran_next IsLeftOf _ _ _ _ _ _ _ c.devices.invariant.left_of c.in-Some.ensures.steps.0
      (record {
        source = c.left_of-left.ensures.source;
        edges = c.left_of-left.ensures.edges;
        bytes_tx = c.left_of-left.ensures.bytes_tx;
        edges_tx = c.left_of-left.ensures.edges_tx;
      }) c.push_reserved.ensures.items;
  causes = (subst (EachRun (RunCause g.S.Source.faults)) c.in-Some.ensures.steps.0 c.devices.invariant.causes).1;
  ends = ends_more _ _ _ _ _ _ _ c.devices.invariant.ends c.next_of-end.ensures c.left_of-left.ensures.end c.push_reserved.ensures.items;
  left = omega (arith, c.devices.invariant.left, ap length c.next_of-end.ensures, ap length c.next_of-lanes.ensures);
  failed = failed_more (DeviceFailed g.S.Source.faults) _ _ _ _ _ _ c.devices.invariant.failed c.left_of-left.ensures.failed c.either-failed.ensures c.push_reserved.ensures.items;
  missed = missed_more (DeviceFailed g.S.Source.faults) _ _ _ _ _ _ c.devices.invariant.missed c.left_of-left.ensures.missed c.either-failed.ensures c.push_reserved.ensures.items;
  untold = untold_more _ _ _ _ _ _ c.devices.invariant.untold c.left_of-left.ensures.untold c.either-failed.ensures c.push_reserved.ensures.items;
  count = omega (arith, c.push_reserved.ensures.len, c.devices.invariant.count, ap length c.in-Some.ensures.steps.0);
  room = omega (arith, c.push_reserved.ensures.capacity, c.devices.invariant.room);
}

pub returns-clause-served : goal.returns-clause-served
returns-clause-served g c = devices_all _ _ _ _ _ _ c.devices.invariant.so_far (sym c.devices.run-iterator.rest.ok.0 ∙ c.in-None.ensures.steps.0)

pub returns-clause-ends : goal.returns-clause-ends
returns-clause-ends g c =
    ends_all _ _ _ _ _ _ _ _ c.devices.invariant.so_far (sym c.devices.run-iterator.rest.ok.0 ∙ c.in-None.ensures.steps.0) c.devices.invariant.left c.devices.invariant.ends

pub returns-clause-failed : goal.returns-clause-failed
returns-clause-failed g c = c.devices.invariant.failed

pub returns-clause-missed : goal.returns-clause-missed
returns-clause-missed g c = c.devices.invariant.missed

pub returns-clause-untold : goal.returns-clause-untold
returns-clause-untold g c = c.devices.invariant.untold

pub returns-clause-left : goal.returns-clause-left
returns-clause-left g c = ran_end _ _ _ _ c.devices.invariant.left_of (sym c.devices.run-iterator.rest.ok.0 ∙ c.in-None.ensures.steps.0)
