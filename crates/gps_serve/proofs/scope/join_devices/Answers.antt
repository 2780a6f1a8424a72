use Rattle.std.proofs.Common.{◌≡◌, length, sym, ◌∙◌, ap, subst, arith}
use Rattle.serve_end.specs.Runs.{EachRun, RunCause}
use Rattle.serve_end.proofs.Causes.{each_run_more}
use Rattle.std.specs.Vec.Iter.{into_iter_items}
use Rattle.serve_workers.proofs.Zips.{ran_begin, ran_end, ran_next}
use Rattle.gps_serve.proofs.Stamps.{none_used, used_end, used_next}
use Rattle.stamp_shares.specs.Shares.{Roll}
use Rattle.gps_serve.proofs.scope.join_devices.Goals as goal

pub works-preserved : goal.works-preserved
works-preserved g c =
    let P = RunCause g.S.Source.faults in
    record {
      so_far = ran_next _ _ _ _ _ _ _ _ c.works.invariant.so_far c.in-Some.ensures.steps.0 c.join_readers-run.ensures.ran c.push_reserved.ensures.items;
      causes = subst (EachRun P) (sym c.push_reserved.ensures.items)
          (each_run_more P c.works.runs.items c.join_readers-run.result.run c.works.invariant.causes c.join_readers-run.ensures.cause);
      count = omega (arith, c.push_reserved.ensures.len, c.works.invariant.count, ap length c.in-Some.ensures.steps.0);
      room = omega (arith, c.push_reserved.ensures.capacity, c.works.invariant.room);
      shares = used_next _ _ _ _ _ _ _ _ _ _ c.works.invariant.shares c.in-Some.ensures.steps.0 c.join_readers-run.ensures.share c.push_reserved.ensures.items
          (ap (λ (r : Roll). r.ended) c.end.ensures.roll);
    }

pub returns-clause-joined : goal.returns-clause-joined
returns-clause-joined g c = ran_end _ _ _ _ c.works.invariant.so_far (sym c.works.work-iterator.rest.ok.0 ∙ c.in-None.ensures.steps.0)

pub returns-clause-shares : goal.returns-clause-shares
returns-clause-shares g c = used_end _ _ _ _ c.works.invariant.shares (sym c.works.work-iterator.rest.ok.0 ∙ c.in-None.ensures.steps.0)

pub works-init : goal.works-init
works-init g c =
    let gives : into_iter_items c.into_iter-work-iterator.result ≡ c.args.works.items = c.into_iter-work-iterator.ensures.into_iter_gives.0 in
    record {
      so_far = ran_begin _ _ _ _ gives c.requires.none;
      causes = subst (EachRun (RunCause g.S.Source.faults)) (sym c.requires.none) tt;
      count = omega (arith, c.requires.empty, ap length gives, c.args.works.ok.0);
      room = c.requires.enough;
      shares = none_used _ _ _ _ gives c.requires.none c.requires.no_share;
    }
