use Rattle.std.proofs.Common.{ℕ, ap, subst, ◌∙◌}
use Rattle.stamp_shares.specs.Shares.{Roll}
use Rattle.gps_serve.specs.Dealt.{AreNumbered}
use Rattle.gps_serve.proofs.Stamps.{dealt}
use Rattle.gps_serve.proofs.Started.{devices_ran, monitors_ran}
use Rattle.gps_serve.proofs.scope.work.Goals as goal

pub returns-clause-watched : goal.returns-clause-watched
returns-clause-watched g c = monitors_ran _ _ _ _ c.start_monitors-watching.ensures.started c.join_monitors-watched.ensures.joined

pub returns-clause-ran : goal.returns-clause-ran
returns-clause-ran g c = devices_ran _ _ _ _ _ c.start_devices-works.ensures.started c.join_devices-runs.ensures.joined

pub returns-clause-stamped : goal.returns-clause-stamped
returns-clause-stamped g c = record {
  given = λ empty.
      dealt _ _ _ _ _ _ c.start_devices-works.ensures.started
      (subst (λ (n : ℕ). AreNumbered n c.start_devices-works.result.items) (ap (λ (r : Roll). r.begun) c.args.setup.roll_new) c.start_devices-works.ensures.shares)
      c.join_devices-runs.ensures.shares c.settle.ensures.shares c.settle.ensures.by_clock empty;
}

pub join_devices-runs-requires-clause-no_share : goal.join_devices-runs-requires-clause-no_share
join_devices-runs-requires-clause-no_share g c = c.start_devices-works.ensures.ended ∙ ap (λ (r : Roll). r.ended) c.args.setup.roll_new
