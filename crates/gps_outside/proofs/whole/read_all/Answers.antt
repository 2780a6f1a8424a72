use Rattle.std.proofs.Common.{◌≡◌, ◌+◌, ◌∙◌, ap, arith, refl}
use Rattle.gps_outside.proofs.ReadSteps.{quiet_at_last, taken_none, taken_quiet}
use Rattle.gps_outside.proofs.whole.read_all.Goals as goal

pub rounds-init : goal.rounds-init
rounds-init g c = record {
  taken =
      rw c.new-bytes.ensures.items
      (taken_none c.args.limit c.new-intake.result (g.S.Source.content c.args.source.now) (g.S.Source.faults c.args.source.now) (g.S.Source.quiets c.args.source.now) c.new-intake.ensures);
  few = let none : c.new-intake.result.quiets ≡ 0 = ap (λ b. b.quiets) c.new-intake.ensures in omega (arith, none);
  faults = omega arith;
  quiets = omega arith;
}

pub rounds-preserved : goal.rounds-preserved
rounds-preserved g c = record {
  taken = taken_quiet c.args.limit c.rounds.bytes.items c.step.new.buf c.rounds.intake c.step.new.self _ _ _ _ _ _ _ _ _
      c.rounds.invariant.taken c.in-Quiet.ensures.budget c.in-Quiet.ensures.bytes c.in-Quiet.ensures.fails_only c.in-Quiet.ensures.counts_quiet;
  few = let next : c.step.new.self.quiets ≡ c.rounds.intake.quiets + 1 = ap (λ b. b.quiets) c.in-Quiet.ensures.budget.1 in
      let less = c.in-Quiet.ensures.budget.0 in omega (arith, next, less);
  faults = omega (arith, c.rounds.invariant.faults, c.in-Quiet.ensures.faults_stay);
  quiets = omega (arith, c.rounds.invariant.quiets, c.in-Quiet.ensures.quiets_stay);
}

pub returns-in-Last-clause-cause : goal.returns-in-Last-clause-cause
returns-in-Last-clause-cause g c = (
  c.in-Last.ensures.fails_only ∙ c.rounds.invariant.taken.no_fault,
  (c.rounds.intake.quiets, (c.rounds.invariant.few, c.in-Last.ensures.counts_quiet ∙ c.rounds.invariant.taken.quiet)),
)

pub returns-in-End-clause-cause : goal.returns-in-End-clause-cause
returns-in-End-clause-cause g c = (
  c.in-End.ensures.fails_only ∙ c.rounds.invariant.taken.no_fault,
  (c.rounds.intake.quiets, (c.rounds.invariant.few, c.in-End.ensures.counts_quiet ∙ c.rounds.invariant.taken.quiet)),
)

pub returns-in-Failed-clause-cause : goal.returns-in-Failed-clause-cause
returns-in-Failed-clause-cause g c = (
  rw (← c.rounds.invariant.taken.no_fault) (c.in-Failed.ensures.failed refl),
  (c.rounds.intake.quiets, (c.rounds.invariant.few, c.in-Failed.ensures.counts_quiet ∙ c.rounds.invariant.taken.quiet)),
)

pub returns-in-TooQuiet-clause-cause : goal.returns-in-TooQuiet-clause-cause
returns-in-TooQuiet-clause-cause g c = (
  c.in-TooQuiet.ensures.fails_only ∙ c.rounds.invariant.taken.no_fault,
  quiet_at_last c.args.limit c.rounds.bytes.items c.rounds.intake c.step.new.self _ _ _ _ _ _ _
      c.rounds.invariant.taken c.in-TooQuiet.ensures.budget c.in-TooQuiet.ensures.counts_quiet,
)
