use Rattle.std.proofs.Common.{◌≡◌, ◌+◌, ◌∙◌, ap, subst, arith, refl}
use Rattle.gps_outside.specs.Counts.{Rose}
use Rattle.gps_outside.proofs.ReadSteps.{quiet_at_last}
use Rattle.class_counts.proofs.CountingSteps.{after_piece, after_quiet, begun, filled, stopped_in_last, stopped_in_piece}
use Rattle.class_counts.proofs.reading.read_lines.Goals as goal

pub rounds-init : goal.rounds-init
rounds-init g c = record {
  under_way = begun _ _ _ _ _ c.new-intake.ensures c.requires;
  few = let none : c.new-intake.result.quiets ≡ 0 = ap (λ b. b.quiets) c.new-intake.ensures in omega (arith, none);
  faults = omega arith;
  quiets = omega arith;
}

pub rounds-preserved : goal.rounds-preserved
rounds-preserved g c =
    let at = c.rounds.invariant in
    let round = c.in-Quiet.ensures in
    record {
      under_way = after_quiet c.step.new.buf _ _ _ _ _ _ _ _ _ _ _ _ at.under_way round.budget round.bytes round.fails_only round.counts_quiet;
      few = let next : c.step.new.self.quiets ≡ c.rounds.intake.quiets + 1 = ap (λ b. b.quiets) round.budget.1 in
          let less = round.budget.0 in omega (arith, next, less);
      faults = omega (arith, at.faults, round.faults_stay);
      quiets = omega (arith, at.quiets, round.quiets_stay);
    }

pub rounds-preserved-in-Ok : goal.rounds-preserved-in-Ok
rounds-preserved-in-Ok g c =
    let at = c.rounds.invariant in
    let round = c.in-Piece.ensures in
    record {
      under_way = after_piece c.in-Piece.n _ _ _ _ _ _ _ _ _ _ _ _ _ _ at.under_way round.fits round.budget round.bytes round.fails_only round.counts_quiet c.in-Ok.ensures;
      few = let same : c.step.new.self.quiets ≡ c.rounds.intake.quiets = ap (λ b. b.quiets) round.budget.1 in omega (arith, at.few, same);
      faults = omega (arith, at.faults, round.faults_stay);
      quiets = omega (arith, at.quiets, round.quiets_stay);
    }

pub returns-in-Err-clause-reads : goal.returns-in-Err-clause-reads
returns-in-Err-clause-reads g c =
    let round = c.in-Piece.ensures in
    stopped_in_piece c.in-Err.stop c.in-Piece.n _ _ _ _ _ _ _ _ _ _ _ _ _ _ c.rounds.invariant.under_way round.fits round.budget round.bytes round.fails_only round.counts_quiet c.in-Err.ensures

pub returns-in-Ok-feed-clause-reads : goal.returns-in-Ok-feed-clause-reads
returns-in-Ok-feed-clause-reads g c =
    let round = c.in-Last.ensures in
    filled c.in-Last.n _ _ _ _ _ _ _ _ _ _ _ _ c.rounds.invariant.under_way round.fits round.budget round.bytes c.in-Ok-feed.ensures

pub returns-in-Err-feed-clause-reads : goal.returns-in-Err-feed-clause-reads
returns-in-Err-feed-clause-reads g c =
    let round = c.in-Last.ensures in
    stopped_in_last c.in-Err-feed.stop c.in-Last.n _ _ _ _ _ _ _ _ _ _ _ _ c.rounds.invariant.under_way round.fits round.budget round.bytes c.in-Err-feed.ensures

pub returns-in-Err-clause-cause : goal.returns-in-Err-clause-cause
returns-in-Err-clause-cause g c =
    let at = c.rounds.invariant in
    let round = c.in-Piece.ensures in
    (round.fails_only ∙ at.under_way.taken.no_fault, (c.rounds.intake.quiets, (at.few, round.counts_quiet ∙ at.under_way.taken.quiet)))

pub returns-in-Ok-feed-clause-cause : goal.returns-in-Ok-feed-clause-cause
returns-in-Ok-feed-clause-cause g c =
    let at = c.rounds.invariant in
    let round = c.in-Last.ensures in
    (round.fails_only ∙ at.under_way.taken.no_fault, (c.rounds.intake.quiets, (at.few, round.counts_quiet ∙ at.under_way.taken.quiet)))

pub returns-in-Err-feed-clause-cause : goal.returns-in-Err-feed-clause-cause
returns-in-Err-feed-clause-cause g c =
    let at = c.rounds.invariant in
    let round = c.in-Last.ensures in
    (round.fails_only ∙ at.under_way.taken.no_fault, (c.rounds.intake.quiets, (at.few, round.counts_quiet ∙ at.under_way.taken.quiet)))

pub returns-in-End-clause-cause : goal.returns-in-End-clause-cause
returns-in-End-clause-cause g c =
    let at = c.rounds.invariant in
    let round = c.in-End.ensures in
    (round.fails_only ∙ at.under_way.taken.no_fault, (c.rounds.intake.quiets, (at.few, round.counts_quiet ∙ at.under_way.taken.quiet)))

pub returns-in-Failed-clause-cause : goal.returns-in-Failed-clause-cause
returns-in-Failed-clause-cause g c =
    let at = c.rounds.invariant in
    let round = c.in-Failed.ensures in (
      subst (λ n. Rose n (g.S.Source.faults c.step.new.source)) at.under_way.taken.no_fault (round.failed refl),
      (c.rounds.intake.quiets, (at.few, round.counts_quiet ∙ at.under_way.taken.quiet)),
    )

pub returns-in-TooQuiet-clause-cause : goal.returns-in-TooQuiet-clause-cause
returns-in-TooQuiet-clause-cause g c =
    let at = c.rounds.invariant in
    let round = c.in-TooQuiet.ensures in (
      round.fails_only ∙ at.under_way.taken.no_fault,
      quiet_at_last _ at.under_way.bytes c.rounds.intake c.step.new.self _ _ _ _ _ _ _ at.under_way.taken round.budget round.counts_quiet,
    )
