use Rattle.std.proofs.Common.{◌≡◌, ◌+◌, refl, sym, ◌∙◌, ap, arith}
use Rattle.gps_outside.proofs.ReadSteps.{quiet_at_last}
use Rattle.line_player.proofs.Causes.{broken}
use Rattle.line_player.proofs.Reading.{after_piece, after_quiet, begun, broken_at_end, broken_in_last, broken_in_piece, by_rules, ended, filled, on_rules}
use Rattle.line_player.proofs.playing.read_through.Goals as goal

pub rounds-init : goal.rounds-init
rounds-init g c =
    let lines = c.new-lines.ensures in
    record {
      under_way = begun _ _ _ _ _ _ _ _ _ _ c.new-intake.ensures (lines.cutter_limit ∙ c.requires.limit) lines.stands lines.count c.requires.starts;
      few = let none : c.new-intake.result.quiets ≡ 0 = ap (λ b. b.quiets) c.new-intake.ensures in omega (arith, none);
      limit = lines.limit ∙ c.requires.limit;
      rules = refl;
      faults = omega arith;
      quiets = omega arith;
      takes = c.requires.takes;
      sunk = refl;
    }

pub rounds-preserved-in-Ok : goal.rounds-preserved-in-Ok
rounds-preserved-in-Ok g c =
    let before = c.rounds.invariant in
    let round = c.in-Piece.ensures in
    let given = c.in-Ok.ensures in
    record {
      under_way = on_rules given.rules_stay (after_piece c.step.new.buf _ _ before.under_way c.in-Piece.n _ _ _ _ _ _ round.fits round.budget round.bytes
          round.fails_only round.counts_quiet given.wrote given.at given.number);
      few = let same : c.step.new.self.quiets ≡ c.rounds.intake.quiets = ap (λ b. b.quiets) round.budget.1 in omega (arith, before.few, same);
      limit = given.limit_stays ∙ before.limit ∙ ap (λ r. r.limit) (sym given.rules_stay);
      rules = given.rules_stay ∙ before.rules;
      faults = omega (arith, before.faults, round.faults_stay);
      quiets = omega (arith, before.quiets, round.quiets_stay);
      takes = given.takes;
      sunk = given.cause ∙ before.sunk;
    }

pub rounds-preserved : goal.rounds-preserved
rounds-preserved g c =
    let before = c.rounds.invariant in
    let round = c.in-Quiet.ensures in
    record {
      under_way = after_quiet _ _ c.step.new.buf _ _ _ _ _ _ _ _ _ _ _ _ _ _ _ _ before.under_way round.budget round.bytes round.fails_only round.counts_quiet;
      few = let next : c.step.new.self.quiets ≡ c.rounds.intake.quiets + 1 = ap (λ b. b.quiets) round.budget.1 in
          let less = round.budget.0 in omega (arith, next, less);
      limit = before.limit;
      rules = before.rules;
      faults = omega (arith, before.faults, round.faults_stay);
      quiets = omega (arith, before.quiets, round.quiets_stay);
      takes = before.takes;
      sunk = before.sunk;
    }

pub returns-in-Err-clause-played : goal.returns-in-Err-clause-played
returns-in-Err-clause-played g c =
    let before = c.rounds.invariant in
    let round = c.in-Piece.ensures in
    by_rules before.rules (broken_in_piece c.step.new.buf _ _ before.under_way c.in-Piece.n _ _ _ _ round.fits round.budget round.bytes round.fails_only round.counts_quiet c.in-Err.ensures.wrote _ c.outcome.ensures)

pub returns-in-Ok-hand_on-clause-played : goal.returns-in-Ok-hand_on-clause-played
returns-in-Ok-hand_on-clause-played g c =
    let before = c.rounds.invariant in
    let round = c.in-Last.ensures in
    by_rules before.rules (filled c.step.new.buf _ _ before.under_way c.in-Last.n _ round.fits round.budget round.bytes c.in-Ok-hand_on.ensures.wrote)

pub returns-in-Err-hand_on-clause-played : goal.returns-in-Err-hand_on-clause-played
returns-in-Err-hand_on-clause-played g c =
    let before = c.rounds.invariant in
    let round = c.in-Last.ensures in
    by_rules before.rules (broken_in_last c.step.new.buf _ _ before.under_way c.in-Last.n _ _ round.fits round.budget round.bytes c.in-Err-hand_on.ensures.wrote _ c.outcome-in-Err-hand_on.ensures)

pub returns-in-Ok-close-clause-played : goal.returns-in-Ok-close-clause-played
returns-in-Ok-close-clause-played g c =
    let before = c.rounds.invariant in
    by_rules before.rules (ended c.step.new.buf _ _ before.under_way c.in-End.ensures.bytes c.in-Ok-close.ensures.wrote)

pub returns-in-Err-close-clause-played : goal.returns-in-Err-close-clause-played
returns-in-Err-close-clause-played g c =
    let before = c.rounds.invariant in
    by_rules before.rules (broken_at_end c.step.new.buf _ _ before.under_way _ c.in-End.ensures.bytes c.in-Err-close.ensures.wrote _ c.outcome-in-Err-close.ensures)

pub returns-in-Err-clause-cause : goal.returns-in-Err-clause-cause
returns-in-Err-clause-cause g c =
    let before = c.rounds.invariant in
    let round = c.in-Piece.ensures in
    broken _ _ _ _ _ c.outcome.ensures
    (round.fails_only ∙ before.under_way.taken.no_fault, (c.rounds.intake.quiets, (before.few, round.counts_quiet ∙ before.under_way.taken.quiet)))
    before.sunk c.in-Err.ensures.cause

pub returns-in-Ok-hand_on-clause-cause : goal.returns-in-Ok-hand_on-clause-cause
returns-in-Ok-hand_on-clause-cause g c =
    let before = c.rounds.invariant in
    let round = c.in-Last.ensures in (
      (round.fails_only ∙ before.under_way.taken.no_fault, (c.rounds.intake.quiets, (before.few, round.counts_quiet ∙ before.under_way.taken.quiet))),
      c.in-Ok-hand_on.ensures.cause ∙ before.sunk,
    )

pub returns-in-Err-hand_on-clause-cause : goal.returns-in-Err-hand_on-clause-cause
returns-in-Err-hand_on-clause-cause g c =
    let before = c.rounds.invariant in
    let round = c.in-Last.ensures in
    broken _ _ _ _ _ c.outcome-in-Err-hand_on.ensures
    (round.fails_only ∙ before.under_way.taken.no_fault, (c.rounds.intake.quiets, (before.few, round.counts_quiet ∙ before.under_way.taken.quiet)))
    before.sunk c.in-Err-hand_on.ensures.cause

pub returns-in-Ok-close-clause-cause : goal.returns-in-Ok-close-clause-cause
returns-in-Ok-close-clause-cause g c =
    let before = c.rounds.invariant in
    let round = c.in-End.ensures in (
      (round.fails_only ∙ before.under_way.taken.no_fault, (c.rounds.intake.quiets, (before.few, round.counts_quiet ∙ before.under_way.taken.quiet))),
      c.in-Ok-close.ensures.cause ∙ before.sunk,
    )

pub returns-in-Err-close-clause-cause : goal.returns-in-Err-close-clause-cause
returns-in-Err-close-clause-cause g c =
    let before = c.rounds.invariant in
    let round = c.in-End.ensures in
    broken _ _ _ _ _ c.outcome-in-Err-close.ensures
    (round.fails_only ∙ before.under_way.taken.no_fault, (c.rounds.intake.quiets, (before.few, round.counts_quiet ∙ before.under_way.taken.quiet)))
    before.sunk c.in-Err-close.ensures.cause

pub returns-in-Failed-clause-cause : goal.returns-in-Failed-clause-cause
returns-in-Failed-clause-cause g c =
    let before = c.rounds.invariant in
    let round = c.in-Failed.ensures in (
      (
        rw before.under_way.taken.no_fault at (round.failed refl),
        (c.rounds.intake.quiets, (before.few, round.counts_quiet ∙ before.under_way.taken.quiet)),
      ),
      before.sunk,
    )

pub returns-in-TooQuiet-clause-cause : goal.returns-in-TooQuiet-clause-cause
returns-in-TooQuiet-clause-cause g c =
    let before = c.rounds.invariant in
    let round = c.in-TooQuiet.ensures in (
      (
        round.fails_only ∙ before.under_way.taken.no_fault,
        quiet_at_last _ before.under_way.bytes c.rounds.intake c.step.new.self _ _ _ _ _ _ _ before.under_way.taken round.budget round.counts_quiet,
      ),
      before.sunk,
    )
