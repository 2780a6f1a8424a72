use Rattle.std.proofs.Common.{◌≡◌, ◌+◌, ◌∙◌, inl, inr, ap, subst, arith, refl}
use Rattle.gps_outside.specs.Counts.{Rose}
use Rattle.gps_outside.proofs.ReadSteps.{quiet_at_last}
use Rattle.gps_decode.proofs.Causes.{broken, not_written}
use Rattle.gps_decode.proofs.UnderWay.{begun, had_some, after_piece, after_quiet, ready_or_flushed}
use Rattle.gps_decode.proofs.Ends.{broken_in_piece, broken_in_last, filled, ended, broken_at_end, failed, too_quiet, not_flushed, unwritten}
use Rattle.gps_decode.proofs.decoding.write_reports.Goals as goal

pub rounds-init : goal.rounds-init
rounds-init g c = record {
  under_way = begun _ _ _ _ _ _ _ _ _ _ c.new-intake.ensures c.new-device.ensures.stands c.new-draft.ensures;
  few = let none : c.new-intake.result.quiets ≡ 0 = ap (λ b. b.quiets) c.new-intake.ensures in omega (arith, none);
  faults = omega arith;
  quiets = omega arith;
  takes = c.requires.takes;
  sunk = refl;
}

pub returns-then-not-flush_unless_ready-clause-decoded : goal.returns-then-not-flush_unless_ready-clause-decoded
returns-then-not-flush_unless_ready-clause-decoded g c =
    not_flushed _ _ _ _ _ _ _ _ _ _ _ _ _ _ _ _ c.rounds.invariant.under_way c.if-not-flush_unless_ready.ensures.bytes

pub rounds-preserved-in-Ok : goal.rounds-preserved-in-Ok
rounds-preserved-in-Ok g c =
    let at = c.rounds.invariant in
    let round = c.in-Piece.ensures in
    let ready = ready_or_flushed _ _ _ _ _ _ _ _ _ _ _ _ _ _ _ _ _ at.under_way c.if-not-flush_unless_ready.ensures.bytes in
    record {
      under_way = after_piece _ c.in-Piece.n _ _ _ _ _ _ _ _ _ _ _ _ _ _ _ _ _ _ _ _ _ _ _ _ ready (omega arith) round.fits round.budget round.bytes round.fails_only round.counts_quiet c.now.ensures c.in-Ok.ensures.lines;
      few = let same : c.step.new.self.quiets ≡ c.rounds.intake.quiets = ap (λ b. b.quiets) round.budget.1 in omega (arith, at.few, same);
      faults = omega (arith, at.faults, round.faults_stay);
      quiets = omega (arith, at.quiets, round.quiets_stay);
      takes = c.in-Ok.ensures.takes;
      sunk = c.in-Ok.ensures.cause ∙ c.if-not-flush_unless_ready.ensures.fails_only refl ∙ at.sunk;
    }

pub returns-in-Err-clause-decoded : goal.returns-in-Err-clause-decoded
returns-in-Err-clause-decoded g c =
    let round = c.in-Piece.ensures in
    let ready = ready_or_flushed _ _ _ _ _ _ _ _ _ _ _ _ _ _ _ _ _ c.rounds.invariant.under_way c.if-not-flush_unless_ready.ensures.bytes in
    broken_in_piece _ c.in-Piece.n _ _ _ _ _ _ _ _ _ _ _ _ _ _ _ _ _ _ _ _ _ _ _ _ _ ready (omega arith) round.fits round.budget round.bytes round.fails_only round.counts_quiet c.now.ensures c.in-Err.ensures.lines _ c.outcome.ensures

pub rounds-preserved : goal.rounds-preserved
rounds-preserved g c =
    let at = c.rounds.invariant in
    let round = c.in-Quiet.ensures in
    let ready = ready_or_flushed _ _ _ _ _ _ _ _ _ _ _ _ _ _ _ _ _ at.under_way c.if-not-flush_unless_ready.ensures.bytes in
    record {
      under_way = after_quiet _ _ c.step.new.buf _ _ _ _ _ _ _ _ _ _ _ _ _ _ _ _ _ ready round.budget round.bytes round.fails_only round.counts_quiet;
      few = let next : c.step.new.self.quiets ≡ c.rounds.intake.quiets + 1 = ap (λ b. b.quiets) round.budget.1 in
          let less = round.budget.0 in omega (arith, next, less);
      faults = omega (arith, at.faults, round.faults_stay);
      quiets = omega (arith, at.quiets, round.quiets_stay);
      takes = c.if-not-flush_unless_ready.ensures.takes;
      sunk = c.if-not-flush_unless_ready.ensures.fails_only refl ∙ at.sunk;
    }

pub returns-in-Ok-hand_on_last-clause-decoded : goal.returns-in-Ok-hand_on_last-clause-decoded
returns-in-Ok-hand_on_last-clause-decoded g c =
    let round = c.in-Last.ensures in
    let ready = ready_or_flushed _ _ _ _ _ _ _ _ _ _ _ _ _ _ _ _ _ c.rounds.invariant.under_way c.if-not-flush_unless_ready.ensures.bytes in
    filled _ c.in-Last.n _ _ _ _ _ _ _ _ _ _ _ _ _ _ _ _ _ _ _ _ _ ready (omega arith) round.fits round.budget round.bytes c.now-in-Last.ensures c.in-Ok-hand_on_last.ensures.lines

pub returns-in-Err-hand_on_last-clause-decoded : goal.returns-in-Err-hand_on_last-clause-decoded
returns-in-Err-hand_on_last-clause-decoded g c =
    let round = c.in-Last.ensures in
    let ready = ready_or_flushed _ _ _ _ _ _ _ _ _ _ _ _ _ _ _ _ _ c.rounds.invariant.under_way c.if-not-flush_unless_ready.ensures.bytes in
    broken_in_last _ c.in-Last.n _ _ _ _ _ _ _ _ _ _ _ _ _ _ _ _ _ _ _ _ _ _ _ ready (omega arith) round.fits round.budget round.bytes c.now-in-Last.ensures c.in-Err-hand_on_last.ensures.lines _ c.outcome-in-Err-hand_on_last.ensures

pub returns-in-Err-close-clause-decoded : goal.returns-in-Err-close-clause-decoded
returns-in-Err-close-clause-decoded g c =
    let ready = ready_or_flushed _ _ _ _ _ _ _ _ _ _ _ _ _ _ _ _ _ c.rounds.invariant.under_way c.if-not-flush_unless_ready.ensures.bytes in
    broken_at_end _ _ c.step.new.buf _ _ _ _ _ _ _ _ _ _ _ _ _ _ _ _ ready c.in-End.ensures.bytes c.in-Err-close.ensures.lines _ c.outcome-in-Err-close.ensures

pub returns-in-Failed-clause-decoded : goal.returns-in-Failed-clause-decoded
returns-in-Failed-clause-decoded g c =
    let ready = ready_or_flushed _ _ _ _ _ _ _ _ _ _ _ _ _ _ _ _ _ c.rounds.invariant.under_way c.if-not-flush_unless_ready.ensures.bytes in
    unwritten _ _ c.step.new.buf _ _ _ _ _ _ _ _ _ _ _ _ _ _ _ ready
    (had_some (c.if-not-flush_unless_ready.ensures.kept refl) c.if-flush.ensures.none (λ keeps. c.in-Failed.ensures.kept keeps refl)) c.if-flush.ensures.bytes

pub returns-in-TooQuiet-clause-decoded : goal.returns-in-TooQuiet-clause-decoded
returns-in-TooQuiet-clause-decoded g c =
    let ready = ready_or_flushed _ _ _ _ _ _ _ _ _ _ _ _ _ _ _ _ _ c.rounds.invariant.under_way c.if-not-flush_unless_ready.ensures.bytes in
    unwritten _ _ c.step.new.buf _ _ _ _ _ _ _ _ _ _ _ _ _ _ _ ready c.in-TooQuiet.ensures.bytes c.if-flush-2.ensures.bytes

pub returns-then-not-flush_unless_ready-clause-cause : goal.returns-then-not-flush_unless_ready-clause-cause
returns-then-not-flush_unless_ready-clause-cause g c =
    let at = c.rounds.invariant in
    inl (
      (at.under_way.taken.no_fault, (c.rounds.intake.quiets, (at.few, at.under_way.taken.quiet))),
      not_written _ _ _ at.sunk (c.if-not-flush_unless_ready.ensures.failed refl),
    )

pub returns-in-Err-clause-cause : goal.returns-in-Err-clause-cause
returns-in-Err-clause-cause g c =
    let at = c.rounds.invariant in
    let round = c.in-Piece.ensures in
    broken _ _ _ _ _ c.outcome.ensures
    (round.fails_only ∙ at.under_way.taken.no_fault, (c.rounds.intake.quiets, (at.few, round.counts_quiet ∙ at.under_way.taken.quiet)))
    (c.if-not-flush_unless_ready.ensures.fails_only refl ∙ at.sunk) c.in-Err.ensures.cause

pub returns-in-Ok-hand_on_last-clause-cause : goal.returns-in-Ok-hand_on_last-clause-cause
returns-in-Ok-hand_on_last-clause-cause g c =
    let at = c.rounds.invariant in
    let round = c.in-Last.ensures in
    inl (
      (round.fails_only ∙ at.under_way.taken.no_fault, (c.rounds.intake.quiets, (at.few, round.counts_quiet ∙ at.under_way.taken.quiet))),
      c.in-Ok-hand_on_last.ensures.cause ∙ (c.if-not-flush_unless_ready.ensures.fails_only refl ∙ at.sunk),
    )

pub returns-in-Err-hand_on_last-clause-cause : goal.returns-in-Err-hand_on_last-clause-cause
returns-in-Err-hand_on_last-clause-cause g c =
    let at = c.rounds.invariant in
    let round = c.in-Last.ensures in
    broken _ _ _ _ _ c.outcome-in-Err-hand_on_last.ensures
    (round.fails_only ∙ at.under_way.taken.no_fault, (c.rounds.intake.quiets, (at.few, round.counts_quiet ∙ at.under_way.taken.quiet)))
    (c.if-not-flush_unless_ready.ensures.fails_only refl ∙ at.sunk) c.in-Err-hand_on_last.ensures.cause

pub returns-in-Ok-close-clause-cause : goal.returns-in-Ok-close-clause-cause
returns-in-Ok-close-clause-cause g c =
    let at = c.rounds.invariant in
    let round = c.in-End.ensures in
    inl (
      (round.fails_only ∙ at.under_way.taken.no_fault, (c.rounds.intake.quiets, (at.few, round.counts_quiet ∙ at.under_way.taken.quiet))),
      c.in-Ok-close.ensures.cause ∙ (c.if-not-flush_unless_ready.ensures.fails_only refl ∙ at.sunk),
    )

pub returns-in-Err-close-clause-cause : goal.returns-in-Err-close-clause-cause
returns-in-Err-close-clause-cause g c =
    let at = c.rounds.invariant in
    let round = c.in-End.ensures in
    broken _ _ _ _ _ c.outcome-in-Err-close.ensures
    (round.fails_only ∙ at.under_way.taken.no_fault, (c.rounds.intake.quiets, (at.few, round.counts_quiet ∙ at.under_way.taken.quiet)))
    (c.if-not-flush_unless_ready.ensures.fails_only refl ∙ at.sunk) c.in-Err-close.ensures.cause

pub returns-then-flush-clause-cause : goal.returns-then-flush-clause-cause
returns-then-flush-clause-cause g c =
    let at = c.rounds.invariant in
    let round = c.in-Failed.ensures in
    inl (
      (
        subst (λ n. Rose n (g.S.Source.faults c.step.new.source)) at.under_way.taken.no_fault (round.failed refl),
        (c.rounds.intake.quiets, (at.few, round.counts_quiet ∙ at.under_way.taken.quiet)),
      ),
      c.if-flush.ensures.fails_only refl ∙ (c.if-not-flush_unless_ready.ensures.fails_only refl ∙ at.sunk),
    )

pub returns-in-Failed-clause-cause : goal.returns-in-Failed-clause-cause
returns-in-Failed-clause-cause g c =
    let at = c.rounds.invariant in
    let round = c.in-Failed.ensures in
    inr (
      refl,
      inl (
        subst (λ n. Rose n (g.S.Source.faults c.step.new.source)) at.under_way.taken.no_fault (round.failed refl),
        (c.rounds.intake.quiets, (at.few, round.counts_quiet ∙ at.under_way.taken.quiet)),
      ),
      not_written _ _ _ (c.if-not-flush_unless_ready.ensures.fails_only refl ∙ at.sunk) (c.if-flush.ensures.failed refl),
    )

pub returns-then-flush-2-clause-cause : goal.returns-then-flush-2-clause-cause
returns-then-flush-2-clause-cause g c =
    let at = c.rounds.invariant in
    let round = c.in-TooQuiet.ensures in
    inl (
      (
        round.fails_only ∙ at.under_way.taken.no_fault,
        quiet_at_last _ _ c.rounds.intake c.step.new.self _ _ _ _ _ _ _ at.under_way.taken round.budget round.counts_quiet,
      ),
      c.if-flush-2.ensures.fails_only refl ∙ (c.if-not-flush_unless_ready.ensures.fails_only refl ∙ at.sunk),
    )

pub returns-in-TooQuiet-clause-cause : goal.returns-in-TooQuiet-clause-cause
returns-in-TooQuiet-clause-cause g c =
    let at = c.rounds.invariant in
    let round = c.in-TooQuiet.ensures in
    inr (
      refl,
      inr (
        round.fails_only ∙ at.under_way.taken.no_fault,
        quiet_at_last _ _ c.rounds.intake c.step.new.self _ _ _ _ _ _ _ at.under_way.taken round.budget round.counts_quiet,
      ),
      not_written _ _ _ (c.if-not-flush_unless_ready.ensures.fails_only refl ∙ at.sunk) (c.if-flush-2.ensures.failed refl),
    )

pub returns-in-Ok-close-clause-decoded : goal.returns-in-Ok-close-clause-decoded
returns-in-Ok-close-clause-decoded g c =
    let ready = ready_or_flushed _ _ _ _ _ _ _ _ _ _ _ _ _ _ _ _ _ c.rounds.invariant.under_way c.if-not-flush_unless_ready.ensures.bytes in
    ended _ _ c.step.new.buf _ _ _ _ _ _ _ _ _ _ _ _ _ _ _ ready c.in-End.ensures.bytes c.in-Ok-close.ensures.lines

pub returns-then-flush-clause-decoded : goal.returns-then-flush-clause-decoded
returns-then-flush-clause-decoded g c =
    let ready = ready_or_flushed _ _ _ _ _ _ _ _ _ _ _ _ _ _ _ _ _ c.rounds.invariant.under_way c.if-not-flush_unless_ready.ensures.bytes in
    failed _ _ c.step.new.buf _ _ _ _ _ _ _ _ _ _ _ _ _ _ _ ready c.in-Failed.ensures.bytes c.if-flush.ensures.bytes

pub returns-then-flush-2-clause-decoded : goal.returns-then-flush-2-clause-decoded
returns-then-flush-2-clause-decoded g c =
    let ready = ready_or_flushed _ _ _ _ _ _ _ _ _ _ _ _ _ _ _ _ _ c.rounds.invariant.under_way c.if-not-flush_unless_ready.ensures.bytes in
    too_quiet _ _ c.step.new.buf _ _ _ _ _ _ _ _ _ _ _ _ _ _ _ ready c.in-TooQuiet.ensures.bytes c.if-flush-2.ensures.bytes
