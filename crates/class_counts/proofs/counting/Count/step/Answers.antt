use Rattle.std.proofs.Common.{Err, ap, subst, sym, refl}
use Rattle.line_cut.specs.Standing.{IsStep}
use Rattle.gps_client.specs.Texts.{IsLineOf}
use Rattle.class_counts.proofs.Readings.{long_met, read_on, stop_met}
use Rattle.class_counts.proofs.counting.Count.step.Goals as goal

pub returns-in-Ok-clause-round : goal.returns-in-Ok-clause-round
returns-in-Ok-clause-round c = λ bytes so_far.
    let step = subst (λ next. IsStep c.args.self.now.cutter c.next.new.self bytes c.args.piece.now next) c.in-Ok-Line.field-0-is (c.in-Ok-Line.ensures.steps bytes so_far.cutter) in
    read_on _ _ bytes c.args.piece.now _ c.in-Ok-Line.used c.in-Ok.read so_far step.gives
    (subst (λ l. IsLineOf c.in-Ok.read l) c.as_slice.ensures c.in-Ok.ensures.ok)
    step.stands c.in-Ok-Line.ensures.limit c.add.ensures c.saturating_add-self.ensures

pub returns-in-Ok-Line-clause-round : goal.returns-in-Ok-Line-clause-round
returns-in-Ok-Line-clause-round c = λ bytes so_far.
    let step = subst (λ next. IsStep c.args.self.now.cutter c.next.new.self bytes c.args.piece.now next) c.in-Ok-Line.field-0-is (c.in-Ok-Line.ensures.steps bytes so_far.cutter) in
    stop_met c.in-Err-read.stop _ _ bytes c.args.piece.now _ c.in-Ok-Line.used so_far step.gives
    (λ bad v is. c.in-Err-read.ensures.bad (ap (λ s. Err s) bad) v (subst (λ l. IsLineOf v l) (sym c.as_slice.ensures) is)) refl

pub returns-in-Ok-TooLong-clause-round : goal.returns-in-Ok-TooLong-clause-round
returns-in-Ok-TooLong-clause-round c = λ bytes so_far.
    long_met _ bytes c.args.piece.now c.in-Ok-TooLong.field-0-0 so_far
    (subst (λ next. IsStep c.args.self.now.cutter c.next.new.self bytes c.args.piece.now next) c.in-Ok-TooLong.field-0-is (c.in-Ok-TooLong.ensures.steps bytes so_far.cutter)).gives
