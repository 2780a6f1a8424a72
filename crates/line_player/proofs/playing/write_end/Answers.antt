use Rattle.std.proofs.Common.{◌≡◌, ◌++◌, ◌∙◌, Ok, Err, Result, refl, subst}
use Rattle.line_player.specs.declared.plays_lines.EndStep.{EndStep}
use Rattle.line_player.specs.declared.plays_lines.EndStep.TheVariants.{More}
use Rattle.line_player.specs.declared.fault.Fault.{Fault}
use Rattle.line_player.specs.LineSteps.{WritesPart}
use Rattle.line_player.proofs.Ending.{none_written, writes_more}
use Rattle.line_player.proofs.playing.write_end.Goals as goal

pub parts-init : goal.parts-init
parts-init g c = record { so_far = λ left ends. none_written left _ _ _ ends; takes = c.requires.takes; sunk = refl }

pub parts-preserved : goal.parts-preserved
parts-preserved g c =
    let is : c.write_part.result ≡ Ok More = let ok = c.in-Ok-More.is in let more = c.in-Ok-More.field-0-is in cc in
    record {
      so_far = λ left ends.
          subst (λ (r : Result EndStep Fault). WritesPart r (c.args.lines.now.due ++ left) (g.P.PlaysLines.ends c.write_part.new.player) c.write_part.new.lines.due
          (g.K.Sink.written c.args.sink.now) (g.K.Sink.written c.write_part.new.sink)) is
          (writes_more c.write_part.result _ _ _ _ _ _ _ _ (c.parts.invariant.so_far left ends) c.write_part.ensures.wrote);
      takes = c.write_part.ensures.takes;
      sunk = c.in-Ok-More.ensures.cause ∙ c.parts.invariant.sunk;
    }

pub returns-in-Err-clause-wrote : goal.returns-in-Err-clause-wrote
returns-in-Err-clause-wrote g c =
    let is : c.write_part.result ≡ Err c.in-Err.fault = let err = c.in-Err.is in cc in
    λ left ends.
    subst (λ (r : Result EndStep Fault). WritesPart r (c.args.lines.now.due ++ left) (g.P.PlaysLines.ends c.write_part.new.player) c.write_part.new.lines.due
    (g.K.Sink.written c.args.sink.now) (g.K.Sink.written c.write_part.new.sink)) is
    (writes_more c.write_part.result _ _ _ _ _ _ _ _ (c.parts.invariant.so_far left ends) c.write_part.ensures.wrote)
