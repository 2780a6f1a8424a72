use Rattle.std.proofs.Common.{Ok, ap, arith}
use Rattle.line_player.specs.declared.plays_lines.EndStep.TheVariants.{Last, More}
use Rattle.line_player.proofs.Ending.{no_part, part_more}
use Rattle.line_player.proofs.lines.Lines.add_end.Goals as goal

pub parts-init : goal.parts-init
parts-init g c = record { so_far = λ left is. no_part left _ _ is; steps = omega arith }

pub parts-preserved : goal.parts-preserved
parts-preserved g c = record {
  so_far = λ left is. part_more (Ok More) left _ _ _ _ _ (c.parts.invariant.so_far left is) (rw c.in-More.is at c.in_ok-end_step.ensures.part);
  steps = omega (arith, c.parts.invariant.steps, c.in_ok-end_step.ensures.fewer (ap Ok c.in-More.is));
}

pub returns-then-len-ge-ENOUGH_DUE-clause-part : goal.returns-then-len-ge-ENOUGH_DUE-clause-part
returns-then-len-ge-ENOUGH_DUE-clause-part g c = λ left is.
    part_more (Ok More) left _ _ _ _ _ (c.parts.invariant.so_far left is) (rw c.in-More.is at c.in_ok-end_step.ensures.part)

pub returns-in-Last-clause-part : goal.returns-in-Last-clause-part
returns-in-Last-clause-part g c = λ left is.
    part_more (Ok Last) left _ (g.P.PlaysLines.ends c.end_step.new.self) _ _ _ (c.parts.invariant.so_far left is) (rw c.in-Last.is at c.in_ok-end_step.ensures.part)
