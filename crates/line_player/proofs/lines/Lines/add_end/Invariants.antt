use Rattle.std.proofs.Common.{◌≤◌, List, ℕ, Ok}
use Rattle.line_player.specs.declared.plays_lines.EndStep.TheVariants.{More}
use Rattle.line_player.specs.LineSteps.{EndPart}
use Rattle.line_player.proofs.lines.Lines.add_end.Given as goal

abbrev pub invariant-parts : goal.invariant-parts
invariant-parts g l = record {
  so_far : (left : List ℕ) → g.P.PlaysLines.ends l.initial.player left
      → EndPart (Ok More) left (g.P.PlaysLines.ends l.player) l.initial.self.due l.self.due;
  steps : g.P.PlaysLines.steps_left l.player ≤ g.P.PlaysLines.steps_left l.initial.player;
}

abbrev pub decreases-parts : goal.decreases-parts
decreases-parts g l = g.P.PlaysLines.steps_left l.player
