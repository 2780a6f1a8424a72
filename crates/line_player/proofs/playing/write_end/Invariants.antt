use Rattle.std.proofs.Common.{◌≡◌, ◌++◌, List, ℕ, Ok}
use Rattle.line_player.specs.declared.plays_lines.EndStep.TheVariants.{More}
use Rattle.line_player.specs.LineSteps.{WritesPart}
use Rattle.line_player.proofs.playing.write_end.Given as goal

abbrev pub invariant-parts : goal.invariant-parts
invariant-parts g l = record {
  so_far : (left : List ℕ) → g.P.PlaysLines.ends l.initial.player left
      → WritesPart (Ok More) (l.initial.lines.due ++ left) (g.P.PlaysLines.ends l.player) l.lines.due
      (g.K.Sink.written l.initial.sink) (g.K.Sink.written l.sink);
  takes : g.K.Sink.takes l.sink;
  sunk : g.K.Sink.faults l.sink ≡ g.K.Sink.faults l.initial.sink;
}

abbrev pub decreases-parts : goal.decreases-parts
decreases-parts g l = g.P.PlaysLines.steps_left l.player
