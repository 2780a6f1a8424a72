use Rattle.std.proofs.Common.{◌≡◌, ◌≤◌, ◌+◌, List, ℕ, length}
use Rattle.line_player.specs.LineSteps.{IsAt}
use Rattle.line_player.proofs.Running.{UnderWay}
use Rattle.line_player.proofs.lines.Lines.run.Given as goal

abbrev pub invariant-lines : goal.invariant-lines
invariant-lines g l = record {
  under_way : (bytes : List ℕ) → IsAt (g.P.PlaysLines.rules l.initial.player) bytes l.initial.self.cutter l.initial.self.count (g.P.PlaysLines.stands l.initial.player)
      → UnderWay (g.P.PlaysLines.rules l.initial.player) bytes l.piece l.rest l.self.cutter l.self.count (g.P.PlaysLines.stands l.player) l.initial.self.due l.self.due;
  number : l.self.count + length l.rest ≤ l.initial.self.count + length l.piece;
  limit : l.self.limit ≡ l.initial.self.limit;
  rules : g.P.PlaysLines.rules l.player ≡ g.P.PlaysLines.rules l.initial.player;
}

abbrev pub decreases-lines : goal.decreases-lines
decreases-lines g l = length l.rest
