use Rattle.std.proofs.Common.{IfOk, subst}
use Rattle.replay_player.specs.Ending.{Leaves}
use Rattle.replay_player.proofs.Finishing.{written_same}
use Rattle.replay_player.proofs.player.end_first.Goals as goal

pub returns : goal.returns
returns c =
    subst (λ w. IfOk c.of.result (λ end. Leaves end w))
    (written_same c.args.declarations.names c.args.declarations.firsts)
    (c.of.ensures _ c.in_ok-stage.ensures)
