use Rattle.std.proofs.Common.{◌≡◌, ◌++◌, OnOk, subst}
use Rattle.replay_player.proofs.Finishing.{closed_same}
use Rattle.replay_player.proofs.player.close_first.Goals as goal

pub returns : goal.returns
returns c =
    subst (λ w. OnOk c.close_on.result (c.close_on.new.out ≡ c.args.out.now ++ w))
    (closed_same c.args.declarations.names c.args.declarations.firsts)
    (c.close_on.ensures _ c.in_ok-stage.ensures)
