use Rattle.std.proofs.Common.{arith}
use Rattle.hub_door.proofs.Rules.{notes}
use Rattle.hub_door.proofs.steps.renew.Goals as goal

pub split_seat-requires : goal.split_seat-requires
split_seat-requires c =
    (c.requires.hub.0, (let one = c.requires.one in omega arith), notes _ c.args.hub.now.me.0)
