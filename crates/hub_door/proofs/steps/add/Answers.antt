use Rattle.std.proofs.Common.{arith}
use Rattle.hub_door.proofs.Rules.{adds_as}
use Rattle.hub_door.proofs.steps.add.Goals as goal

pub store-requires : goal.store-requires
store-requires g c =
    (c.requires.hub.0, (let one = c.requires.one in omega arith), adds_as _ c.args.hub.now.me c.requires.hub.1 _ g.E.Entering.entry)
