use Rattle.std.proofs.Common.{arith}
use Rattle.gps_lane.proofs.Bonding.{ties_as}
use Rattle.gps_lane.proofs.bond.store.Goals as goal

pub store-requires : goal.store-requires
store-requires g c = (c.requires.seat.0, (let one = c.requires.one in omega arith), ties_as _ c.args.seat.now.me c.requires.seat.1 _ g.E.Bonding.bond)
