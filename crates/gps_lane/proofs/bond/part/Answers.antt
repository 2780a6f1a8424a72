use Rattle.std.proofs.Common.{ap, arith}
use Rattle.gps_lane.proofs.Bonding.{parts}
use Rattle.gps_lane.proofs.bond.part.Goals as goal

pub split_seat-requires : goal.split_seat-requires
split_seat-requires g c =
    (c.requires.seat.0, (let one = c.requires.one in omega arith), parts _ _ (ap (λ m. m.0.gets) c.requires.seat.1))
