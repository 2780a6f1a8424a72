use Rattle.std.proofs.Common.{arith}
use Rattle.shm_segment.proofs.Writing.{part_of, is_word}
use Rattle.shm_consumer.proofs.Looking.{clears_as}
use Rattle.shm_consumer.proofs.loads.store_clear.Goals as goal

pub store-requires : goal.store-requires
store-requires c =
    let part = c.requires.part in (
      part_of _ _ _ c.hand.view_is _ part.part,
      is_word _ _ 9 c.hand.invariant c.from.ensures (omega arith),
      rw c.from.ensures (clears_as _ _ _ c.args.seat.now.me part.role part.free c.requires.read),
    )
