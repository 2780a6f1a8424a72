use Rattle.std.proofs.Common.{arith}
use Rattle.shm_segment.proofs.Writing.{part_of, is_word}
use Rattle.shm_consumer.proofs.Looking.{validates_as}
use Rattle.shm_consumer.proofs.loads.load_valid.Goals as goal

pub load-requires : goal.load-requires
load-requires c =
    let part = c.requires.part in (
      part_of _ _ _ c.hand.view_is _ part.part,
      is_word _ _ 9 c.hand.invariant c.from.ensures (omega arith),
      rw c.from.ensures (validates_as _ _ _ c.args.seat.now.me part.role part.free c.requires.reading),
    )
