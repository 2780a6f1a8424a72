use Rattle.std.proofs.Common.{arith}
use Rattle.shm_consumer.proofs.Storing.{keeps_valid}
use Rattle.shm_segment.proofs.Writing.{part_of, is_word}
use Rattle.shm_consumer.proofs.Writing.{view_of}
use Rattle.shm_consumer.proofs.stores.store_valid.Goals as goal

pub store-requires : goal.store-requires
store-requires c =
    let is = c.hand.view_is in
    let me = c.args.seat.now.me in (
      part_of _ _ _ is _ c.requires.at.part,
      is_word _ _ 9 c.hand.invariant c.from.ensures (omega arith),
      rw c.from.ensures (keeps_valid _ _ _ _ _ me (view_of _ _ _ is me c.requires.at.view) c.requires.at.made),
    )
