use Rattle.std.proofs.Common.{◌+◌, ◌<◌, length, ap, subst, arith}
use Rattle.shm_segment.specs.Samples.{IsSample}
use Rattle.shm_segment.specs.Seats.{SegmentId}
use Rattle.shm_consumer.proofs.Storing.{keeps_invalid}
use Rattle.shm_segment.proofs.Writing.{part_of, is_word}
use Rattle.shm_consumer.proofs.Writing.{view_of}
use Rattle.shm_consumer.proofs.stores.store_invalid.Goals as goal

pub store-requires : goal.store-requires
store-requires g c =
    let is = c.hand.view_is in
    let first = ap (λ (s : SegmentId). s.first) is in
    let me = c.args.seat.now.me in
    let room : c.hand.inside.table.shared.key + length me.0.known.samples < 1073741823 = let room = c.requires.number in omega arith in (
      part_of _ _ _ is _ c.requires.at.part,
      is_word _ _ 9 c.hand.invariant c.from.ensures (omega arith),
      rw c.from.ensures (keeps_invalid _ _ _ _ _ me (view_of _ _ _ is me c.requires.at.view) _ c.requires.at.made room (subst IsSample c.requires.picked c.requires.range)),
    )
