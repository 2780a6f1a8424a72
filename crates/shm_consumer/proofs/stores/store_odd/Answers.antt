use Rattle.std.proofs.Common.{◌+◌, ◌/◌, sym, ap, ◌∙◌, arith}
use Rattle.shm_segment.specs.Seats.{SegmentId}
use Rattle.shm_consumer.proofs.Storing.{keeps_odd}
use Rattle.shm_segment.proofs.Writing.{part_of, is_word}
use Rattle.shm_consumer.proofs.Writing.{view_of}
use Rattle.shm_consumer.proofs.stores.store_odd.Goals as goal

pub store-requires : goal.store-requires
store-requires c =
    let is = c.hand.view_is in
    let first = ap (λ (s : SegmentId). s.first) is in
    let me = c.args.seat.now.me in (
      part_of _ _ _ is _ c.requires.at.part,
      is_word _ _ 1 c.hand.invariant c.from-2.ensures (omega arith),
      rw (c.from-2.ensures, c.from.ensures) (keeps_odd _ _ _ _ _ me (view_of _ _ _ is me c.requires.at.view) _ c.requires.at.made (c.requires.number ∙ ap (λ n. n + me.0.known.stores / 13) (sym first))),
    )
