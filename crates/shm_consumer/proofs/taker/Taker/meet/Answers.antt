-- The notice is joined to the taker's seat, and the load makes both agree.
use Rattle.std.proofs.Common.{ap, ◌∙◌, arith}
use Rattle.shm_segment.specs.Seats.{SegmentId, Noticed}
use Rattle.shm_segment.proofs.Writing.{part_of}
use Rattle.shm_consumer.specs.Taking.{Taking}
use Rattle.shm_consumer.proofs.Looking.{meets_as}
use Rattle.shm_consumer.proofs.Parting.{takes_notice}
use Rattle.shm_consumer.proofs.taker.Taker.meet.Goals as goal

pub join_seat-requires : goal.join_seat-requires
join_seat-requires c =
    let mine = ap (λ (t : Taking). t.segment) c.self.view_is ∙ c.requires.taker in
    let theirs = ap (λ (n : Noticed). n.segment) c.notice.view_is ∙ c.requires.notice in (
      part_of _ _ _ c.hand.view_is _ (ap (λ (s : SegmentId). s.table) mine),
      part_of _ _ _ c.hand.view_is _ (ap (λ (s : SegmentId). s.table) theirs),
      ap (λ m. m.1) c.notice.invariant,
      (let words = c.hand.invariant in omega arith),
      takes_notice _ _ c.self.inside.seat.me.0 c.self.invariant.role _ _ (ap (λ m. m.0.role) c.notice.invariant),
    )

pub load-requires : goal.load-requires
load-requires c =
    let mine = ap (λ (t : Taking). t.segment) c.self.view_is ∙ c.requires.taker in
    let joined = c.join_seat.ensures in (
      part_of _ _ _ c.hand.view_is _ (joined.0 ∙ ap (λ (s : SegmentId). s.table) mine),
      (let words = c.hand.invariant in omega arith),
      meets_as _ _ _ c.join_seat.new.seat.me (ap (λ m. m.0.role) joined.2 ∙ c.self.invariant.role) (ap (λ m. m.1) joined.2 ∙ c.self.invariant.free),
    )
