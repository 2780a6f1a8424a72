use Rattle.std.proofs.Common.{sym, ap, ◌∙◌, arith}
use Rattle.shm_segment.specs.Publishing.{Publishing}
use Rattle.shm_segment.specs.Seats.{SegmentId}
use Rattle.shm_segment.proofs.Writing.{part_of}
use Rattle.shm_consumer.proofs.Parting.{gives_notice_as}
use Rattle.shm_consumer.proofs.giver.Giver.notice.Goals as goal

pub split_seat-requires : goal.split_seat-requires
split_seat-requires c =
    let is = c.hand.view_is in
    let same = ap (λ (p : Publishing). p.segment) c.self.view_is ∙ c.requires in
    let first = ap (λ (s : SegmentId). s.first) (same ∙ sym is) in (
      part_of _ _ _ is _ (ap (λ (s : SegmentId). s.table) same),
      (let words = c.hand.invariant in omega arith),
      gives_notice_as _ _ c.self.inside.seat.me first c.self.invariant.view,
    )
