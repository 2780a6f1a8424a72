-- The notice is joined to the monitor's seat, and the load makes both agree.
use Rattle.std.proofs.Common.{ap, ◌∙◌, arith}
use Rattle.shm_segment.specs.Seats.{SegmentId, Noticed}
use Rattle.shm_segment.proofs.Writing.{part_of}
use Rattle.shm_monitor.specs.MonitorView.{MonitorView}
use Rattle.shm_monitor.proofs.Keeping.{takes_notice, meets_as}
use Rattle.shm_monitor.proofs.monitor.Monitor.meet.Goals as goal

pub join_seat-requires : goal.join_seat-requires
join_seat-requires c =
    let mine = ap (λ (w : MonitorView). w.segment) c.self.view_is ∙ c.requires.monitor in
    let theirs = ap (λ (n : Noticed). n.segment) c.notice.view_is ∙ c.requires.notice in (
      part_of _ _ _ c.segment.view_is _ (ap (λ (s : SegmentId). s.table) mine),
      part_of _ _ _ c.segment.view_is _ (ap (λ (s : SegmentId). s.table) theirs),
      ap (λ m. m.1) c.notice.invariant,
      (let words = c.segment.invariant in omega arith),
      takes_notice _ 0 _ c.self.inside.seat.me.0 c.self.invariant.role _ _ (λ is. let notice = ap (λ m. m.0.role) c.notice.invariant in cc),
    )

pub load-requires : goal.load-requires
load-requires c =
    let mine = ap (λ (w : MonitorView). w.segment) c.self.view_is ∙ c.requires.monitor in
    let joined = c.join_seat.ensures in (
      part_of _ _ _ c.segment.view_is _ (joined.0 ∙ ap (λ (s : SegmentId). s.table) mine),
      (let words = c.segment.invariant in omega arith),
      meets_as _ _ _ c.join_seat.new.seat.me (ap (λ m. m.0.role) joined.2 ∙ c.self.invariant.role) (ap (λ m. m.1) joined.2 ∙ c.self.invariant.free),
    )
