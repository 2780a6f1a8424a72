use Rattle.std.proofs.Common.{ap, ◌∙◌, arith}
use Rattle.shm_segment.specs.Seats.{SegmentId}
use Rattle.shm_segment.proofs.Writing.{part_of}
use Rattle.shm_monitor.specs.MonitorView.{MonitorView}
use Rattle.shm_monitor.proofs.Keeping.{gives_account}
use Rattle.shm_monitor.proofs.monitor.Monitor.account.Goals as goal

pub split_seat-requires : goal.split_seat-requires
split_seat-requires c =
    let mine = ap (λ (w : MonitorView). w.segment) c.self.view_is ∙ c.requires in (
      part_of _ _ _ c.segment.view_is _ (ap (λ (s : SegmentId). s.table) mine),
      (let words = c.segment.invariant in omega arith),
      gives_account _ 0 _ c.self.inside.seat.me.0 c.self.invariant.role,
    )
