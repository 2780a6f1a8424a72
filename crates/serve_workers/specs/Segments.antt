-- The segments that monitors read.
use Rattle.std.specs.Prelude.{List, map}
use Rattle.std.specs.Arc.{arc_value}
use Rattle.shm_segment.specs.Seats.{SegmentId}
use Rattle.serve_workers.specs.declared.monitors.MonitorStart.{MonitorStart}

abbrev pub segments_of : List MonitorStart → List SegmentId
segments_of monitor_starts = map (λ (w : MonitorStart). arc_value w.segment) monitor_starts
