-- The readers of the devices at work.
use Rattle.std.specs.Prelude.{◌≡◌, ℕ, List, Option}
use Rattle.std.specs.Arc.{arc_value}
use Rattle.std.specs.List.{AllZip}
use Rattle.serve_workers.specs.declared.reading.DeviceReading.{DeviceReading}
use Rattle.serve_workers.specs.declared.reading.EdgeReading.{EdgeReading}
use Rattle.gps_fixed.specs.Moment.{Moment}
use Rattle.shm_segment.specs.Seats.{SegmentId}
use Rattle.serve_workers.specs.declared.monitors.ReadingsDone.{ReadingsDone}
use Rattle.serve_workers.specs.declared.monitors.MonitorStart.{MonitorStart}
use Rattle.serve_workers.specs.declared.monitors.MonitorPromise.{MonitorPromise}
use Rattle.serve_workers.specs.Monitors.{MonitorRan}
use Rattle.serve_workers.specs.Segments.{segments_of}
use Rattle.gps_serve.specs.declared.starts.DeviceStart.{DeviceStart}
use Rattle.gps_serve.specs.declared.starts.EdgeStart.{EdgeStart}
use Rattle.serve_end.specs.declared.device.DeviceRun.{DeviceRun}
use Rattle.serve_end.specs.Lanes.{ZipOption}
use Rattle.serve_end.specs.Runs.{SourceFacts}
use Rattle.gps_serve.specs.declared.readers.DeviceWork.{DeviceWork}
use Rattle.gps_serve.specs.Runs.{RanOn}
use Rattle.gps_serve.specs.Served.{monitored}

-- a device's reader works on its source and its lane
pub record BytesAre {S R D : Type 0} (start : DeviceStart S R) (work : DeviceReading S R D) : Type 0 where
  pub source : work.source.value ≡ start.source
  pub pieces : work.pieces.value ≡ start.bytes

abbrev pub EdgesAre : {S R : Type 0} → Option (EdgeStart S R) → Option (EdgeReading S R) → Type 0
EdgesAre {S} {R} = ZipOption (λ (start : EdgeStart S R) (work : EdgeReading S R). (work.source.value ≡ start.source) × (work.pieces.value ≡ start.lines))

-- both readers of a device
pub record ReadersAre {S R D : Type 0} (start : DeviceStart S R) (work : DeviceWork S D R) : Type 0 where
  pub bytes : BytesAre start work.bytes
  pub edges : EdgesAre start.edges work.edges

-- a unit's monitor works on its segment, with the given number of readings
pub record WatchesFor (tries : ℕ) (monitor_start : MonitorStart) (work : MonitorPromise) : Type 0 where
  pub segment : work.segment.value ≡ monitor_start.segment
  pub tries_are : work.tries ≡ tries

-- a unit's monitor did its work
pub record WatchedBy (tries : ℕ) (monitor_start : MonitorStart) (done : ReadingsDone) : Type 0 where
  pub segment : done.segment ≡ monitor_start.segment
  pub watched : MonitorRan (arc_value done.segment) tries done.whole done.monitor done.taken.items

-- whatever the readers of a device were started on, they did their work on it
abbrev pub JoinsDevice : {S R D : Type 0} → Option (List Moment) → SourceFacts S → DeviceWork S D R → DeviceRun S R → Type 0
JoinsDevice {S} {R} may facts work run = (start : DeviceStart S R) → ReadersAre start work → RanOn may facts start run

abbrev pub JoinsMonitor : MonitorPromise → ReadingsDone → Type 0
JoinsMonitor work done = (tries : ℕ) (monitor_start : MonitorStart) → WatchesFor tries monitor_start work → WatchedBy tries monitor_start done

-- the monitors of these segments did their work
pub record MonitorsRan (tries : ℕ) (segments : List SegmentId) (watched : List ReadingsDone) : Type 0 where
  pub monitor_starts : List MonitorStart
  pub segments_are : segments_of monitor_starts ≡ monitored tries segments
  pub by : AllZip (WatchedBy tries) monitor_starts watched
