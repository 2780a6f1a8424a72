-- What became of the threads.
use Rattle.std.specs.Prelude.{ℕ, List, Option}
use Rattle.std.specs.List.{AllZip}
use Rattle.gps_fixed.specs.Moment.{Moment}
use Rattle.gps_outside.specs.declared.door.Door.{Ghosts as DoorGhosts}
use Rattle.gps_outside.specs.declared.client_sink.ClientSink.{Ghosts as SinkGhosts}
use Rattle.gps_outside.specs.declared.source.Source.{Ghosts as SourceGhosts}
use Rattle.gps_hub.specs.declared.naming.HubNaming.{Ghosts as HubGhosts}
use Rattle.hub_door.specs.declared.naming.DoorNaming.{Ghosts as DoorNamingGhosts}
use Rattle.serve_end.specs.Runs.{EachRun, RunCause, SourceFacts}
use Rattle.serve_workers.specs.declared.monitors.MonitorStart.{MonitorStart}
use Rattle.serve_workers.specs.Sessions.{SessionRuns}
use Rattle.gps_serve.specs.declared.starts.DeviceStart.{DeviceStart}
use Rattle.gps_serve.specs.declared.scope.Ended.{Ended}
use Rattle.gps_serve.specs.Facts.{GateFacts, SinkFacts}
use Rattle.serve_door.specs.Doors.{FailsBy, IsNewLink, Tended, door_now}
use Rattle.gps_serve.specs.Runs.{RanOn}
use Rattle.gps_serve.specs.Works.{WatchedBy}

-- the door is said to have failed exactly if its faults rose
abbrev pub DoorFails : {S K G J R : Type 0} {s : SourceGhosts S} {k : SinkGhosts K} {g : DoorGhosts G S K} {j : HubGhosts J} {d : DoorNamingGhosts J}
    → (G → ℕ) → G → Ended S K G J R s k g j d → Type 0
DoorFails faults gate ended = FailsBy ended.door.failed (faults gate) (faults ended.door.gate)

-- what became of the links that this door gave
abbrev pub DoorTended : {S K G J R : Type 0} {s : SourceGhosts S} {k : SinkGhosts K} {g : DoorGhosts G S K} {j : HubGhosts J} {d : DoorNamingGhosts J}
    → SourceFacts S → SinkFacts K → GateFacts G S K → ℕ → G → Ended S K G J R s k g j d → Type 0
DoorTended sources sinks gates queue gate ended =
    Tended (IsNewLink sources.content sources.faults sources.quiets sinks.written sinks.faults)
    (SessionRuns sources.content sources.faults sources.quiets sinks.written sinks.faults) queue (gates.links gate)
    (door_now (gates.links ended.door.gate) (gates.faults ended.door.gate)
    (gates.quiets ended.door.gate) ended.door.seat.drops ended.door.full ended.door.no_memory)
    ended.door.seat ended.door.runs.items

abbrev pub ReadersHaveCauses : {S K G J R : Type 0} {s : SourceGhosts S} {k : SinkGhosts K} {g : DoorGhosts G S K} {j : HubGhosts J} {d : DoorNamingGhosts J}
    → (S → ℕ) → Ended S K G J R s k g j d → Type 0
ReadersHaveCauses faults ended = EachRun (RunCause faults) ended.runs.items

-- the readers of the devices worked on these starts
abbrev pub ReadersRan : {S K G J R : Type 0} {s : SourceGhosts S} {k : SinkGhosts K} {g : DoorGhosts G S K} {j : HubGhosts J} {d : DoorNamingGhosts J}
    → Option (List Moment) → SourceFacts S → List (DeviceStart S R) → Ended S K G J R s k g j d → Type 0
ReadersRan may facts starts ended = AllZip (RanOn may facts) starts ended.runs.items

-- the monitors worked on these segments
abbrev pub MonitorsWatched : {S K G J R : Type 0} {s : SourceGhosts S} {k : SinkGhosts K} {g : DoorGhosts G S K} {j : HubGhosts J} {d : DoorNamingGhosts J}
    → ℕ → List MonitorStart → Ended S K G J R s k g j d → Type 0
MonitorsWatched tries monitor_starts ended = AllZip (WatchedBy tries) monitor_starts ended.watched.items
