-- What the sources, sinks and doors of a world tell, and what they count.
use Rattle.std.specs.Prelude.{ℕ, List, Option}
use Rattle.gps_outside.specs.declared.door.Door.{Ghosts as DoorGhosts}
use Rattle.gps_outside.specs.declared.client_sink.ClientSink.{Ghosts as SinkGhosts}
use Rattle.gps_outside.specs.declared.source.Source.{Ghosts as SourceGhosts}
use Rattle.serve_end.specs.Runs.{SourceFacts, source_facts}
use Rattle.serve_door.specs.Doors.{Way}

-- of a sink
pub record SinkFacts (K : Type 0) : Type 0 where
  pub written : K → Option (List ℕ)
  pub faults : K → ℕ

abbrev pub sink_facts : {K : Type 0} → SinkGhosts K → SinkFacts K
sink_facts sink = record { written = sink.written; faults = sink.faults }

-- of a door
pub record GateFacts (G S K : Type 0) : Type 0 where
  pub links : G → Option (List (Way S K))
  pub faults : G → ℕ
  pub quiets : G → ℕ

abbrev pub gate_facts : {G S K : Type 0} → DoorGhosts G S K → GateFacts G S K
gate_facts door = record { links = door.links; faults = door.faults; quiets = door.quiets }

-- of all three
pub record WorldFacts (G S K : Type 0) : Type 0 where
  pub sources : SourceFacts S
  pub sinks : SinkFacts K
  pub gates : GateFacts G S K

abbrev pub world_facts : {G S K : Type 0} → SourceGhosts S → SinkGhosts K → DoorGhosts G S K → WorldFacts G S K
world_facts source sink door = record { sources = source_facts source; sinks = sink_facts sink; gates = gate_facts door }
