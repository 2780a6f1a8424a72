-- The devices' sources and lanes before anything went through them.
use Rattle.std.specs.Prelude.{◌≡◌, ℕ, List, [], Option, Some, None, map, option_map}
use Rattle.std.specs.List.{All}
use Rattle.gps_lane.specs.Ends.{Putting, Taking, IsFreshLane}
use Rattle.gps_outside.specs.Links.{IsUnread}
use Rattle.gps_outside.specs.Told.{Stream}
use Rattle.gps_lane.specs.declared.piece.Piece.{Piece}
use Rattle.serve_workers.specs.Sourced.{held_in}
use Rattle.hub_promise.specs.Parts.{InletsView}
use Rattle.serve_end.specs.Runs.{ReaderStart, ReaderStarts, SourceFacts}
use Rattle.gps_serve.specs.declared.starts.DeviceStart.{DeviceStart}
use Rattle.gps_serve.specs.declared.starts.EdgeStart.{EdgeStart}
use Rattle.gps_lane.specs.Held.{of_source}

-- nothing was taken from the source, if it tells that, and it counted nothing
abbrev pub IsUnreadBy : {S : Type 0} → SourceFacts S → S → Type 0
IsUnreadBy facts source = IsUnread (facts.content source) (facts.faults source) (facts.quiets source)

abbrev pub IsFreshEdge : {S R : Type 0} → SourceFacts S → Option (EdgeStart S R) → Option (Taking Piece) → Type 0
IsFreshEdge facts None None = Unit {0}
IsFreshEdge facts None (Some rx) = ⊥
IsFreshEdge facts (Some start) None = ⊥
IsFreshEdge facts (Some start) (Some rx) = IsFreshLane (of_source (held_in (facts.content start.source))) start.lines rx × IsUnreadBy facts start.source

pub record IsFreshDevice {S R : Type 0} (facts : SourceFacts S) (start : DeviceStart S R) (inlets : InletsView) : Type 0 where
  pub bytes : IsFreshLane (of_source (held_in (facts.content start.source))) start.bytes inlets.bytes
  pub unread : IsUnreadBy facts start.source
  pub edges : IsFreshEdge facts start.edges inlets.edges

-- the lanes of a device are about what its sources hold
abbrev pub EdgesTold : {S R : Type 0} → (S → Option Stream) → Option (EdgeStart S R) → Type 0
EdgesTold {S} {R} content start = (edge : EdgeStart S R) → start ≡ Some edge → edge.lines.about.source ≡ held_in (content edge.source)

abbrev pub AreTold : {S R : Type 0} → (S → Option Stream) → DeviceStart S R → Type 0
AreTold content start = (start.bytes.about.source ≡ held_in (content start.source)) × EdgesTold content start.edges

-- the same of each device
abbrev pub EachTold : {S R : Type 0} → (S → Option Stream) → List (DeviceStart S R) → Type 0
EachTold content starts = All (AreTold content) starts

-- what the readers of a device begin with
abbrev pub edge_start_of : {S R : Type 0} → EdgeStart S R → ReaderStart S
edge_start_of start = record { source = start.source; pieces = start.lines }

abbrev pub starts_of : {S R : Type 0} → DeviceStart S R → ReaderStarts S
starts_of start = record { bytes = record { source = start.source; pieces = start.bytes }; edges = option_map edge_start_of start.edges }

-- the sources of the devices, in order
abbrev pub sources_at : {S R : Type 0} → List (DeviceStart S R) → List S
sources_at {S} {R} starts = map (λ (start : DeviceStart S R). start.source) starts

-- and those of their edges
abbrev pub edge_source_of : {S R : Type 0} → Option (EdgeStart S R) → Option S
edge_source_of {S} {R} start = option_map (λ (edge : EdgeStart S R). edge.source) start

abbrev pub edges_at : {S R : Type 0} → List (DeviceStart S R) → List (Option S)
edges_at {S} {R} starts = map (λ (start : DeviceStart S R). edge_source_of start.edges) starts
