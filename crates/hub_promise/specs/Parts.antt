-- The parts of a hub, as contracts see them.
use Rattle.std.specs.Prelude.{◌≡◌, ℕ, Bool, List, [], ◌∷◌, map, Option, Some, None, option_map}
use Rattle.atomic_table.specs.Seated.{TableId}
use Rattle.gps_lane.specs.Ends.{Putting, Taking}
use Rattle.hub_door.specs.Admissions.{Admissions, SessionLanes}
use Rattle.report_book.specs.BookView.{BookView}
use Rattle.book_sessions.specs.MemberView.{MemberView}
use Rattle.book_units.specs.Units.{segment_of}
use Rattle.gps_lane.specs.declared.piece.Piece.{Piece}
use Rattle.session_core.specs.Naming.{table_of}
use Rattle.session_core.specs.declared.subject.DeviceHeld.{DeviceHeld}
use Rattle.session_core.specs.declared.subject.Subject.{Subject}
use Rattle.gps_lane.specs.EdgeLines.{all_edge_lines}
use Rattle.shm_segment.specs.Seats.{SegmentId}
use Rattle.gps_report.specs.declared.edge.Edge.{Edge}
use Rattle.hub_promise.specs.Given.{edges_said}
use Rattle.hub_promise.specs.declared.ends.DeviceEnd.{DeviceEnd}

-- the receiving ends of a device's lane and of its edge lane, if it has one
pub record InletsView : Type 0 where
  pub bytes : Taking Piece
  pub edges : Option (Taking Piece)

-- a device's lane and its edge lane, if it has one, and what their sources hold, if that is told
pub record LaneNames : Type 0 where
  pub bytes : TableId
  pub held : Option (List ℕ)
  pub edges : Option TableId
  pub held_edges : Option (Option (List ℕ))

-- a device, as a hub has it: the receiving ends of its lanes, and how it ended, if it has
pub record HubDevice : Type 0 where
  pub lanes : InletsView
  pub end : Option DeviceEnd

abbrev pub device_of : InletsView → Option DeviceEnd → HubDevice
device_of lanes end = record { lanes = lanes; end = end }

-- of two lists of the same length: each device's lanes with its end
abbrev pub devices_of : List InletsView → List (Option DeviceEnd) → List HubDevice
devices_of [] ends = []
devices_of (x ∷ inlets) [] = []
devices_of (x ∷ inlets) (end ∷ ends) = device_of x end ∷ devices_of inlets ends

abbrev pub names_of : InletsView → LaneNames
names_of x =
    record {
      bytes = x.bytes.lane;
      held = x.bytes.about.source;
      edges = option_map (λ (y : Taking Piece). y.lane) x.edges;
      held_edges = option_map (λ (y : Taking Piece). y.about.source) x.edges;
    }

-- what no call of a hub changes: its book's names and limit, how many requests of each session are answered, the lanes of its devices, the segments
-- of its units, and for how many sessions the devices wait
pub record Terms : Type 0 where
  pub names : List (List ℕ)
  pub limit : ℕ
  pub requests : ℕ
  pub lanes : List LaneNames
  pub segments : List SegmentId
  pub wait : ℕ

abbrev pub terms_of : BookView → List InletsView → ℕ → Terms
terms_of book inlets wait =
    record {
      names = book.names;
      limit = book.log.limit;
      requests = book.most_requests;
      lanes = map names_of inlets;
      segments = map segment_of book.units;
      wait = wait;
    }

-- the edges that a device's sources hold, by what its source of edges holds: if it has none, there are none
abbrev pub edges_in_source : Option (Option (List ℕ)) → Option (List Edge)
edges_in_source None = Some []
edges_in_source (Some None) = None
edges_in_source (Some (Some held)) = Some (edges_said (all_edge_lines held))

abbrev pub device_held : List ℕ → LaneNames → DeviceHeld
device_held name lanes = record { name = name; bytes = lanes.held; edges = edges_in_source lanes.held_edges }

-- of two lists of the same length: each device's name with what its sources hold
abbrev pub devices_held : List (List ℕ) → List LaneNames → List DeviceHeld
devices_held [] lanes = []
devices_held (name ∷ names) [] = []
devices_held (name ∷ names) (x ∷ lanes) = device_held name x ∷ devices_held names lanes

-- what the items of a session's lane are about, if its client sends this
abbrev pub subject_of : Terms → Option (List ℕ) → Subject
subject_of terms source = record { source = source; devices = devices_held terms.names terms.lanes }

-- the book, its devices, the input lane of each session, whether the door has closed or failed, and for how many sessions the devices wait
pub record Parts : Type 0 where
  pub book : BookView
  pub devices : List HubDevice
  pub inputs : List (Taking Piece)
  pub done : Bool
  pub wait : ℕ

-- the sessions are those that were admitted, in order, each with its two lanes
pub record AreAdmitted (links : List SessionLanes) (sessions : List MemberView) (inputs : List (Taking Piece)) : Type 0 where
  pub outlets : map (λ (a : MemberView). table_of a.session.name) sessions ≡ map (λ (l : SessionLanes). Some l.outlet) links
  pub caps : map (λ (a : MemberView). a.session.cap) sessions ≡ map (λ (l : SessionLanes). l.cap) links
  pub inputs_are : map (λ (x : Taking Piece). x.lane) inputs ≡ map (λ (l : SessionLanes). l.input) links

-- what contracts see of a hub
pub record HubView : Type 0 where
  pub book : BookView
  pub inlets : List InletsView
  pub ends : List (Option DeviceEnd)
  pub inputs : List (Taking Piece)
  pub door : Admissions
  pub wait : ℕ
  pub is_shut : Bool

abbrev pub parts_of : HubView → Parts
parts_of h =
    record { book = h.book; devices = devices_of h.inlets h.ends; inputs = h.inputs; done = h.door.done; wait = h.wait }
