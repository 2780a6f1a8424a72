-- What is left of a device, a session, a monitor and the door.
use Rattle.std.specs.Prelude.{◌≡◌, ◌+◌, ◌*◌, ◌<◌, ◌≤◌, ℕ, Bool, false, List, [], ◌++◌, length, Option, Some, None, ◌==◌, if◌then◌else◌}
use Rattle.std.specs.List.{AllZip}
use Rattle.gps_fixed.specs.Moment.{Moment}
use Rattle.gps_lane.specs.Ends.{Putting, Taking}
use Rattle.gps_fixed.specs.Lists.{IsPrefix}
use Rattle.gps_outside.specs.Counts.{Rose}
use Rattle.gps_outside.specs.Links.{IsUnwritten}
use Rattle.gps_outside.specs.Told.{Goes, Stream}
use Rattle.gps_world.specs.declared.place.Place.{Place}
use Rattle.gps_world.specs.Opening.{Tells}
use Rattle.book_sessions.specs.MemberView.{MemberView}
use Rattle.hub_door.specs.Admissions.{LinkDrop}
use Rattle.book_units.specs.Units.{UnitView, segment_of}
use Rattle.output_lines.specs.declared.closing.SessionEnd.TheVariants.{Drained, WriteFault}
use Rattle.gps_lane.specs.Carried.{device_part, input_part}
use Rattle.gps_lane.specs.declared.piece.Ending.{Ending}
use Rattle.gps_lane.specs.declared.piece.Ending.TheVariants.{Failed}
use Rattle.gps_lane.specs.declared.piece.Piece.{Piece}
use Rattle.serve_workers.specs.EdgeLines.{HandsLines}
use Rattle.serve_workers.specs.Readings.{HandsOn, IsDevicePiece, IsInputPiece, WasRead}
use Rattle.serve_workers.specs.Watching.{Climbs, each_once}
use Rattle.serve_workers.specs.Writing.{Writes}
use Rattle.serve_end.specs.declared.done.DeviceDone.{DeviceDone}
use Rattle.serve_end.specs.declared.done.SessionDone.{SessionDone}
use Rattle.serve_end.specs.declared.done.MonitorDone.{MonitorDone}
use Rattle.serve_end.specs.Lanes.{OneMoreOfEach, ZipOption, lanes}
use Rattle.serve_end.specs.Outlets.{writer_end}
use Rattle.serve_end.specs.Units.{ArePublished}
use Rattle.session_core.specs.Naming.{table_of}
use Rattle.hub_promise.specs.declared.ends.DeviceEnd.{DeviceEnd}
use Rattle.hub_promise.specs.declared.ends.DeviceEnd.TheVariants.{Ended}
use Rattle.hub_promise.specs.Parts.{InletsView}
use Rattle.serve_end.specs.Runs.{SourceFacts}
use Rattle.serve_door.specs.Doors.{Tends, Way, door_now}
use Rattle.gps_serve.specs.Starts.{IsUnreadBy}
use Rattle.gps_serve.specs.Facts.{GateFacts, SinkFacts, WorldFacts}

-- Both ends are of one lane, and what was received from it is a prefix of what was put.
pub record IsOneLane (tx : Putting Piece) (rx : Taking Piece) : Type 0 where
  pub one : rx.lane ≡ tx.lane
  pub begins : IsPrefix rx.got tx.put

-- What a reader put into its lane is what it took from its source, which was unread before. `Hands` says which pieces are put of what is taken. The reader
-- says that the source failed only if its faults are above 0. `first` is the source as it was before the first read.
pub record ReaderServed {S : Type 0} (Hands : Option Ending → List Piece → List Piece → Option Stream → Option Stream → Type 0) (facts : SourceFacts S)
    (tx : Putting Piece) (source : S) : Type 0 where
  pub first : S
  pub unread : IsUnreadBy facts first
  pub ending : Option Ending
  pub hands : Hands ending [] tx.put (facts.content first) (facts.content source)
  pub failed : ending ≡ Some Failed → 0 < facts.faults source

-- What is left of a device. Its pieces of bytes have stamps that the clock may give. `x` are its lanes as the hub left them: if a lane had not told how its
-- source ended, one more piece may have been received from it since.
pub record DeviceServed {S R : Type 0} (may : Option (List Moment)) (facts : SourceFacts S) (x : InletsView) (done : DeviceDone S R) : Type 0 where
  pub source : S
  pub source_is : done.source ≡ Some source
  pub bytes : ReaderServed (HandsOn device_part (IsDevicePiece may)) facts done.bytes_tx source
  pub bytes_lane : IsOneLane done.bytes_tx done.bytes_rx
  -- the same of the lines of its edges, if it has a source of edges
  pub edges : ZipOption (ReaderServed HandsLines facts) done.edges_tx done.edges
  pub edges_lane : ZipOption IsOneLane done.edges_tx done.edges_rx
  pub settled : OneMoreOfEach x (lanes done.bytes_rx done.edges_rx)

-- What is left of a session's input. Its source was read; `reader.first` is the source before that.
pub record InputServed {S K R : Type 0} (facts : SourceFacts S) (done : SessionDone S K R) : Type 0 where
  pub reader : ReaderServed (HandsOn input_part IsInputPiece) facts done.input_tx done.source
  pub lane : IsOneLane done.input_tx done.input_rx
  pub read : Goes (WasRead (facts.faults done.source) (facts.quiets done.source)) (facts.content reader.first) (facts.content done.source)

-- What is left of a session's outlet: its receiving end, which has the name that the book knows. The items received are a prefix of those that the
-- book gave it, and are all of them if the session was drained. Their bytes were written to its sink, to which nothing was written before; all
-- of them, unless the sink failed. The sink of a session that was drained has no fault; whether it delivered what it was written is not said.
pub record OutletServed {S K R : Type 0} (facts : SinkFacts K) (a : MemberView) (done : SessionDone S K R) : Type 0 where
  pub first : K
  pub unwritten : IsUnwritten (facts.written first) (facts.faults first)
  pub outlet : Some done.items_rx.lane ≡ table_of a.session.name
  pub begins : IsPrefix done.items_rx.got a.session.kept
  pub all : done.end ≡ Drained → done.items_rx.got ≡ a.session.kept
  pub writes : Writes (writer_end done.end) [] done.items_rx.got (facts.written first) (facts.written done.sink)
  pub failed : done.end ≡ WriteFault → Rose (facts.faults first) (facts.faults done.sink)
  pub sound : done.end ≡ Drained → facts.faults done.sink ≡ 0

-- those of these units, or of their segments, that have a monitor: all of them, or none if no reading is asked for
abbrev pub monitored : {X : Type 0} → ℕ → List X → List X
monitored tries units = if tries == 0 then [] else units

-- What is left of a unit's monitor: the pairs that it kept, each the unit's published sample of its number, with rising numbers. Unless
-- the daemon was out of memory, these are all that it took, each number once, and it made at least two loads for each reading.
pub record MonitorServed (tries : ℕ) (no_memory : Bool) (u : UnitView) (done : MonitorDone) : Type 0 where
  pub segment : done.monitor.segment ≡ segment_of u
  pub published : ArePublished u done.taken.items
  pub climbs : Climbs done.taken.items
  pub all : no_memory ≡ false → done.taken.items ≡ each_once done.monitor.taken
  pub loads : no_memory ≡ false → 2 * tries ≤ length done.monitor.kept

-- The bytes taken from a source are the first of those that it held.
abbrev pub TakesFirst : Stream → Stream → Type 0
TakesFirst before after = IsPrefix after.taken (before.taken ++ before.left)

-- A session's source and sink go on from those of the link, by their contents and counts. Nothing was taken from the link's source before; it
-- was read, and what was put into the session's input lane is what was taken from it, with the ending that it had. The bytes of the items that
-- were received from the session's outlet were written after what the link's sink had before.
pub record ServesLink {S K R : Type 0} (sources : SourceFacts S) (sinks : SinkFacts K) (way : Way S K) (done : SessionDone S K R) : Type 0 where
  pub unread : IsUnreadBy sources way.0
  pub ending : Option Ending
  pub hands : HandsOn input_part IsInputPiece ending [] done.input_tx.put (sources.content way.0) (sources.content done.source)
  pub read : Goes (WasRead (sources.faults done.source) (sources.quiets done.source)) (sources.content way.0) (sources.content done.source)
  pub reads : Goes TakesFirst (sources.content way.0) (sources.content done.source)
  pub writes : Writes (writer_end done.end) [] done.items_rx.got (sinks.written way.1) (sinks.written done.sink)
  pub failed : done.end ≡ WriteFault → Rose (sinks.faults way.1) (sinks.faults done.sink)

-- What is left of the door: what became of each link that was taken from it, in order (`Tends`). `drops` are the links that were dropped for a bound,
-- which `full` counts, and `served` those that became sessions: session k has the source and the sink of the k-th of them. A link was dropped for lack of
-- memory (`out_of_memory`) only if the daemon says that it was out of memory.
pub record GateServed {G S K R : Type 0} (facts : WorldFacts G S K) (told : Option (List (Way S K))) (full : ℕ) (no_memory done : Bool)
    (sessions : List (SessionDone S K R)) (gate : G) : Type 0 where
  pub drops : List LinkDrop
  pub out_of_memory : Bool
  pub served : List (Way S K)
  pub tends : Tends told (door_now (facts.gates.links gate) (facts.gates.faults gate) (facts.gates.quiets gate) drops full out_of_memory) served done false
  pub links_are : AllZip (ServesLink facts.sources facts.sinks) served sessions
  pub has_memory : no_memory ≡ false → out_of_memory ≡ false

-- Nobody asked the door: it has all links that it was opened with, if they are told, and counted neither a fault nor a wait in which no link came.
pub record IsUnasked {G S K : Type 0} (facts : GateFacts G S K) (told : Option (List (Way S K))) (gate : G) : Type 0 where
  pub links : Tells told (facts.links gate)
  pub faults : facts.faults gate ≡ 0
  pub quiets : facts.quiets gate ≡ 0

-- The bytes taken from a device's source are the first of those that it held. If the device has ended, they are all of them, and nothing is left.
pub record IsTakenOf (end : Option DeviceEnd) (held : List ℕ) (stream : Stream) : Type 0 where
  pub first : IsPrefix stream.taken held
  pub all : end ≡ Some Ended → stream.taken ≡ held
  pub none_left : end ≡ Some Ended → stream.left ≡ []

-- the same, if the world told what the source held
abbrev pub IsFirstOf : Option DeviceEnd → Option (List ℕ) → Option Stream → Type 0
IsFirstOf end None content = Unit {0}
IsFirstOf end (Some held) None = ⊥
IsFirstOf end (Some held) (Some stream) = IsTakenOf end held stream

-- of the source of a device or of its edges, if it has one
abbrev pub SourceHeld : {S : Type 0} → SourceFacts S → Option DeviceEnd → Option (List ℕ) → Option S → Type 0
SourceHeld facts end held None = Unit {0}
SourceHeld facts end held (Some source) = IsFirstOf end held (facts.content source)

abbrev pub BytesHeld : {S R : Type 0} → (Place → Option (List ℕ)) → SourceFacts S → Place → DeviceDone S R → Type 0
BytesHeld behind facts place done = SourceHeld facts done.end (behind place) done.source

abbrev pub EdgesHeld : {S R : Type 0} → (Place → Option (List ℕ)) → SourceFacts S → Option Place → DeviceDone S R → Type 0
EdgesHeld behind facts None done = done.edges ≡ None
EdgesHeld behind facts (Some place) done = SourceHeld facts done.end (behind place) done.edges
