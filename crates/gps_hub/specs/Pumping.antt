-- What a look at the lanes of a device or of a session answers.
use Rattle.std.specs.Prelude.{◌≡◌, ◌≢◌, ◌<◌, ◌≤◌, ◌⊎◌, ℕ, Bool, true, false, List, [], ◌∷◌, ◌++◌, count_by, slice_get, slice_set, is_some, Option, Some, None}
use Rattle.book_log.specs.Entries.{Entry, edged, fed}
use Rattle.book_sessions.specs.MemberView.{MemberView}
use Rattle.book_sessions.specs.Roster.{IsOpenAt, was_watched}
use Rattle.gps_lane.specs.Ends.{Taking}
use Rattle.gps_report.specs.declared.edge.Edge.{Edge}
use Rattle.pps_edges.specs.Scan.{edge_in}
use Rattle.report_book.specs.declared.fault.BookFault.{BookFault}
use Rattle.report_book.specs.declared.fault.BookFault.TheVariants.{NoMemory}
use Rattle.report_book.specs.BookView.{BookView}
use Rattle.report_book.specs.Moves.{HangsUp, AnswersRequests}
use Rattle.gps_lane.specs.declared.piece.Piece.{Piece}
use Rattle.gps_lane.specs.declared.piece.Piece.TheVariants.{Bytes as BytesPiece, Line, Input, Last}
use Rattle.session_core.specs.declared.mark.Close.{Close}
use Rattle.session_core.specs.declared.mark.Close.TheVariants.{NoMemory as CloseNoMemory}
use Rattle.hub_promise.specs.declared.ends.DeviceEnd.{DeviceEnd}
use Rattle.hub_promise.specs.declared.ends.DeviceEnd.TheVariants.{NoMemory as LostNoMemory}
use Rattle.hub_promise.specs.DaemonHub.{MayGoOn}
use Rattle.hub_promise.specs.Given.{end_by, why_of}
use Rattle.hub_promise.specs.Keeping.{IsClosed, Lasts, end_told}
use Rattle.hub_promise.specs.Parts.{HubDevice, HubView, InletsView, devices_of, parts_of}
use Rattle.hub_promise.specs.Steps.{MovesOn, stop_entries, with_bytes, with_edge, with_got}
use Rattle.gps_hub.specs.declared.inlets.Next.{Next}
use Rattle.gps_hub.specs.declared.inlets.Next.TheVariants.{Nothing, Bytes, Edges}
use Rattle.gps_hub.specs.declared.pumped.Pumped.{Pumped}
use Rattle.gps_hub.specs.declared.pumped.Pumped.TheVariants.{Fed, Empty, Waiting, Done, Refused}

-- which lane gave a piece, if one did
abbrev pub MatchNext : Next → InletsView → InletsView → Type 0
MatchNext Nothing old new = new ≡ old
MatchNext (Bytes piece) old new = new ≡ with_bytes piece old
MatchNext (Edges piece) old new = (new ≡ with_edge piece old) × ((lane : Taking Piece) × (old.edges ≡ Some lane))

-- what a readable line adds to the log
abbrev pub edge_entries : ℕ → Option Edge → List Entry
edge_entries d None = []
edge_entries d (Some edge) = edged d edge

-- what a piece of a device's lane adds to the log, if the device then ends so
abbrev pub bytes_entries : ℕ → Piece → Option DeviceEnd → List Entry
bytes_entries d (BytesPiece at bytes) end = fed d at bytes
bytes_entries d (Line line) end = []
bytes_entries d (Input bytes) end = []
bytes_entries d (Last ending) end = stop_entries d end

-- the same for its edge lane
abbrev pub line_entries : ℕ → Piece → Option DeviceEnd → List Entry
line_entries d (BytesPiece at bytes) end = []
line_entries d (Line line) end = edge_entries d (edge_in line)
line_entries d (Input bytes) end = []
line_entries d (Last ending) end = stop_entries d end

-- how a running device ends by a piece of its lane, if its other source has ended so
abbrev pub bytes_stop : Piece → Lasts → Option DeviceEnd
bytes_stop (BytesPiece at bytes) lasts = None
bytes_stop (Line line) lasts = None
bytes_stop (Input bytes) lasts = None
bytes_stop (Last ending) lasts = end_by [] (Some ending) lasts.edges

abbrev pub line_stop : Piece → Lasts → Option DeviceEnd
line_stop (BytesPiece at bytes) lasts = None
line_stop (Line line) lasts = None
line_stop (Input bytes) lasts = None
line_stop (Last ending) lasts = end_by [] lasts.bytes (Some ending)

-- what became of a piece that was received from a device: the book took it, or refused it, and the device was lost
abbrev pub TookBytes : Pumped → ℕ → Piece → Lasts → Option DeviceEnd → BookView → BookView → Type 0
TookBytes Fed d piece lasts end old new = MovesOn old new (bytes_entries d piece end) × (end ≡ bytes_stop piece lasts)
TookBytes Empty d piece lasts end old new = ⊥
TookBytes (Waiting watched) d piece lasts end old new = ⊥
TookBytes Done d piece lasts end old new = ⊥
TookBytes (Refused fault) d piece lasts end old new = (fault ≡ NoMemory) × (end ≡ Some LostNoMemory)

abbrev pub TookLine : Pumped → ℕ → Piece → Lasts → Option DeviceEnd → BookView → BookView → Type 0
TookLine Fed d piece lasts end old new = MovesOn old new (line_entries d piece end) × (end ≡ line_stop piece lasts)
TookLine Empty d piece lasts end old new = ⊥
TookLine (Waiting watched) d piece lasts end old new = ⊥
TookLine Done d piece lasts end old new = ⊥
TookLine (Refused fault) d piece lasts end old new = (fault ≡ NoMemory) × (end ≡ Some LostNoMemory)

-- one piece was received from one of its lanes
abbrev pub GotOne : InletsView → InletsView → Type 0
GotOne x y = (piece : Piece) × ((y ≡ with_bytes piece x) ⊎ (y ≡ with_edge piece x))

-- the piece was received from its edge lane, which is there
abbrev pub GetsLine : Piece → InletsView → InletsView → Type 0
GetsLine piece x y = (y ≡ with_edge piece x) × ((lane : Taking Piece) × (x.edges ≡ Some lane))

-- what a look at a running device answers
abbrev pub Looked : Pumped → ℕ → InletsView → InletsView → Lasts → Option DeviceEnd → BookView → BookView → Type 0
Looked Fed d x y lasts end old new =
    (piece : Piece) × (((y ≡ with_bytes piece x) × TookBytes Fed d piece lasts end old new) ⊎ (GetsLine piece x y × TookLine Fed d piece lasts end old new))
Looked Empty d x y lasts end old new = y ≡ x
Looked (Waiting watched) d x y lasts end old new = ⊥
Looked Done d x y lasts end old new = ⊥
Looked (Refused fault) d x y lasts end old new = GotOne x y × (fault ≡ NoMemory) × (end ≡ Some LostNoMemory)

-- One piece was received from one of its lanes, and the book took it: the log gained what the piece says, and the device ends as its lanes have told.
pub record TakesOne (d : ℕ) (x y : InletsView) (end : Option DeviceEnd) (old new : BookView) : Type 0 where
  pub piece : Piece
  pub gets : ((y ≡ with_bytes piece x) × MovesOn old new (bytes_entries d piece end)) ⊎ (GetsLine piece x y × MovesOn old new (line_entries d piece end))
  pub ends : end ≡ end_told y

-- devices wait
abbrev pub IsWaiting : HubView → Type 0
IsWaiting h = (count_by was_watched h.book.sessions < h.wait) × (h.door.done ≡ false)

-- this is device d of a hub
abbrev pub HasDevice : HubView → ℕ → HubDevice → Type 0
HasDevice h d x = slice_get (devices_of h.inlets h.ends) d ≡ Some x

abbrev pub DeviceHasStopped : HubView → ℕ → Type 0
DeviceHasStopped h d = (x : HubDevice) × HasDevice h d x × (is_some x.end ≡ true)

abbrev pub DeviceGoesOn : HubView → ℕ → Type 0
DeviceGoesOn h d = MayGoOn (parts_of h) × ((x : HubDevice) × HasDevice h d x × (x.end ≡ None))

-- one piece was received from it, and the book took it
abbrev pub DeviceIsFed : ℕ → HubView → HubView → Type 0
DeviceIsFed d old new =
    (x y : HubDevice) × HasDevice old d x × HasDevice new d y × TakesOne d x.lanes y.lanes y.end old.book new.book

-- one piece was received from it, and the book refused it: the device is lost
abbrev pub DeviceIsRefused : ℕ → HubView → HubView → Type 0
DeviceIsRefused d old new =
    (x y : HubDevice) × HasDevice old d x × HasDevice new d y × GotOne x.lanes y.lanes × (y.end ≡ Some LostNoMemory)

-- Waiting exactly if devices wait; Done exactly if the device has stopped. Otherwise a piece is received from one lane, or there is none;
-- and it is Fed exactly if the book did not refuse that piece.
abbrev pub DevicePumped : Pumped → ℕ → HubView → HubView → Type 0
DevicePumped (Waiting watched) d old new = IsWaiting old × (watched ≡ count_by was_watched old.book.sessions) × (new ≡ old)
DevicePumped Done d old new = DeviceHasStopped old d × (new ≡ old)
DevicePumped Empty d old new = DeviceGoesOn old d × (new ≡ old)
DevicePumped Fed d old new = DeviceGoesOn old d × DeviceIsFed d old new
DevicePumped (Refused fault) d old new = DeviceGoesOn old d × DeviceIsRefused d old new × (fault ≡ NoMemory)

-- a look at a device changes nothing but the book and this device
pub record KeepsOthers (d : ℕ) (old new : HubView) : Type 0 where
  pub lanes : InletsView
  pub end : Option DeviceEnd
  pub same : new ≡ record old { book = new.book; inlets = slice_set old.inlets d lanes; ends = slice_set old.ends d end }

-- one piece was received from the lane
abbrev pub GotInput : Taking Piece → Taking Piece → Type 0
GotInput x y = (piece : Piece) × (y ≡ with_got piece x)

-- a session was closed for this reason
abbrev pub ClosedBy : Close → MemberView → Type 0
ClosedBy why a = (place : ℕ) × (a.session.closing ≡ Some (place, why))

-- what a piece of a session's input does to the book: the requests that it ends are answered, and the last piece hangs the session up
abbrev pub Hearing : Piece → ℕ → BookView → BookView → Type 0
Hearing (BytesPiece at bytes) s old new = new ≡ old
Hearing (Line line) s old new = new ≡ old
Hearing (Input bytes) s old new = AnswersRequests false s bytes old new
Hearing (Last ending) s old new = HangsUp s (why_of ending) old new

-- what became of a piece of a session's input; if it was refused, none of its requests is answered, and the session is closed
abbrev pub TookInput : Pumped → Piece → ℕ → BookView → BookView → Type 0
TookInput Fed piece s old new = Hearing piece s old new
TookInput Empty piece s old new = ⊥
TookInput (Waiting watched) piece s old new = ⊥
TookInput Done piece s old new = ⊥
TookInput (Refused fault) piece s old new = (fault ≡ NoMemory) × HangsUp s CloseNoMemory old new

-- what a look at an open session answers
abbrev pub LookedAt : Pumped → Taking Piece → Taking Piece → ℕ → BookView → BookView → Type 0
LookedAt Fed x y s old new = (piece : Piece) × (y ≡ with_got piece x) × Hearing piece s old new
LookedAt Empty x y s old new = y ≡ x
LookedAt (Waiting watched) x y s old new = ⊥
LookedAt Done x y s old new = ⊥
LookedAt (Refused fault) x y s old new = GotInput x y × (fault ≡ NoMemory) × HangsUp s CloseNoMemory old new

-- this is session s of a hub
abbrev pub HasSession : HubView → ℕ → MemberView → Type 0
HasSession h s a = slice_get h.book.sessions s ≡ Some a

-- a session is closed
abbrev pub IsClosedAt : HubView → ℕ → Type 0
IsClosedAt h s = (a : MemberView) × HasSession h s a × IsClosed a

-- for this reason
abbrev pub IsClosedBy : Close → HubView → ℕ → Type 0
IsClosedBy why h s = (a : MemberView) × HasSession h s a × ClosedBy why a

abbrev pub IsOpenIn : HubView → ℕ → Type 0
IsOpenIn h s = IsOpenAt s h.book.sessions

-- this piece was received from a session's lane
abbrev pub GetsInput : Piece → ℕ → HubView → HubView → Type 0
GetsInput piece s old new =
    (x : Taking Piece) × (slice_get old.inputs s ≡ Some x) × (new.inputs ≡ slice_set old.inputs s (with_got piece x))

-- Done exactly if the session is closed. Otherwise a piece is received from its lane and its requests are answered, or there is none. If the
-- book refuses it, the session is hung up, and otherwise stays as it was.
abbrev pub SessionPumped : Pumped → ℕ → HubView → HubView → Type 0
SessionPumped (Waiting watched) s old new = ⊥
SessionPumped Done s old new = IsClosedAt old s × (new ≡ old)
SessionPumped Empty s old new = IsOpenIn old s × (new ≡ old)
SessionPumped Fed s old new = IsOpenIn old s × ((piece : Piece) × GetsInput piece s old new × Hearing piece s old.book new.book)
SessionPumped (Refused fault) s old new =
    IsOpenIn old s × ((piece : Piece) × GetsInput piece s old new) × (fault ≡ NoMemory) × HangsUp s CloseNoMemory old.book new.book
    × IsClosedBy CloseNoMemory new s

-- a look at a session changes nothing but the book and this session's lane
pub record KeepsOtherInputs (s : ℕ) (old new : HubView) : Type 0 where
  pub lane : Taking Piece
  pub same : new ≡ record old { book = new.book; inputs = slice_set old.inputs s lane }
