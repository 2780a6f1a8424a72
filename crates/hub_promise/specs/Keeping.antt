-- All that always holds of a hub: `DaemonHub`, and what the hub keeps beside the parts that `DaemonHub` speaks of.
use Rattle.std.specs.Prelude.{◌≡◌, ◌<◌, ◌≤◌, ◌⊎◌, ℕ, Bool, true, false, List, [], ◌++◌, length, map, is_some, Option, Some, None, IfSome}
use Rattle.std.specs.List.{All, AllZip}
use Rattle.atomic_table.specs.Seated.{TableId}
use Rattle.book_log.specs.Entries.{Entry}
use Rattle.book_log.specs.Standing.{StandsFor}
use Rattle.book_sessions.specs.MemberView.{MemberView}
use Rattle.book_units.specs.Units.{UnitView, all_of}
use Rattle.gps_lane.specs.Ends.{Taking}
use Rattle.report_book.specs.BookView.{BookView}
use Rattle.session_core.specs.Naming.{of_table}
use Rattle.report_book.specs.Standing.{BookHolds}
use Rattle.gps_lane.specs.Held.{AreDue}
use Rattle.gps_lane.specs.declared.piece.Ending.{Ending}
use Rattle.gps_lane.specs.declared.piece.Piece.{Piece}
use Rattle.hub_promise.specs.declared.ends.DeviceEnd.{DeviceEnd}
use Rattle.hub_promise.specs.DaemonHub.{AllStop, DaemonHubOver, whole_log}
use Rattle.hub_promise.specs.Given.{edge_ending, end_by, ending_of, got_of}
use Rattle.hub_promise.specs.Parts.{AreAdmitted, HubView, InletsView, Terms, parts_of, subject_of, terms_of}

-- how the sources of a device's two lanes ended, if the lanes have told
pub record Lasts : Type 0 where
  pub bytes : Option Ending
  pub edges : Option Ending

-- the same, by all that was received from them
abbrev pub told_of : InletsView → Lasts
told_of x = record { bytes = ending_of x.bytes.got; edges = edge_ending x.edges (got_of x.edges) }

-- how a device ends by what was received from its lanes, if the book refused nothing of it
abbrev pub end_told : InletsView → Option DeviceEnd
end_told x = end_by [] (told_of x).bytes (told_of x).edges

-- If the book has forgotten these entries: what `DaemonHub` says, and each device of a hub that was shut has stopped.
pub record KeepsOver (forgotten : List Entry) (h : HubView) : Type 0 where
  pub hub : DaemonHubOver forgotten (parts_of h)
  pub shut : h.is_shut ≡ true → AllStop (length h.book.names) (whole_log forgotten h.book)

-- what a book that is shut has of each session
abbrev pub IsClosed : MemberView → Type 0
IsClosed a = is_some a.session.closing ≡ true

-- what was received from a device's lanes is a prefix of what their sources hold
abbrev pub LaneIsRead : InletsView → Type 0
LaneIsRead x = AreDue x.bytes.about x.bytes.got × IfSome x.edges (λ (lane : Taking Piece). AreDue lane.about lane.got)

-- The items of a session's lane are about the hub's devices and what its client sends, and what was received of its input is a prefix of that.
pub record ServesClient (terms : Terms) (a : MemberView) (x : Taking Piece) : Type 0 where
  pub table : TableId
  pub name : a.session.name ≡ of_table table (subject_of terms x.about.source)
  pub heard : AreDue x.about x.got

-- what always holds of a hub whose terms are these, and of what it keeps of the endings that its lanes have told
pub record HubKeeps (terms : Terms) (h : HubView) (lasts : List Lasts) : Type 0 where
  pub holds : BookHolds h.book
  pub terms_are : terms_of h.book h.inlets h.wait ≡ terms
  pub count : length h.inlets ≡ length h.book.names
  pub ends_count : length h.ends ≡ length h.book.names
  pub told : lasts ≡ map told_of h.inlets
  pub admitted : AreAdmitted h.door.links h.book.sessions h.inputs
  pub closed : h.is_shut ≡ true → All IsClosed h.book.sessions
  pub read : All LaneIsRead h.inlets
  pub clients : AllZip (ServesClient terms) h.book.sessions h.inputs
  pub over : (forgotten : List Entry) × KeepsOver forgotten h

-- nothing was received from a device's lanes
abbrev pub NothingGot : InletsView → Type 0
NothingGot x = (x.bytes.got ≡ []) × (got_of x.edges ≡ [])

-- before anything is received
abbrev pub fresh_lasts : InletsView → Lasts
fresh_lasts x = record { bytes = None; edges = edge_ending x.edges [] }

abbrev pub no_end : InletsView → Option DeviceEnd
no_end x = None

-- nothing was added to a book yet
pub record IsUnused (book : BookView) : Type 0 where
  pub opening : StandsFor book.log.opening []
  pub log : book.log.log ≡ []
  pub sessions : book.sessions ≡ []
  pub units : All (λ (u : UnitView). all_of u ≡ []) book.units
