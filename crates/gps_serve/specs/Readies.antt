-- What the threads of the sessions and the monitors did, before it is put together.
use Rattle.std.specs.Prelude.{◌≡◌, ℕ, Bool, true, false, List, [], ◌∷◌, ◌++◌, length, map, Some}
use Rattle.std.specs.Arc.{arc_value}
use Rattle.std.specs.List.{AllZip, range_with_len}
use Rattle.book_sessions.specs.MemberView.{MemberView}
use Rattle.book_units.specs.Units.{UnitView, segment_of}
use Rattle.gps_lane.specs.Ends.{Taking}
use Rattle.gps_outside.specs.Links.{IsUnwritten}
use Rattle.session_core.specs.Naming.{table_of}
use Rattle.gps_lane.specs.declared.piece.Piece.{Piece}
use Rattle.serve_end.specs.declared.done.MonitorDone.{MonitorDone}
use Rattle.serve_end.specs.declared.done.SessionDone.{SessionDone}
use Rattle.serve_workers.specs.declared.monitors.ReadingsDone.{ReadingsDone}
use Rattle.serve_workers.specs.declared.session.SessionLink.{SessionLink}
use Rattle.serve_workers.specs.declared.session.LinkDone.{LinkDone}
use Rattle.serve_workers.specs.Monitors.{MonitorRan}
use Rattle.serve_workers.specs.Sessions.{SessionRuns, Wrote}
use Rattle.gps_serve.specs.Facts.{SinkFacts}
use Rattle.gps_serve.specs.Served.{InputServed, MonitorServed, OutletServed}
use Rattle.serve_door.specs.Doors.{HasNewLanes}
use Rattle.serve_end.specs.Lanes.{OneMoreAtMost}
use Rattle.serve_end.specs.Outlets.{writer_end}
use Rattle.serve_end.specs.Runs.{SourceFacts}
use Rattle.gps_serve.specs.Starts.{IsUnreadBy}

-- the threads of a session worked on a new link, whose lanes are those of its admission
pub record SessionReady {S K R : Type 0} (sources : SourceFacts S) (sinks : SinkFacts K) (a : MemberView) (x : Taking Piece)
    (run : LinkDone S K R) : Type 0 where
  pub link : SessionLink S K R
  pub unread : IsUnreadBy sources link.source
  pub unwritten : IsUnwritten (sinks.written link.sink) (sinks.faults link.sink)
  pub unused : HasNewLanes link
  pub ran : SessionRuns sources.content sources.faults sources.quiets sinks.written sinks.faults link run
  pub input : x.lane ≡ link.pieces.lane
  pub outlet : Some link.items.lane ≡ table_of a.session.name

abbrev pub AreReady : {S K R : Type 0} → SourceFacts S → SinkFacts K → List MemberView → List (Taking Piece) → List (LinkDone S K R) → Type 0
AreReady sources sinks [] [] [] = Unit {0}
AreReady sources sinks [] [] (run ∷ runs) = ⊥
AreReady sources sinks [] (x ∷ inputs) runs = ⊥
AreReady sources sinks (a ∷ sessions) [] runs = ⊥
AreReady sources sinks (a ∷ sessions) (x ∷ inputs) [] = ⊥
AreReady sources sinks (a ∷ sessions) (x ∷ inputs) (run ∷ runs) = SessionReady sources sinks a x run × AreReady sources sinks sessions inputs runs

-- what is left of a session's input. `x` is its lane as the hub left it; if that had not told how its source ended, one more piece may have come since.
pub record InputLeft {S K R : Type 0} (sources : SourceFacts S) (x : Taking Piece) (done : SessionDone S K R) : Type 0 where
  pub served : InputServed sources done
  pub settled : OneMoreAtMost x done.input_rx

-- The session has the source that its reader hands back, and the end of its input lane; its sink is that of the link on which its writer worked,
-- whichever that was.
pub record IsLeftOfLink {S K R : Type 0} (sources : SourceFacts S) (sinks : SinkFacts K) (run : LinkDone S K R) (done : SessionDone S K R) : Type 0 where
  pub source : done.source ≡ run.reader.source
  pub input : done.input_tx ≡ run.reader.pieces
  pub sink : (link : SessionLink S K R) → SessionRuns sources.content sources.faults sources.quiets sinks.written sinks.faults link run
      → Wrote (writer_end done.end) link.items done.items_rx (sinks.written link.sink) (sinks.written done.sink) (sinks.faults link.sink)
      (sinks.faults done.sink)

-- these sessions are put together, and those are left
pub record SessionsSoFar {S K R : Type 0} (sources : SourceFacts S) (sinks : SinkFacts K) (sessions : List MemberView) (inputs left : List (Taking Piece))
    (runs : List (LinkDone S K R)) (number : ℕ) (done : List (SessionDone S K R)) : Type 0 where
  pub gone : List MemberView
  pub rest : List MemberView
  pub split : sessions ≡ gone ++ rest
  pub gone_inputs : List (Taking Piece)
  pub inputs_split : inputs ≡ gone_inputs ++ left
  pub inputs_are : AllZip (InputLeft sources) gone_inputs done
  pub outlets_are : AllZip (OutletServed sinks) gone done
  pub numbers : map (λ (s : SessionDone S K R). s.number) done ≡ range_with_len 0 number
  pub count : length gone ≡ number
  pub ready : AreReady sources sinks rest left runs

-- all of them
pub record AllServed {S K R : Type 0} (sources : SourceFacts S) (sinks : SinkFacts K) (sessions : List MemberView) (inputs : List (Taking Piece))
    (done : List (SessionDone S K R)) : Type 0 where
  pub inputs_are : AllZip (InputLeft sources) inputs done
  pub outlets_are : AllZip (OutletServed sinks) sessions done
  pub numbers : map (λ (s : SessionDone S K R). s.number) done ≡ range_with_len 0 (length sessions)

-- a unit's monitor did its work: all of it, unless the daemon was out of memory
pub record MonitorReady (tries : ℕ) (no_memory : Bool) (u : UnitView) (watch : ReadingsDone) : Type 0 where
  pub segment : arc_value watch.segment ≡ segment_of u
  pub watched : MonitorRan (segment_of u) tries watch.whole watch.monitor watch.taken.items
  pub whole : no_memory ≡ false → watch.whole ≡ true

-- what is left of a monitor has all that it kept and all that it took
pub record IsLeftOfWatch (watch : ReadingsDone) (done : MonitorDone) : Type 0 where
  pub kept : done.taken ≡ watch.taken
  pub taken : done.monitor.taken ≡ watch.monitor.taken

pub record MonitorsSoFar (tries : ℕ) (no_memory : Bool) (units : List UnitView) (watched : List ReadingsDone) (unit : ℕ)
    (done : List MonitorDone) : Type 0 where
  pub gone : List UnitView
  pub rest : List UnitView
  pub split : units ≡ gone ++ rest
  pub count : length gone ≡ unit
  pub served : AllZip (MonitorServed tries no_memory) gone done
  pub ready : AllZip (MonitorReady tries no_memory) rest watched
