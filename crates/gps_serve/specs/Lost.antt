-- Which devices were lost, which sessions closed, which readers ended, what a monitor lacks, and which links were dropped, because the daemon was out of
-- memory.
use Rattle.std.specs.Prelude.{◌≡◌, ◌||◌, ◌⊎◌, ◌+◌, ◌<◌, ℕ, Bool, true, false, List, length, Option, Some, None}
use Rattle.std.specs.List.{All}
use Rattle.book_sessions.specs.MemberView.{MemberView}
use Rattle.gps_lane.specs.Ends.{Putting}
use Rattle.gps_outside.specs.Links.{PassLinks}
use Rattle.gps_outside.specs.Told.{Goes}
use Rattle.hub_promise.specs.declared.ends.DeviceEnd.{DeviceEnd}
use Rattle.hub_promise.specs.declared.ends.DeviceEnd.TheVariants.{Ended, ReadFault, NoMemory as LostNoMemory}
use Rattle.hub_promise.specs.Given.{ending_of}
use Rattle.report_book.specs.BookView.{BookView}
use Rattle.serve_end.specs.declared.done.DeviceDone.{DeviceDone}
use Rattle.serve_end.specs.declared.done.MonitorDone.{MonitorDone}
use Rattle.serve_end.specs.declared.done.SessionDone.{SessionDone}
use Rattle.serve_end.specs.declared.device.DeviceRun.{DeviceRun}
use Rattle.gps_lane.specs.declared.piece.Ending.{Ending}
use Rattle.gps_lane.specs.declared.piece.Ending.TheVariants as reading
use Rattle.gps_lane.specs.declared.piece.Piece.{Piece}
use Rattle.serve_workers.specs.declared.reading.ReaderDone.{ReaderDone}
use Rattle.serve_workers.specs.declared.session.LinkDone.{LinkDone}
use Rattle.session_core.specs.declared.mark.Close.{Close}
use Rattle.session_core.specs.declared.mark.Close.TheVariants as closed
use Rattle.serve_workers.specs.Watching.{each_once}
use Rattle.serve_door.specs.Doors.{Way}

-- a device that ended so was not lost because it was out of memory
abbrev pub IsNotLostOutOfMemory : Option DeviceEnd → Type 0
IsNotLostOutOfMemory end = end ≡ Some LostNoMemory → ⊥

abbrev pub lost_out_of_memory : Option DeviceEnd → Bool
lost_out_of_memory None = false
lost_out_of_memory (Some Ended) = false
lost_out_of_memory (Some ReadFault) = false
lost_out_of_memory (Some LostNoMemory) = true

-- a session with this closing was not closed because it was out of memory
abbrev pub IsNotClosedOutOfMemory : Option (ℕ × Close) → Type 0
IsNotClosedOutOfMemory closing = (place : ℕ) → closing ≡ Some (place, closed.NoMemory) → ⊥

abbrev pub closes_out_of_memory : Close → Bool
closes_out_of_memory closed.HungUp = false
closes_out_of_memory closed.ReadFault = false
closes_out_of_memory closed.DaemonEnd = false
closes_out_of_memory closed.TooManyRequests = false
closes_out_of_memory closed.Overrun = false
closes_out_of_memory closed.NoMemory = true

abbrev pub closed_out_of_memory : Option (ℕ × Close) → Bool
closed_out_of_memory None = false
closed_out_of_memory (Some closing) = closes_out_of_memory closing.1

-- No device was lost because it was out of memory, and no session of the book was closed for that.
pub record NoneLost {S R : Type 0} (b : BookView) (devices : List (DeviceDone S R)) : Type 0 where
  pub devices_kept : All (λ (d : DeviceDone S R). IsNotLostOutOfMemory d.end) devices
  pub sessions_kept : All (λ (a : MemberView). IsNotClosedOutOfMemory a.session.closing) b.sessions

-- a reader that ended so was out of memory
abbrev pub ended_out_of_memory : Option Ending → Bool
ended_out_of_memory None = false
ended_out_of_memory (Some reading.End) = false
ended_out_of_memory (Some reading.Failed) = false
ended_out_of_memory (Some reading.NoMemory) = true

-- so was the reader of a device's edges, if there is one
abbrev pub lines_out_of_memory : {S R : Type 0} → Option (ReaderDone S R) → Bool
lines_out_of_memory None = false
lines_out_of_memory (Some reader) = ended_out_of_memory reader.ending

-- or a reader of a device
abbrev pub run_out_of_memory : {S R : Type 0} → DeviceRun S R → Bool
run_out_of_memory run = ended_out_of_memory run.bytes.ending || lines_out_of_memory run.edges

-- or that of a session
abbrev pub link_out_of_memory : {S K R : Type 0} → LinkDone S K R → Bool
link_out_of_memory run = ended_out_of_memory run.reader.ending

-- what was put into a lane says that its reader was out of memory
abbrev pub TellsOutOfMemory : Option (Putting Piece) → Type 0
TellsOutOfMemory None = ⊥
TellsOutOfMemory (Some tx) = ending_of tx.put ≡ Some reading.NoMemory

-- what was put into the lanes of a device says of no reader that it was out of memory
pub record DeviceHadMemory {S R : Type 0} (device : DeviceDone S R) : Type 0 where
  pub bytes : TellsOutOfMemory (Some device.bytes_tx) → ⊥
  pub edges : TellsOutOfMemory device.edges_tx → ⊥

-- nor what was put into the input lane of a session
pub record SessionHadMemory {S K R : Type 0} (session : SessionDone S K R) : Type 0 where
  pub input : TellsOutOfMemory (Some session.input_tx) → ⊥

-- No reader of a device or of a session says that it was out of memory.
pub record ReadersHadMemory {S K R : Type 0} (devices : List (DeviceDone S R)) (sessions : List (SessionDone S K R)) : Type 0 where
  pub devices_had : All DeviceHadMemory devices
  pub sessions_had : All SessionHadMemory sessions

-- the device was lost because the daemon was out of memory
abbrev pub WasLostOutOfMemory : {S R : Type 0} → DeviceDone S R → Type 0
WasLostOutOfMemory device = device.end ≡ Some LostNoMemory

-- the session was closed for that
abbrev pub WasClosedOutOfMemory : MemberView → Type 0
WasClosedOutOfMemory a = closed_out_of_memory a.session.closing ≡ true

-- a reader of the device says that it was out of memory
abbrev pub DeviceTellsOutOfMemory : {S R : Type 0} → DeviceDone S R → Type 0
DeviceTellsOutOfMemory device = TellsOutOfMemory (Some device.bytes_tx) ⊎ TellsOutOfMemory device.edges_tx

-- or the reader of the session's input
abbrev pub SessionTellsOutOfMemory : {S K R : Type 0} → SessionDone S K R → Type 0
SessionTellsOutOfMemory session = TellsOutOfMemory (Some session.input_tx)

-- the monitor took a sample that is missing from those that it kept
abbrev pub MissesSample : MonitorDone → Type 0
MissesSample done = length done.taken.items < length (each_once done.monitor.taken)

-- The door gave a link that became no session, and is not counted among those that were dropped because there were too many sessions. If the door does not
-- tell its links, this says nothing: `taken` may be any list.
pub record LinkIsUncounted {S K : Type 0} (told left : Option (List (Way S K))) (sessions full : ℕ) : Type 0 where
  pub taken : List (Way S K)
  pub passed : Goes (PassLinks taken) told left
  pub more : sessions + full < length taken
