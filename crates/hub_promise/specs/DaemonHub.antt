-- What always holds of the running daemon: of its book, the lanes of its devices and sessions, and what each session was given, over the whole
-- log of the run. The book keeps the last part of this log; the earlier part was forgotten.
use Rattle.std.specs.Prelude.{◌≡◌, ◌<◌, ◌≤◌, ◌⊎◌, ℕ, Bool, true, false, List, [], ◌∷◌, ◌++◌, length, count_by, Option, Some, None, IfSome}
use Rattle.std.specs.List.{AllZip, range_with_len}
use Rattle.book_log.specs.Entries.{Entry, IsLog, has_end, has_lost, stops_in, stream}
use Rattle.book_log.specs.History.{history}
use Rattle.book_log.specs.Standing.{StandsFor}
use Rattle.book_sessions.specs.MemberView.{MemberView}
use Rattle.book_sessions.specs.Roster.{was_watched}
use Rattle.book_units.specs.Samples.{samples_of}
use Rattle.book_units.specs.Units.{UnitView, all_of}
use Rattle.device_core.specs.Stream.{bytes_in, edges_in}
use Rattle.gps_lane.specs.Ends.{Taking}
use Rattle.gps_fixed.specs.Lists.{IsPrefix}
use Rattle.gps_command.specs.Requests.{requests}
use Rattle.packet_cut.specs.Packets.{bytes_of}
use Rattle.report_book.specs.BookView.{BookView}
use Rattle.gps_lane.specs.Carried.{input_bytes}
use Rattle.gps_lane.specs.EdgeLines.{all_edge_lines}
use Rattle.gps_lane.specs.declared.piece.Ending.{Ending}
use Rattle.gps_lane.specs.declared.piece.Ending.TheVariants.{End, Failed, NoMemory}
use Rattle.gps_lane.specs.declared.piece.Piece.{Piece}
use Rattle.gps_lane.specs.declared.piece.Piece.TheVariants.{Bytes, Line, Input, Last}
use Rattle.session_core.specs.declared.mark.Close.{Close}
use Rattle.session_core.specs.declared.mark.Close.TheVariants.{HungUp, ReadFault, DaemonEnd, TooManyRequests, Overrun, NoMemory as CloseNoMemory}
use Rattle.session_core.specs.SessionView.{SessionView}
use Rattle.session_runs.specs.Accounts.{Account}
use Rattle.session_runs.specs.Runs.{SessionRun}
use Rattle.hub_promise.specs.Given.{edge_ending, edges_of, edges_said, end_by, ending_of, got_of, is_end, is_loss, stamped_of}
use Rattle.hub_promise.specs.Parts.{HubDevice, Parts}

-- The bytes of device d in the log, each with the stamp of its piece, are those received through its lane, joined, and its edges are the readable
-- lines of its edge lane. Only a piece that the book refused is excepted: it is the last one received from its lane, and the device is lost. The
-- device has ended in the log exactly if both lanes have told that their source ended and no piece was refused; a device without edges counts as one
-- whose edges have ended. It was lost exactly if it has stopped otherwise.
-- `taken` and `refused` are the pieces of bytes that the book took and refused, `lines` and `refused_lines` those of edges.
pub record DeviceFits (log : List Entry) (d : ℕ) (x : HubDevice) : Type 0 where
  pub taken : List Piece
  pub refused : List Piece
  pub lines : List Piece
  pub refused_lines : List Piece
  pub lane : x.lanes.bytes.got ≡ taken ++ refused
  pub edge_lane : got_of x.lanes.edges ≡ lines ++ refused_lines
  pub few : length (refused ++ refused_lines) ≤ 1
  pub bytes : bytes_in (stream d log) ≡ stamped_of taken
  pub edges : edges_in (stream d log) ≡ edges_of lines
  pub ends : x.end ≡ end_by (refused ++ refused_lines) (ending_of taken) (edge_ending x.lanes.edges lines)
  pub ended : has_end d log ≡ is_end x.end
  pub lost : has_lost d log ≡ is_loss x.end

-- each of the first n devices has ended or was lost
abbrev pub AllStop : ℕ → List Entry → Type 0
AllStop count log = (d : ℕ) → d < count → stops_in d log ≡ true

-- The last piece that was received from its lane tells that its source ended so, and each request of what was received is answered.
pub record HeardOut (ending : Ending) (x : Taking Piece) (s : SessionView) : Type 0 where
  pub before : List Piece
  pub told : x.got ≡ before ++ Last ending ∷ []
  pub answered : s.requests ≡ length (requests (input_bytes x.got))

-- a piece at which a session may be closed because it is out of memory: one with bytes of requests, or the last one of a reader that was out of memory
abbrev pub MayBeOutOfMemory : Piece → Type 0
MayBeOutOfMemory (Bytes at bytes) = ⊥
MayBeOutOfMemory (Line line) = ⊥
MayBeOutOfMemory (Input bytes) = Unit {0}
MayBeOutOfMemory (Last End) = ⊥
MayBeOutOfMemory (Last Failed) = ⊥
MayBeOutOfMemory (Last NoMemory) = Unit {0}

-- The requests of what was received before some piece are answered, and none that ends in that piece or later: it was the last one that the book
-- was given.
pub record ClosedOutOfMemory (x : Taking Piece) (s : SessionView) : Type 0 where
  pub before : List Piece
  pub piece : Piece
  pub later : List Piece
  pub got : x.got ≡ before ++ piece ∷ later
  pub lacks : MayBeOutOfMemory piece
  pub answered : s.requests ≡ length (requests (input_bytes before))

-- Why a session may be closed at this place of the whole history: its client was heard out; each device has stopped, and no report came after the
-- closing; all requests that may be answered are answered, and one more was received; its outlet was given at least as many items as may wait in it
-- (in all: it is not said that they waited at one time); or it was cut short because it was out of memory. The cause holds of what the hub has now.
abbrev pub MayClose : ℕ → List Entry → Taking Piece → SessionView → ℕ → Close → Type 0
MayClose count log x s place HungUp = HeardOut End x s
MayClose count log x s place ReadFault = HeardOut Failed x s
MayClose count log x s place DaemonEnd = AllStop count log × (place ≡ length (history log))
MayClose count log x s place TooManyRequests = (s.requests ≡ s.most_requests) × (s.most_requests < length (requests (input_bytes x.got)))
MayClose count log x s place Overrun = s.cap ≤ length s.kept
MayClose count log x s place CloseNoMemory = ClosedOutOfMemory x s

abbrev pub ClosesFor : ℕ → List Entry → Taking Piece → SessionView → Option (ℕ × Close) → Type 0
ClosesFor count log x s None = Unit {0}
ClosesFor count log x s (Some closing) = MayClose count log x s closing.0 closing.1

-- A session has a run over the whole log: its stretches (the book keeps the last of them), and the place of its closing. What its outlet was
-- given is the items of this run. Its first stretch begins with the greeting, and stretch k answers request k of what was received from its input lane,
-- by what was known when it was answered. A request without an answer comes after all answered ones, in a session that is closed. Its closing has a
-- cause. The whole log is `forgotten ++ recent`. A lane keeps all that was put into it, so no item counts as taken (`[]`).
pub record SessionFits (names : List (List ℕ)) (forgotten recent : List Entry) (a : MemberView) (x : Taking Piece) : Type 0 where
  pub run : SessionRun
  pub account : Account names forgotten recent a run [] (input_bytes x.got)
  pub cause : ClosesFor (length names) (forgotten ++ recent) x a.session run.closing

-- A unit's samples are those that the history gives it: the published ones, the one that is begun and not published, and the waiting ones.
abbrev pub UnitFits : List Entry → ℕ → UnitView → Type 0
UnitFits log u x = all_of x ≡ samples_of u (history log)

-- Devices wait until the given number of sessions has watched, or the door has closed or failed.
abbrev pub MayGoOn : Parts → Type 0
MayGoOn p = (p.wait ≤ count_by was_watched p.book.sessions) ⊎ (p.done ≡ true)

-- 0, 1 and so on: the number of each item of a list
abbrev pub numbers_of : {X : Type 0} → List X → List ℕ
numbers_of xs = range_with_len 0 (length xs)

-- the log of the whole run: what was forgotten of it, and what the book keeps
abbrev pub whole_log : List Entry → BookView → List Entry
whole_log forgotten book = forgotten ++ book.log.log

-- If the book has forgotten these entries: it has a summary of them (`opening`), and each device, session and unit fits the log of the whole run.
-- There is one device for each name of the book: device d is that of name d. While devices wait, the log is empty.
pub record DaemonHubOver (forgotten : List Entry) (p : Parts) : Type 0 where
  pub opening : StandsFor p.book.log.opening forgotten
  pub devices : AllZip (DeviceFits (whole_log forgotten p.book)) (numbers_of p.book.names) p.devices
  pub sessions : AllZip (SessionFits p.book.names forgotten p.book.log.log) p.book.sessions p.inputs
  pub units : AllZip (UnitFits (whole_log forgotten p.book)) (numbers_of p.book.units) p.book.units
  pub waits : MayGoOn p ⊎ (whole_log forgotten p.book ≡ [])

-- The bytes of device d in the log are a prefix of what its source holds, and its edges are a prefix of those of the lines that its source of
-- edges holds; each if it is told what the source holds.
pub record LogIsRead (log : List Entry) (d : ℕ) (x : HubDevice) : Type 0 where
  pub bytes : IfSome x.lanes.bytes.about.source (λ (held : List ℕ). IsPrefix (bytes_of (bytes_in (stream d log))) held)
  pub edges : IfSome x.lanes.edges (λ (lane : Taking Piece). IfSome lane.about.source (λ (held : List ℕ).
      IsPrefix (edges_in (stream d log)) (edges_said (all_edge_lines held))))

-- the same of each device
abbrev pub LogsAreRead : List Entry → Parts → Type 0
LogsAreRead forgotten p = AllZip (LogIsRead (whole_log forgotten p.book)) (numbers_of p.book.names) p.devices

-- The book has forgotten some entries, perhaps none. Of each device, the log has only what its sources held, in order; it has nothing of any other device,
-- and nothing of a device that has stopped before.
abbrev pub DaemonHub : Parts → Type 0
DaemonHub p = (forgotten : List Entry) × DaemonHubOver forgotten p × LogsAreRead forgotten p
    × IsLog (length p.book.names) (whole_log forgotten p.book)
