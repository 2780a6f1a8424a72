-- The account of a session in the run of a script, by the script's lines: what they send it, how its requests are answered, and why it is closed.
-- This project's own.
use Rattle.std.specs.Prelude.{◌≡◌, ◌<◌, ◌≤◌, ◌+◌, ℕ, suc, List, [], ◌∷◌, ◌++◌, cond, length, take, nat_eq, slice_get, Option, Some, None, unwrap_or}
use Rattle.std.specs.List.{flat_map}
use Rattle.std.specs.Option.{option_to_list}
use Rattle.gps_command.specs.Requests.{requests}
use Rattle.gps_command.specs.declared.request.RawCommand.{RawCommand}
use Rattle.line_cut.specs.Lines.{line_cut}
use Rattle.line_player.specs.Courses.{Course, course_of}
use Rattle.session_core.specs.SessionView.{opening_policy, usual_requests}
use Rattle.session_core.specs.Stretches.{Stretch, AreInOrder, answer_stretch, end_of}
use Rattle.session_core.specs.declared.mark.Close.{Close}
use Rattle.session_core.specs.declared.mark.Close.TheVariants.{HungUp, ReadFault, DaemonEnd, TooManyRequests, Overrun, NoMemory}
use Rattle.book_log.specs.Entries.{Entry, edged, ended, fed, lost}
use Rattle.book_log.specs.History.{history}
use Rattle.book_replies.specs.Replies.{opening_reply, reply}
use Rattle.report_book.specs.Knowing.{known_in}
use Rattle.session_runs.specs.Asking.{Asked}
use Rattle.replay_script.specs.Events.{event_in}
use Rattle.replay_script.specs.declared.event.ScriptEvent.{ScriptEvent}
use Rattle.replay_script.specs.declared.event.ScriptEvent.TheVariants.{Feed, Edge, End, Lose, Open, Input, Hang}
use Rattle.replay_player.specs.Clients.{Client, items_of}
use Rattle.replay_player.specs.Ending.{HaveStopped}
use Rattle.replay_player.specs.States.{State}
use Rattle.gps_replay.specs.Run.{rules_of}
use Rattle.replay_laws.specs.Outputs.{end_state}

-- ---- what lines bring

-- the course of these lines, up to the first refused one
abbrev pub course_after : ℕ → List (List ℕ) → Course State
course_after queue texts = course_of (rules_of queue) texts

abbrev pub state_after : ℕ → List (List ℕ) → State
state_after queue texts = (course_after queue texts).state

-- the lines that are run: those before the first refused one
abbrev pub lines_run : ℕ → List (List ℕ) → List (List ℕ)
lines_run queue texts = take (course_after queue texts).count texts

-- what an event brings to the log
abbrev pub entries_by : ScriptEvent → List Entry
entries_by (Feed d at bytes) = fed d at bytes
entries_by (Edge d edge) = edged d edge
entries_by (End d) = ended d
entries_by (Lose d) = lost d
entries_by event = []

-- what it sends session s
abbrev pub sent_by : ℕ → ScriptEvent → List ℕ
sent_by s (Input t bytes) = cond (nat_eq t s) bytes []
sent_by s event = []

-- what the event of a line gives
abbrev pub of_line_event : {X : Type 0} → (ScriptEvent → List X) → List ℕ → List X
of_line_event f text = flat_map f (option_to_list (event_in text))

-- the log that these lines bring
abbrev pub log_of : List (List ℕ) → List Entry
log_of texts = flat_map (of_line_event entries_by) texts

-- all that these lines send session s
abbrev pub sent_to : ℕ → List (List ℕ) → List ℕ
sent_to s texts = flat_map (of_line_event (sent_by s)) texts

-- one of these lines is this event, and these come before it
pub record Comes (texts before : List (List ℕ)) (event : ScriptEvent) : Type 0 where
  pub text : List ℕ
  pub after : List (List ℕ)
  pub lines : texts ≡ before ++ text ∷ after
  pub event_is : event_in text ≡ Some event

-- ---- a session

-- A line opened the session. Its outlet keeps as many items as that line says, and its run begins there with the opening.
pub record IsOpenedIn (queue : ℕ) (texts : List (List ℕ)) (s : ℕ) (c : Client) : Type 0 where
  pub before : List (List ℕ)
  pub cap : Option ℕ
  pub line : Comes texts before (Open s cap)
  pub cap_is : c.cap ≡ unwrap_or cap queue
  pub opening : slice_get c.run.stretches 0 ≡ Some (answer_stretch (length (history (log_of before))) opening_policy opening_reply)

-- Request k of what the session was sent ends in a line of input. This stretch answers it by what the lines before that one brought, and begins there.
pub record IsAnswered (names texts : List (List ℕ)) (s k : ℕ) (stretch : Stretch) : Type 0 where
  pub before : List (List ℕ)
  pub bytes : List ℕ
  pub line : Comes texts before (Input s bytes)
  pub waits : length (requests (sent_to s before)) ≤ k
  pub ends : k < length (requests (sent_to s before ++ bytes))
  pub request : RawCommand
  pub is : slice_get (requests (sent_to s texts)) k ≡ Some request
  pub place : stretch.place ≡ length (history (log_of before))
  pub reply : stretch.reply ≡ Some (reply (known_in (length names) (log_of before)) names stretch.policy request)

-- How a session stands after these lines, if this is the log then. Its stretches are in order, and after the opening stretch k answers request k of
-- all that it was sent, when that request was ended. At most 65,536 are answered, and while it is open all are.
pub record IsHeard (queue : ℕ) (names : List (List ℕ)) (log : List Entry) (texts : List (List ℕ)) (s : ℕ) (c : Client) : Type 0 where
  pub opened : IsOpenedIn queue texts s c
  pub asked : Asked names log c.run.stretches (requests (sent_to s texts))
  pub answers : (k : ℕ) (stretch : Stretch) → slice_get c.run.stretches (suc k) ≡ Some stretch → IsAnswered names texts s k stretch
  pub few : length c.run.stretches ≤ 1 + usual_requests
  pub whole : c.run.closing ≡ None → length c.run.stretches ≡ 1 + length (requests (sent_to s texts))
  pub order : AreInOrder (end_of c.run.closing (history log)) c.run.stretches

-- ---- why it is closed

-- This line closed the session: it was open before it, and its run is what it was after it.
pub record IsClosedBy (queue : ℕ) (texts before : List (List ℕ)) (text : List ℕ) (s : ℕ) (was c : Client) : Type 0 where
  pub after : List (List ℕ)
  pub lines : texts ≡ before ++ text ∷ after
  pub there : slice_get (state_after queue before).clients s ≡ Some was
  pub free : was.run.closing ≡ None
  pub now : Client
  pub after_it : slice_get (state_after queue (before ++ text ∷ [])).clients s ≡ Some now
  pub run : now.run ≡ c.run

-- Why it did: the line hung the session up, whose requests were all answered; or one more request was ended than may be answered; or its outlet was
-- given all that it keeps besides the items that were taken before.
abbrev pub ClosesFor : List (List ℕ) → List Entry → List (List ℕ) → List ℕ → ℕ → Client → Client → ℕ → Close → Type 0
ClosesFor names log before text s was c place HungUp =
    (event_in text ≡ Some (Hang s)) × (place ≡ length (history (log_of before))) × (length c.run.stretches ≡ 1 + length (requests (sent_to s before)))
ClosesFor names log before text s was c place TooManyRequests =
    (length c.run.stretches ≡ 1 + usual_requests) × (usual_requests < length (requests (sent_to s (before ++ text ∷ []))))
ClosesFor names log before text s was c place Overrun = was.taken + c.cap ≤ length (items_of names log c)
ClosesFor names log before text s was c place ReadFault = ⊥
ClosesFor names log before text s was c place DaemonEnd = ⊥
ClosesFor names log before text s was c place NoMemory = ⊥

pub record HasCause (queue : ℕ) (names : List (List ℕ)) (log : List Entry) (texts : List (List ℕ)) (s : ℕ) (c : Client) (place : ℕ) (why : Close) : Type 0 where
  pub before : List (List ℕ)
  pub text : List ℕ
  pub was : Client
  pub line : IsClosedBy queue texts before text s was c
  pub cause : ClosesFor names log before text s was c place why

-- if it is closed
abbrev pub HasCauseIf : ℕ → List (List ℕ) → List Entry → List (List ℕ) → ℕ → Client → Option (ℕ × Close) → Type 0
HasCauseIf queue names log texts s c None = Unit {0}
HasCauseIf queue names log texts s c (Some closing) = HasCause queue names log texts s c closing.0 closing.1

-- ---- the end of a script

-- Why the end closes a session that is open: each device has stopped, and no report comes after the closing; or what the devices' ends brought found
-- its outlet full, which was given all that it keeps besides the items that were taken before.
abbrev pub EndsFor : State → Client → Client → ℕ → Close → Type 0
EndsFor state was c place HungUp = ⊥
EndsFor state was c place TooManyRequests = ⊥
EndsFor state was c place Overrun = was.taken + c.cap ≤ length (items_of state.names state.log c)
EndsFor state was c place ReadFault = ⊥
EndsFor state was c place DaemonEnd = HaveStopped state × (place ≡ length (history state.log))
EndsFor state was c place NoMemory = ⊥

pub record IsEnded (state : State) (was c : Client) : Type 0 where
  pub place : ℕ
  pub why : Close
  pub closing : c.run.closing ≡ Some (place, why)
  pub cause : EndsFor state was c place why

-- one that was closed before stays as it was
abbrev pub EndsIf : State → Client → Client → Option (ℕ × Close) → Type 0
EndsIf state was c None = IsEnded state was c
EndsIf state was c (Some closing) = c.run ≡ was.run

-- what the end of a script makes of a session: it answers nothing more
pub record IsLast (queue : ℕ) (script : List ℕ) (s : ℕ) (c : Client) : Type 0 where
  pub was : Client
  pub there : slice_get (state_after queue (line_cut script)).clients s ≡ Some was
  pub stretches : c.run.stretches ≡ was.run.stretches
  pub cap : c.cap ≡ was.cap
  pub taken : c.taken ≡ was.taken
  pub closing : EndsIf (end_state queue script) was c was.run.closing
