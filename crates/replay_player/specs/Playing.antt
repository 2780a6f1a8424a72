-- What a stage shows, and the state of a run that it stands for, though its book has forgotten a part of the log.
use Rattle.std.specs.Prelude.{◌≡◌, ◌≤◌, ◌<◌, ◌+◌, ◌-◌, ◌^◌, ℕ, Bool, true, false, List, [], ◌++◌, length, min, nat_le, replicate, slice_get, slice_index, Option, Some, None, Result, Ok, Err, IsErr}
use Rattle.std.specs.List.{AllZip, list_all}
use Rattle.gps_fixed.specs.Limits.{most_history, most_queue}
use Rattle.gps_fixed.specs.declared.no_memory.NoMemory.{NoMemory}
use Rattle.gps_report.specs.Name.{are_names}
use Rattle.gps_command.specs.Kept as input
use Rattle.book_log.specs.Entries.{Entry}
use Rattle.book_log.specs.History.{history}
use Rattle.book_log.specs.Standing.{StandsFor}
use Rattle.book_sessions.specs.MemberView.{MemberView}
use Rattle.book_units.specs.Samples.{samples_of}
use Rattle.report_book.specs.BookView.{BookView}
use Rattle.report_book.specs.declared.fault.BookFault.{BookFault}
use Rattle.report_book.specs.declared.fault.BookFault.TheVariants as book
use Rattle.session_core.specs.SessionView.{usual_requests}
use Rattle.session_runs.specs.Runs.{IsRunOf}
use Rattle.replay_player.specs.Books.{IsStoredAt}
use Rattle.replay_player.specs.Loads.{reading_after, step_of}
use Rattle.replay_player.specs.UnitMonitorView.{UnitMonitorView, IsOf}
use Rattle.output_lines.specs.Items.{item_line}
use Rattle.replay_player.specs.declared.event_step.EventStep.{EventStep}
use Rattle.replay_player.specs.declared.event_step.EventStep.TheVariants.{Made, Refused}
use Rattle.replay_player.specs.Clients.{Client, asked_by, items_of, kept_of, policy_of}
use Rattle.replay_player.specs.States.{State, MonitorState, most_units, words_at}
use Rattle.replay_player.specs.Effects.{EventEffect, quietly, most_watches, step_line, with_client, with_watch}

pub record ReplayBookView : Type 0 where
  pub devices : ℕ
  pub book : BookView
  pub watchers : List UnitMonitorView

-- a session of a book is that of this client
pub record Attends (names : List (List ℕ)) (before log : List Entry) (a : MemberView) (c : Client) : Type 0 where
  pub run : IsRunOf names before log a.session c.run
  pub cap : a.session.cap ≡ c.cap
  pub least : c.cap ≤ most_queue
  pub kept : a.session.kept ≡ kept_of names (before ++ log) c
  pub taken : c.taken ≤ length (items_of names (before ++ log) c)
  pub room : length a.session.kept ≤ a.session.cap
  pub items : a.session.items ≡ min (length (items_of names (before ++ log) c)) (2 ^ 64 - 1)
  pub policy : a.session.policy ≡ policy_of c
  pub some : 0 < length c.run.stretches
  pub requests : a.session.requests ≡ asked_by c
  pub few : asked_by c ≤ usual_requests
  pub cutter : c.run.closing ≡ None → input.StandsFor a.cutter c.heard

-- a monitor beside a book is this one
pub record Watches (b : BookView) (w : UnitMonitorView) (t : MonitorState) : Type 0 where
  pub unit : w.unit ≡ t.unit
  pub reading : w.reading ≡ t.reading
  pub of : IsOf w b

-- the stage over a log whose first part, this one, is forgotten
pub record Standing (s : ReplayBookView) (before : List Entry) (firsts : List ℕ) (clients : List Client) (stores : List ℕ)
    (watches : List MonitorState) : Type 0 where
  pub stands : StandsFor s.book.log.opening before
  pub requests : s.book.most_requests ≡ usual_requests
  pub clients_are : AllZip (Attends s.book.names before s.book.log.log) s.book.sessions clients
  pub units_are : (u : ℕ) → u < length s.book.units
      → IsStoredAt u (slice_index firsts u) (samples_of u (history (before ++ s.book.log.log))) (slice_index stores u) s.book
  pub many : length stores ≡ most_units
  pub few : length watches ≤ most_watches
  pub watches_are : AllZip (Watches s.book) s.watchers watches

abbrev pub state_of : List (List ℕ) → List Entry → List ℕ → List Client → List ℕ → List MonitorState → State
state_of names log firsts clients stores watches = record {
  names = names;
  firsts = firsts;
  begun = true;
  log = log;
  clients = clients;
  stores = stores;
  watches = watches;
}

-- a stage stands for a state in which an event has come
pub record BookStandsFor (s : ReplayBookView) (state : State) : Type 0 where
  pub before : List Entry
  pub firsts : List ℕ
  pub clients : List Client
  pub stores : List ℕ
  pub watches : List MonitorState
  pub standing : Standing s before firsts clients stores watches
  pub is : state_of s.book.names (before ++ s.book.log.log) firsts clients stores watches ≡ state

-- a new stage stands for the state in which these were declared
abbrev pub Opens : List (List ℕ) → List ℕ → ReplayBookView → Type 0
Opens names firsts s = BookStandsFor s (state_of names [] firsts [] (replicate most_units 0) [])

-- the line was refused, or has done what it does, and what it writes follows what was written; out of memory, nothing is known
abbrev pub Acts : Result EventStep NoMemory → Option EventEffect → ReplayBookView → List ℕ → List ℕ → Type 0
Acts (Ok Made) effect new out out' = (e : EventEffect) × (effect ≡ Some e) × BookStandsFor new e.state × (out' ≡ out ++ e.written)
Acts (Ok Refused) effect new out out' = (effect ≡ None) × (out' ≡ out)
Acts (Err _) effect new out out' = Unit {0}

-- what a refusal of a book becomes
abbrev pub RefusesTo : BookFault → Result EventStep NoMemory → Type 0
RefusesTo book.NoMemory round = IsErr round
RefusesTo fault round = round ≡ Ok Refused

-- what a call of a book becomes
abbrev pub ComesTo : Result (Unit {0}) BookFault → Result EventStep NoMemory → Type 0
ComesTo (Ok _) round = round ≡ Ok Made
ComesTo (Err fault) round = RefusesTo fault round

-- what an admission becomes
abbrev pub AdmitsTo : {X O : Type 0} → Result X (O × BookFault) → Result EventStep NoMemory → Type 0
AdmitsTo (Ok _) round = round ≡ Ok Made
AdmitsTo (Err refusal) round = RefusesTo refusal.1 round

-- The first item that a session's outlet keeps is taken, and its line follows what was written; or it keeps none.
abbrev pub TakesOne : ℕ → Result Bool NoMemory → ReplayBookView → List ℕ → List ℕ → State → Client → Type 0
TakesOne s (Ok true) new out out' state c =
    (item : List ℕ) × (slice_get (kept_of state.names state.log c) 0 ≡ Some item)
    × BookStandsFor new (with_client s (record c { taken = c.taken + 1 }) state) × (out' ≡ out ++ item_line s item)
TakesOne s (Ok false) new out out' state c = (kept_of state.names state.log c ≡ []) × BookStandsFor new state × (out' ≡ out)
TakesOne s (Err _) new out out' state c = Unit {0}

-- A monitor makes one load, and the line of a reading that it ends follows what was written.
abbrev pub LoadsOne : ℕ → ReplayBookView → List ℕ → List ℕ → State → MonitorState → Type 0
LoadsOne m new out out' state t =
    BookStandsFor new (with_watch m (reading_after (words_at t.unit state) t.reading) t state)
    × (out' ≡ out ++ step_line m (step_of (words_at t.unit state) t.reading))

-- devices and units are declared, and no event has come
pub record DeclaredView : Type 0 where
  pub names : List (List ℕ)
  pub firsts : List ℕ

abbrev pub declared_state : List (List ℕ) → List ℕ → State
declared_state names firsts = record {
  names = names;
  firsts = firsts;
  begun = false;
  log = [];
  clients = [];
  stores = replicate most_units 0;
  watches = [];
}

-- what declarations keep, for books with generations of the given number of symbols
pub record IsDeclared (limit : ℕ) (names : List (List ℕ)) (firsts : List ℕ) : Type 0 where
  pub least : 1 ≤ limit
  pub most : limit ≤ most_history
  pub are_names : are_names names ≡ true
  pub are_firsts : list_all (λ first. nat_le first 1_073_741_823) firsts ≡ true

-- a declaration was made, or refused
abbrev pub DeclaresAs : Result EventStep NoMemory → Option EventEffect → DeclaredView → Type 0
DeclaresAs (Ok Made) effect new = effect ≡ Some (quietly (declared_state new.names new.firsts))
DeclaresAs (Ok Refused) effect new = effect ≡ None
DeclaresAs (Err _) effect new = Unit {0}
