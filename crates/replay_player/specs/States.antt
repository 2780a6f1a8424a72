-- What a script has made so far, over the whole run: its log is never forgotten.
use Rattle.std.specs.Prelude.{ℕ, ◌*◌, Bool, false, true, List, [], ◌++◌, length, map, count_by, replicate, slice_index}
use Rattle.shm_segment.specs.declared.sample.Sample.{Sample}
use Rattle.shm_segment.specs.Words.{words_of}
use Rattle.book_log.specs.Entries.{Entry}
use Rattle.book_log.specs.History.{history, history_after}
use Rattle.book_units.specs.Samples.{samples_of}
use Rattle.replay_player.specs.Clients.{Client, is_open, told}

-- a monitor: its unit, and the values that its running reading has loaded
pub record MonitorState : Type 0 where
  pub unit : ℕ
  pub reading : List ℕ

pub record State : Type 0 where
  pub names : List (List ℕ)
  pub firsts : List ℕ  -- the first number of each unit, whether there is its device or not
  pub begun : Bool  -- an event line came
  pub log : List Entry
  pub clients : List Client
  pub stores : List ℕ  -- of each unit
  pub watches : List MonitorState

abbrev pub most_units : ℕ
most_units = 16

abbrev pub new_state : State
new_state = record {
  names = [];
  firsts = replicate most_units 0;
  begun = false;
  log = [];
  clients = [];
  stores = replicate most_units 0;
  watches = [];
}

-- each device has two units
abbrev pub units_in : State → ℕ
units_in state = 2 * length state.names

abbrev pub live_in : State → ℕ
live_in state = count_by is_open state.clients

abbrev pub samples_at : ℕ → State → List Sample
samples_at u state = samples_of u (history state.log)

-- the words of a unit's segment
abbrev pub words_at : ℕ → State → List ℕ
words_at u state = words_of (slice_index state.firsts u) (samples_at u state) (slice_index state.stores u)

-- these entries come, and with them their reports
unfoldable pub came : List Entry → State → State
came entries state = record state {
  begun = true;
  log = state.log ++ entries;
  clients = map (told state.names state.log (history_after state.log entries)) state.clients;
}
