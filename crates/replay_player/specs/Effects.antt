-- What each line of a script does and writes, and when it is refused.
use Rattle.std.specs.Prelude.{ℕ, zero, suc, ◌&&◌, ◌||◌, Bool, true, cond, not, nat_eq, nat_lt, List, [], ◌∷◌, ◌++◌, length, slice_get, slice_index, slice_set, Option, Some, None, option_and_then, option_map, unwrap_or}
use Rattle.std.specs.List.{flat_map, list_any}
use Rattle.std.specs.Cmp.Lexicographic.{pointwise}
use Rattle.session_core.specs.declared.mark.Close.TheVariants.{HungUp}
use Rattle.shm_segment.specs.declared.sample.Sample.{Sample}
use Rattle.shm_monitor.specs.declared.reading.MonStep.{MonStep}
use Rattle.shm_monitor.specs.declared.reading.MonStep.TheVariants.{Loaded, Done}
use Rattle.book_log.specs.Entries.{Entry, edged, ended, fed, lost, stops_in}
use Rattle.book_sessions.specs.Roster.{most_live, most_opened}
use Rattle.output_lines.specs.Items.{item_line}
use Rattle.output_lines.specs.Readings.{reading_line}
use Rattle.replay_player.specs.Loads.{reading_after, step_of}
use Rattle.replay_player.specs.Stored.{stores_next}
use Rattle.replay_script.specs.declared.event.ScriptEvent.{ScriptEvent}
use Rattle.replay_script.specs.declared.event.ScriptEvent.TheVariants.{Nothing, Device, Segment, Feed, Edge, End, Lose, Open, Input, Hang, Take, Monitor, Store, Load}
use Rattle.replay_player.specs.Clients.{Client, after_take, closed, is_open, next_taken, opened, served}
use Rattle.replay_player.specs.States.{State, MonitorState, came, live_in, samples_at, units_in, words_at}

-- what a line leaves, and what it writes
pub record EventEffect : Type 0 where
  pub state : State
  pub written : List ℕ

abbrev pub quietly : State → EventEffect
quietly state = record { state = state; written = [] }

-- if it is not refused
abbrev pub allowed : {X : Type 0} → Bool → X → Option X
allowed ok x = cond ok (Some x) None

-- Declarations come before all events.

abbrev pub most_devices : ℕ
most_devices = 8

-- the next device: not a ninth one, and not a second one of this name
unfoldable pub declares : List ℕ → State → Option EventEffect
declares name state =
    allowed (not state.begun && nat_lt (length state.names) most_devices && not (list_any (λ other. pointwise nat_eq other name) state.names))
    (quietly (record state { names = state.names ++ name ∷ [] }))

-- a unit of a device that was declared before
unfoldable pub numbers : ℕ → ℕ → State → Option EventEffect
numbers u first state =
    allowed (not state.begun && nat_lt u (units_in state))
    (quietly (record state { firsts = slice_set state.firsts u first }))

-- Devices.

-- entries of a device that is there and has not ended
unfoldable pub brings : ℕ → List Entry → State → Option EventEffect
brings d entries state = allowed (nat_lt d (length state.names) && not (stops_in d state.log)) (quietly (came entries state))

-- Sessions.

-- the next session, but if 64 live or 100,000 were opened
unfoldable pub opens : ℕ → ℕ → State → Option EventEffect
opens s cap state =
    allowed (nat_eq s (length state.clients) && not (nat_eq (live_in state) most_live || nat_eq (length state.clients) most_opened))
    (quietly (record state { begun = true; clients = state.clients ++ opened cap state.log ∷ [] }))

abbrev pub with_client : ℕ → Client → State → State
with_client s c state = record state { begun = true; clients = slice_set state.clients s c }

-- a session that is there and open becomes another
abbrev pub changes : ℕ → (Client → Client) → State → Option EventEffect
changes s next state =
    option_and_then (λ (c : Client). allowed (is_open c) (quietly (with_client s (next c) state))) (slice_get state.clients s)

unfoldable pub hears : ℕ → List ℕ → State → Option EventEffect
hears s piece state = changes s (served state.names state.log piece) state

unfoldable pub hangs : ℕ → State → Option EventEffect
hangs s state = changes s (closed state.log HungUp) state

abbrev pub item_lines : ℕ → List (List ℕ) → List ℕ
item_lines s items = flat_map (item_line s) items

-- a session that is there, also a closed one
unfoldable pub takes : ℕ → ℕ → State → Option EventEffect
takes s most state =
    option_map
    (λ (c : Client). record {
      state = with_client s (after_take most state.names state.log c) state;
      written = item_lines s (next_taken most state.names state.log c);
    })
    (slice_get state.clients s)

-- Units and monitors.

-- the number of stores after n steps
unfoldable pub stores_after : ℕ → ℕ → List Sample → ℕ → ℕ
stores_after zero first samples stores = stores
stores_after (suc steps) first samples stores = stores_after steps first samples (stores_next first samples stores)

abbrev pub with_stores : ℕ → ℕ → State → State
with_stores u number state = record state { begun = true; stores = slice_set state.stores u number }

-- a unit that is there
unfoldable pub stores : ℕ → ℕ → State → Option EventEffect
stores u steps state =
    allowed (nat_lt u (units_in state))
    (quietly (with_stores u (stores_after steps (slice_index state.firsts u) (samples_at u state) (slice_index state.stores u)) state))

abbrev pub most_watches : ℕ
most_watches = 64

-- the next monitor, of a unit that is there
unfoldable pub watches : ℕ → ℕ → State → Option EventEffect
watches m u state =
    allowed (nat_eq m (length state.watches) && nat_lt (length state.watches) most_watches && nat_lt u (units_in state))
    (quietly (record state { begun = true; watches = state.watches ++ record { unit = u; reading = [] } ∷ [] }))

-- what a reading has received after n loads of these words
unfoldable pub reading_after_loads : ℕ → List ℕ → List ℕ → List ℕ
reading_after_loads zero words reading = reading
reading_after_loads (suc loads) words reading = reading_after_loads loads words (reading_after words reading)

-- the line of a reading that a step ends
abbrev pub step_line : ℕ → MonStep → List ℕ
step_line m (Loaded word value) = []
step_line m (Done reading) = reading_line m reading

-- the lines of all readings that these loads end
unfoldable pub load_lines : ℕ → ℕ → List ℕ → List ℕ → List ℕ
load_lines m zero words reading = []
load_lines m (suc loads) words reading = step_line m (step_of words reading) ++ load_lines m loads words (reading_after words reading)

-- a monitor that has loaded these values
abbrev pub with_watch : ℕ → List ℕ → MonitorState → State → State
with_watch m reading w state = record state { begun = true; watches = slice_set state.watches m (record w { reading = reading }) }

-- a monitor that is there
unfoldable pub loads : ℕ → ℕ → State → Option EventEffect
loads m steps state =
    option_map
    (λ (w : MonitorState). record {
      state = with_watch m (reading_after_loads steps (words_at w.unit state) w.reading) w state;
      written = load_lines m steps (words_at w.unit state) w.reading;
    })
    (slice_get state.watches m)

-- What a line does; none if it is refused. An outlet keeps `queue` items if the line says no other number.
abbrev pub effect : ℕ → State → ScriptEvent → Option EventEffect
effect queue state Nothing = Some (quietly state)
effect queue state (Device name) = declares name state
effect queue state (Segment u first) = numbers u first state
effect queue state (Feed d at bytes) = brings d (fed d at bytes) state
effect queue state (Edge d edge) = brings d (edged d edge) state
effect queue state (End d) = brings d (ended d) state
effect queue state (Lose d) = brings d (lost d) state
effect queue state (Open s cap) = opens s (unwrap_or cap queue) state
effect queue state (Input s bytes) = hears s bytes state
effect queue state (Hang s) = hangs s state
effect queue state (Take s most) = takes s most state
effect queue state (Monitor m u) = watches m u state
effect queue state (Store u steps) = stores u steps state
effect queue state (Load m steps) = loads m steps state
