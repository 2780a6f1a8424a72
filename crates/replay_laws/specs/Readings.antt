-- The readings that end in the run of a script, line by line, and what monitors take by them. This project's own; a reading is that of the NTP
-- reference clock driver 28, mode 1.
use Rattle.std.specs.Prelude.{ℕ, zero, suc, Bool, List, [], ◌∷◌, ◌++◌, cond, map, nat_eq, slice_get, slice_index, Option, Some, None, option_map, unwrap_or}
use Rattle.std.specs.List.{flat_map}
use Rattle.shm_segment.specs.declared.view.Numbered.{Numbered}
use Rattle.shm_segment.specs.Rule.{IsPublished}
use Rattle.shm_monitor.specs.declared.reading.MonStep.{MonStep}
use Rattle.shm_monitor.specs.declared.reading.MonStep.TheVariants.{Loaded, Done}
use Rattle.shm_monitor.specs.declared.reading.Reading.{Reading}
use Rattle.shm_monitor.specs.declared.reading.Reading.TheVariants.{Taken, NotReady, Clash}
use Rattle.line_player.specs.Rules.{Effect, effect_within}
use Rattle.output_lines.specs.Readings.{reading_line}
use Rattle.replay_script.specs.Events.{event_in}
use Rattle.replay_script.specs.declared.event.ScriptEvent.{ScriptEvent}
use Rattle.replay_script.specs.declared.event.ScriptEvent.TheVariants.{Load}
use Rattle.replay_player.specs.Loads.{reading_after, step_of}
use Rattle.replay_player.specs.States.{MonitorState, State, new_state, samples_at, words_at}
use Rattle.gps_replay.specs.Run.{rules_of}

-- a reading that ended at a line: the monitor that made it, the unit that it read, and the state before the line. Loads change no unit.
pub record EndedReading : Type 0 where
  pub monitor : ℕ
  pub unit : ℕ
  pub state : State
  pub reading : Reading

abbrev pub ended_by : MonStep → List Reading
ended_by (Loaded word value) = []
ended_by (Done reading) = reading ∷ []

-- the readings that a number of loads of these words ends, if the running reading has loaded these values
unfoldable pub readings_in : ℕ → List ℕ → List ℕ → List Reading
readings_in zero words reading = []
readings_in (suc loads) words reading = ended_by (step_of words reading) ++ readings_in loads words (reading_after words reading)

abbrev pub ended_at : ℕ → ℕ → State → Reading → EndedReading
ended_at monitor unit state reading = record { monitor = monitor; unit = unit; state = state; reading = reading }

abbrev pub readings_by : ℕ → ℕ → State → Option MonitorState → List EndedReading
readings_by monitor steps state None = []
readings_by monitor steps state (Some w) = map (ended_at monitor w.unit state) (readings_in steps (words_at w.unit state) w.reading)

-- the readings that a monitor ends by a number of loads
abbrev pub readings_at_load : ℕ → ℕ → State → List EndedReading
readings_at_load monitor steps state = readings_by monitor steps state (slice_get state.watches monitor)

-- the readings that an event ends
abbrev pub readings_at : State → ScriptEvent → List EndedReading
readings_at state (Load monitor steps) = readings_at_load monitor steps state
readings_at state event = []

abbrev pub readings_at_line : State → Option ScriptEvent → List EndedReading
readings_at_line state None = []
readings_at_line state (Some event) = readings_at state event

-- the readings that these lines end, from this state on, up to the first refused line
unfoldable pub readings_from : ℕ → State → List (List ℕ) → List EndedReading
readings_from queue state [] = []
readings_from queue state (text ∷ texts) =
    unwrap_or
    (option_map (λ (e : Effect State). readings_at_line state (event_in text) ++ readings_from queue e.state texts) (effect_within (rules_of queue) state text))
    []

-- those of the lines of a script, without their line ends
abbrev pub readings_of : ℕ → List (List ℕ) → List EndedReading
readings_of queue texts = readings_from queue new_state texts

abbrev pub TakesPublished : ℕ → State → Reading → Type 0
TakesPublished u state (Taken pair) = IsPublished (slice_index state.firsts u) (samples_at u state) (slice_index state.stores u) pair
TakesPublished u state (NotReady count valid) = Unit {0}
TakesPublished u state (Clash before after) = Unit {0}

-- what a reading takes is a published sample of its unit, with its number
abbrev pub IsOfPublished : EndedReading → Type 0
IsOfPublished r = TakesPublished r.unit r.state r.reading

abbrev pub taken_in : Reading → List Numbered
taken_in (Taken pair) = pair ∷ []
taken_in (NotReady count valid) = []
taken_in (Clash before after) = []

-- what a reading takes, if it is one of this monitor
abbrev pub taken_at : ℕ → EndedReading → List Numbered
taken_at monitor r = cond (nat_eq r.monitor monitor) (taken_in r.reading) []

-- the samples that one monitor takes, with their numbers, in order
abbrev pub taken_by : ℕ → List EndedReading → List Numbered
taken_by monitor readings = flat_map (taken_at monitor) readings

-- whether monitor m made it
abbrev pub is_by : ℕ → EndedReading → Bool
is_by m r = nat_eq r.monitor m

abbrev pub line_of : EndedReading → List ℕ
line_of r = reading_line r.monitor r.reading

-- the lines that are written of readings
abbrev pub lines_of : List EndedReading → List ℕ
lines_of readings = flat_map line_of readings
