-- The lines of the output of a script's run, distinguished by how they begin; and the state at the end of the run. This project's own.
use Rattle.std.specs.Prelude.{◌≡◌, ◌≢◌, ℕ, ◌+◌, ◌-◌, ◌*◌, ◌==◌, ◌&&◌, ◌||◌, Bool, cond, not, nat_eq, nat_lt, List, [], ◌∷◌, ◌++◌, codes, length, map, min, slice_index, take, Some, None, if◌then◌else◌}
use Rattle.std.specs.List.{filter, starts_with}
use Rattle.session_core.specs.declared.mark.Close.{Close}
use Rattle.shm_monitor.specs.declared.reading.Reading.TheVariants.{Taken}
use Rattle.shm_segment.specs.declared.sample.Sample.{Sample}
use Rattle.book_log.specs.History.{history}
use Rattle.book_units.specs.Samples.{samples_of}
use Rattle.shm_segment.specs.declared.view.Numbered.{Numbered}
use Rattle.line_cut.specs.Lines.{lines}
use Rattle.line_player.specs.Courses.{course_so_far, whole_course, written_so_far}
use Rattle.output_lines.specs.declared.closing.SessionEnd.TheVariants.{Drained}
use Rattle.output_lines.specs.Closings.{closing_line, unit_line}
use Rattle.output_lines.specs.Items.{item_line}
use Rattle.output_lines.specs.Readings.{reading_line}
use Rattle.output_lines.specs.Words.{numbered}
use Rattle.session_runs.specs.Runs.{items_over}
use Rattle.replay_player.specs.Clients.{Client, items_of}
use Rattle.replay_player.specs.Ends.{all_ended, counted, shut}
use Rattle.replay_player.specs.States.{State, units_in}
use Rattle.gps_replay.specs.Run.{rules_of}

-- whether a line begins with these bytes
abbrev pub begins_with : List ℕ → List ℕ → Bool
begins_with first line = starts_with nat_eq line first

-- whether it begins with a word, a number directly after it, and a space
abbrev pub is_of : List ℕ → ℕ → List ℕ → Bool
is_of word n line = begins_with (numbered word n ++ codes " ") line

-- The lines of session S begin with `sS `: its items, and its closing line.
abbrev pub session_lines : ℕ → List ℕ → List (List ℕ)
session_lines s output = filter (is_of (codes "s") s) (lines output)

-- The lines of monitor M begin with `mM `: the readings that it ended.
abbrev pub monitor_lines : ℕ → List ℕ → List (List ℕ)
monitor_lines m output = filter (is_of (codes "m") m) (lines output)

-- those of the samples that it took begin with `mM taken `
abbrev pub taken_lines : ℕ → List ℕ → List (List ℕ)
taken_lines m output = filter (begins_with (numbered (codes "m") m ++ codes " taken ")) (lines output)

-- the line of a sample that monitor m took
abbrev pub taken_line : ℕ → Numbered → List ℕ
taken_line m pair = reading_line m (Taken pair)

-- what comes after the first space of a line
abbrev pub after_space : List ℕ → List ℕ
after_space [] = []
after_space (c ∷ line) = if c == 32 then line else after_space line

-- A line of a session is that of an item, or its closing line, `sS drained WHY N`.
abbrev pub is_item_line : List ℕ → Bool
is_item_line line = begins_with (codes "s") line && not (begins_with (codes "drained ") (after_space line))

abbrev pub is_reading_line : List ℕ → Bool
is_reading_line line = begins_with (codes "m") line

abbrev pub is_other_line : List ℕ → Bool
is_other_line line = not (is_item_line line || is_reading_line line)

-- no line of a script is refused
abbrev pub RefusesNoLine : ℕ → List ℕ → Type 0
RefusesNoLine queue script = (whole_course (rules_of queue) script).refused ≡ None

abbrev pub RefusesALine : ℕ → List ℕ → Type 0
RefusesALine queue script = (whole_course (rules_of queue) script).refused ≢ None

-- the state after the last line of a script, or before the refused one
abbrev pub last_state : ℕ → List ℕ → State
last_state queue script = (whole_course (rules_of queue) script).state

-- the state at a script's end, where each device has ended and each session is closed
abbrev pub end_state : ℕ → List ℕ → State
end_state queue script = shut (all_ended (last_state queue script))

-- the lines of all items of a session, and its closing line with their number
abbrev pub all_lines : ℕ → List (List ℕ) → Close → List (List ℕ)
all_lines s items why = map (item_line s) items ++ closing_line s Drained why (counted items) ∷ []

-- those of the items that were taken in a state
abbrev pub lines_taken : ℕ → State → Client → List (List ℕ)
lines_taken s state c = map (item_line s) (take c.taken (items_of state.names state.log c))

-- A session is closed, and its lines in an output are those of all items that its run selects, and its closing line.
pub record IsDrained (s : ℕ) (state : State) (c : Client) (output : List ℕ) : Type 0 where
  pub place : ℕ
  pub why : Close
  pub closed : c.run.closing ≡ Some (place, why)
  pub lines : session_lines s output ≡ all_lines s (items_over state.names state.log c.run) why

-- ---- what is written before the end is read

-- the state after the lines that are known of the first bytes of a script, before the first refused one
abbrev pub state_so_far : ℕ → List ℕ → State
state_so_far queue bytes = (course_so_far (rules_of queue) bytes).state

-- what is written by then
abbrev pub output_so_far : ℕ → List ℕ → List ℕ
output_so_far queue bytes = written_so_far (rules_of queue) bytes

-- ---- units

-- The lines of unit U begin with `uU `.
abbrev pub unit_lines : ℕ → List ℕ → List (List ℕ)
unit_lines u output = filter (is_of (codes "u") u) (lines output)

-- the greatest number of a sample
abbrev pub greatest : ℕ
greatest = 1_073_741_823

-- how many of a unit's samples have a number: the first one is the number after this one
abbrev pub numbered_count : ℕ → List Sample → ℕ
numbered_count first samples = min (length samples) (greatest - first)

-- The line of a unit whose samples are all published that have a number: how many, twice the number of the last, and how many have none. A unit
-- without samples has no line.
abbrev pub line_of_unit : ℕ → ℕ → List Sample → List (List ℕ)
line_of_unit u first [] = []
line_of_unit u first (sample ∷ samples) =
    let count = numbered_count first (sample ∷ samples) in
    unit_line u (record { published = count; count = 2 * (first + count); left = length (sample ∷ samples) - count }) ∷ []

-- the lines of a unit that is there, at the end of a script
abbrev pub last_line_of_unit : ℕ → State → List (List ℕ)
last_line_of_unit u state = cond (nat_lt u (units_in state)) (line_of_unit u (slice_index state.firsts u) (samples_of u (history state.log))) []
