-- A reading over words that are known at each of its loads: what a load answers, and what the reading has loaded then. Source: the NTP reference
-- clock driver 28, mode 1: a reader looks at count before and after it copies the body.
use Rattle.std.specs.Prelude.{ℕ, ◌/◌, Bool, ◌&&◌, ◌||◌, ◌==◌, List, [], ◌∷◌, ◌++◌, length, take, drop, slice_index, if◌then◌else◌}
use Rattle.shm_segment.specs.Samples.{sample_of}
use Rattle.shm_monitor.specs.declared.reading.MonStep.{MonStep}
use Rattle.shm_monitor.specs.declared.reading.MonStep.TheVariants.{Loaded, Done}
use Rattle.shm_monitor.specs.declared.reading.Reading.{Reading}
use Rattle.shm_monitor.specs.declared.reading.Reading.TheVariants.{Taken, NotReady, Clash}
use Rattle.shm_monitor.specs.Readings.{reading_words}

-- the word that comes next in a reading that has loaded these values, in the order count, valid, the body, count
abbrev pub next_word : List ℕ → ℕ
next_word reading = slice_index reading_words (length reading)

abbrev pub next_value : List ℕ → List ℕ → ℕ
next_value words reading = slice_index words (next_word reading)

-- the values of the reading with one more, if the words are these
abbrev pub with_next : List ℕ → List ℕ → List ℕ
with_next words reading = reading ++ next_value words reading ∷ []

-- these values are those of a whole reading: two if the second (valid) is 0, else twelve
abbrev pub is_whole : List ℕ → Bool
is_whole values = (length values == 2 && slice_index values 1 == 0) || length values == 12

-- a sample is taken if the count is as before: its number is half of the count, and it is made of the nine words between
abbrev pub compared : List ℕ → ℕ → ℕ → Reading
compared body before after =
    if before == after then Taken (record { number = before / 2; sample = sample_of body }) else Clash before after

-- how a reading of these values ends
abbrev pub end_of : List ℕ → Reading
end_of values =
    if length values == 2 then NotReady (slice_index values 0) (slice_index values 1)
    else compared (take 9 (drop 2 values)) (slice_index values 0) (slice_index values 11)

-- what the next load of this reading answers, if the words are these
unfoldable pub step_of : List ℕ → List ℕ → MonStep
step_of words reading =
    if is_whole (with_next words reading) then Done (end_of (with_next words reading)) else Loaded (next_word reading) (next_value words reading)

-- what the reading has loaded then; the next load begins a new one if it has ended
unfoldable pub reading_after : List ℕ → List ℕ → List ℕ
reading_after words reading = if is_whole (with_next words reading) then [] else with_next words reading
