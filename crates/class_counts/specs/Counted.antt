-- What a count of lines promises of the bytes that it reads and of those that it writes.
use Rattle.std.specs.Prelude.{◌≡◌, ℕ, ◌≤◌, ◌⊎◌, List, length, Option, Some, None}
use Rattle.gps_outside.specs.Told.{Stream, Goes, Appends, AppendsPart}
use Rattle.gps_client.specs.declared.Line.{Line}
use Rattle.gps_outside.specs.declared.outcome.CommandOutcome.{CommandOutcome}
use Rattle.gps_outside.specs.declared.outcome.CommandOutcome.TheVariants.{Done, ReadFault, TooQuiet, WriteFault, Full, BadLine, NoMemory}
use Rattle.gps_outside.specs.Ends.{Ends}
use Rattle.class_counts.specs.Reading.{most_bytes}
use Rattle.class_counts.specs.Lines.{AreRead, EndsBadly, Refuses, known_lines, whole_lines}
use Rattle.class_counts.specs.Tallies.{bad_line, summary}

-- each line that is known of these bytes was read
abbrev pub RefusesNone : List ℕ → Type 0
RefusesNone bytes = (values : List Line) × AreRead values (known_lines bytes)

-- What was written of lines so far: nothing, until one is refused as soon as it is known; then its number, or a prefix of that, or, out of
-- memory, nothing. No count is done there.
abbrev pub CountedSoFar : CommandOutcome → List ℕ → Option (List ℕ) → Option (List ℕ) → Type 0
CountedSoFar Done bytes sink sink' = ⊥
CountedSoFar ReadFault bytes sink sink' = RefusesNone bytes × (sink ≡ sink')
CountedSoFar TooQuiet bytes sink sink' = RefusesNone bytes × (sink ≡ sink')
CountedSoFar WriteFault bytes sink sink' = (n : ℕ) × Refuses bytes n × Goes (AppendsPart (bad_line n)) sink sink'
CountedSoFar Full bytes sink sink' = RefusesNone bytes × (sink ≡ sink')
CountedSoFar (BadLine n) bytes sink sink' = Refuses bytes n × Goes (Appends (bad_line n)) sink sink'
CountedSoFar NoMemory bytes sink sink' = sink ≡ sink'

-- What was written at the source's end, which the last line may lack: the numbers of the lines, or that of the first bad one, or a prefix of
-- either, or, out of memory, nothing. No other count ends there.
abbrev pub CountedAll : CommandOutcome → List ℕ → Option (List ℕ) → Option (List ℕ) → Type 0
CountedAll Done bytes sink sink' = (values : List Line) × AreRead values (whole_lines bytes) × Goes (Appends (summary values)) sink sink'
CountedAll ReadFault bytes sink sink' = ⊥
CountedAll TooQuiet bytes sink sink' = ⊥
CountedAll WriteFault bytes sink sink' =
    ((values : List Line) × AreRead values (whole_lines bytes) × Goes (AppendsPart (summary values)) sink sink')
    ⊎ ((n : ℕ) × EndsBadly (whole_lines bytes) n × Goes (AppendsPart (bad_line n)) sink sink')
CountedAll Full bytes sink sink' = ⊥
CountedAll (BadLine n) bytes sink sink' = EndsBadly (whole_lines bytes) n × Goes (Appends (bad_line n)) sink sink'
CountedAll NoMemory bytes sink sink' = sink ≡ sink'

-- There are bytes that were read, and what is due of them was written. Of an object whose contents are not modelled nothing is said here:
-- then the bytes may be any.
pub record Counted (outcome : CommandOutcome) (source source' : Option Stream) (sink sink' : Option (List ℕ)) : Type 0 where
  pub bytes : List ℕ
  pub ends : Ends outcome most_bytes bytes source source' (CountedSoFar outcome bytes sink sink') (CountedAll outcome bytes sink sink')

-- the source's contents are modelled, no more is left than an input may have, and each line of it is read
abbrev pub IsWithin : Option Stream → Type 0
IsWithin None = ⊥
IsWithin (Some stream) = (length stream.left ≤ most_bytes) × ((values : List Line) × AreRead values (whole_lines stream.left))
