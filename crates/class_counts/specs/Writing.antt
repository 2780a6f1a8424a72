-- A count of lines that ends by writing a text.
use Rattle.std.specs.Prelude.{◌≡◌, ℕ, ◌+◌, ◌⊎◌, Bool, true, false, List, Option}
use Rattle.gps_outside.specs.Counts.{Rose}
use Rattle.gps_outside.specs.Told.{Goes, Appends, AppendsPart}
use Rattle.class_counts.specs.declared.counting.Count.{Count}
use Rattle.class_counts.specs.declared.counting.Stop.{Stop}
use Rattle.class_counts.specs.declared.counting.Stop.TheVariants.{Bad, NoMemory as NoMemoryStop}
use Rattle.gps_outside.specs.declared.outcome.CommandOutcome.{CommandOutcome}
use Rattle.gps_outside.specs.declared.outcome.CommandOutcome.TheVariants.{Done, ReadFault, TooQuiet, WriteFault, Full, BadLine, NoMemory}
use Rattle.class_counts.specs.Tallies.{bad_line, kept_number, numbers_text}

-- the text was written, with which the count was to end so; or a prefix of it, as the sink failed; or, out of memory, nothing
abbrev pub Closes : CommandOutcome → List ℕ → CommandOutcome → Option (List ℕ) → Option (List ℕ) → Type 0
Closes meant text outcome before after =
    ((outcome ≡ meant) × Goes (Appends text) before after)
    ⊎ (((outcome ≡ WriteFault) × Goes (AppendsPart text) before after) ⊎ ((outcome ≡ NoMemory) × (before ≡ after)))

-- the sink's faults rose exactly if it failed; the source has no part in it
abbrev pub WriteCause : CommandOutcome → ℕ → ℕ → Type 0
WriteCause Done before after = after ≡ before
WriteCause ReadFault before after = ⊥
WriteCause TooQuiet before after = ⊥
WriteCause WriteFault before after = Rose before after
WriteCause Full before after = ⊥
WriteCause (BadLine number) before after = after ≡ before
WriteCause NoMemory before after = after ≡ before

-- the number of the line after n good ones
abbrev pub bad_behind : ℕ → List ℕ
bad_behind good = bad_line (kept_number (good + 1))

-- a count that stops at a bad line, or out of memory
abbrev pub StopsWith : Stop → ℕ → CommandOutcome → Option (List ℕ) → Option (List ℕ) → Type 0
StopsWith Bad good outcome before after = Closes (BadLine (kept_number (good + 1))) (bad_behind good) outcome before after
StopsWith NoMemoryStop good outcome before after = (outcome ≡ NoMemory) × (before ≡ after)

-- a count whose input has ended, with or without the end of its last line
abbrev pub EndsWith : Bool → Count → CommandOutcome → Option (List ℕ) → Option (List ℕ) → Type 0
EndsWith true count outcome before after = Closes (BadLine (kept_number (count.good + 1))) (bad_behind count.good) outcome before after
EndsWith false count outcome before after = Closes Done (numbers_text count.tally.numbers) outcome before after
