-- Which bytes a command read, and which of the bytes that were due it wrote, by how it ended.
use Rattle.std.specs.Prelude.{◌≡◌, ℕ, ◌≤◌, ◌⊎◌, List, length, Option, Some, None}
use Rattle.gps_outside.specs.Told.{Stream, Goes, Passes, Appends, AppendsPart}
use Rattle.gps_outside.specs.ReadSteps.{PassesMore, TakesAll, TakesSome}
use Rattle.gps_outside.specs.declared.outcome.CommandOutcome.{CommandOutcome}
use Rattle.gps_outside.specs.declared.outcome.CommandOutcome.TheVariants.{Done, ReadFault, TooQuiet, WriteFault, Full, BadLine, NoMemory}

-- A command that breaks off in mid-source has read all bytes that it used: no more than it may read, or as many if more came.
abbrev pub HasReadSoFar : ℕ → List ℕ → Option Stream → Option Stream → Type 0
HasReadSoFar most bytes before after =
    ((length bytes ≤ most) × Goes (Passes bytes) before after) ⊎ ((length bytes ≡ most) × Goes (PassesMore bytes) before after)

-- it has read all that was left
abbrev pub HasReadAll : ℕ → List ℕ → Option Stream → Option Stream → Type 0
HasReadAll most bytes before after = (length bytes ≤ most) × Goes (TakesAll bytes) before after

-- it broke off in mid-source, or at the source's end
abbrev pub BreaksOff : ℕ → List ℕ → Option Stream → Option Stream → Type 0 → Type 0 → Type 0
BreaksOff most bytes before after so_far at_end = (HasReadSoFar most bytes before after × so_far) ⊎ (HasReadAll most bytes before after × at_end)

-- Which bytes were read if a command ends so: all that was left; those before a fault, after which the rest may be lost; those before a thousand
-- quiets; as many as it may read if more came; or those before it broke off. Beside them holds `at_end` if they are all of the source, and `so_far`
-- otherwise.
abbrev pub Ends : CommandOutcome → ℕ → List ℕ → Option Stream → Option Stream → Type 0 → Type 0 → Type 0
Ends Done most bytes before after so_far at_end = HasReadAll most bytes before after × at_end
Ends ReadFault most bytes before after so_far at_end = (length bytes ≤ most) × Goes (TakesSome bytes) before after × so_far
Ends TooQuiet most bytes before after so_far at_end = (length bytes ≤ most) × Goes (Passes bytes) before after × so_far
Ends WriteFault most bytes before after so_far at_end = BreaksOff most bytes before after so_far at_end
Ends Full most bytes before after so_far at_end = (length bytes ≡ most) × Goes (PassesMore bytes) before after × so_far
Ends (BadLine number) most bytes before after so_far at_end = BreaksOff most bytes before after so_far at_end
Ends NoMemory most bytes before after so_far at_end = BreaksOff most bytes before after so_far at_end

-- of the bytes that were due a prefix was written if a write failed or memory ran out, and else all
abbrev pub Wrote : CommandOutcome → List ℕ → Option (List ℕ) → Option (List ℕ) → Type 0
Wrote Done due before after = Goes (Appends due) before after
Wrote ReadFault due before after = Goes (Appends due) before after
Wrote TooQuiet due before after = Goes (Appends due) before after
Wrote WriteFault due before after = Goes (AppendsPart due) before after
Wrote Full due before after = Goes (Appends due) before after
Wrote (BadLine number) due before after = Goes (Appends due) before after
Wrote NoMemory due before after = Goes (AppendsPart due) before after

-- the content of the source is modelled, and no more is left of it than a command may read
abbrev pub IsWithin : ℕ → Option Stream → Type 0
IsWithin most None = ⊥
IsWithin most (Some stream) = length stream.left ≤ most
