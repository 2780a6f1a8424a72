-- What a play promises of the bytes that it reads and of those that it writes.
use Rattle.std.specs.Prelude.{◌≡◌, ℕ, ◌≤◌, List, length, Option, Some, None}
use Rattle.gps_outside.specs.Told.{Stream}
use Rattle.gps_outside.specs.declared.outcome.CommandOutcome.{CommandOutcome}
use Rattle.gps_outside.specs.declared.outcome.CommandOutcome.TheVariants.{Done, ReadFault, TooQuiet, WriteFault, Full, BadLine, NoMemory}
use Rattle.gps_outside.specs.Ends.{Ends, Wrote}
use Rattle.line_player.specs.Rules.{Rules}
use Rattle.line_player.specs.Courses.{course_so_far, output_of, whole_course, written_so_far}

-- The line of this number was refused if a play ends by it, and none otherwise; nothing is said of a play that broke off.
abbrev pub HasRefused : CommandOutcome → Option ℕ → Type 0
HasRefused Done refused = refused ≡ None
HasRefused ReadFault refused = refused ≡ None
HasRefused TooQuiet refused = refused ≡ None
HasRefused WriteFault refused = Unit {0}
HasRefused Full refused = refused ≡ None
HasRefused (BadLine number) refused = refused ≡ Some number
HasRefused NoMemory refused = Unit {0}

-- what the lines so far write, as soon as they are known
abbrev pub PlayedSoFar : {X : Type 0} → CommandOutcome → Rules X → List ℕ → Option (List ℕ) → Option (List ℕ) → Type 0
PlayedSoFar outcome rules bytes sink sink' = HasRefused outcome (course_so_far rules bytes).refused × Wrote outcome (written_so_far rules bytes) sink sink'

-- the whole output; the source's end ends the last line
abbrev pub PlayedAll : {X : Type 0} → CommandOutcome → Rules X → List ℕ → Option (List ℕ) → Option (List ℕ) → Type 0
PlayedAll outcome rules bytes sink sink' = HasRefused outcome (whole_course rules bytes).refused × Wrote outcome (output_of rules bytes) sink sink'

-- which bytes were read, and what of their output was written
abbrev pub EndsPlay : {X : Type 0} → CommandOutcome → Rules X → ℕ → List ℕ → Option Stream → Option Stream → Option (List ℕ) → Option (List ℕ) → Type 0
EndsPlay outcome rules most bytes source source' sink sink' =
    Ends outcome most bytes source source' (PlayedSoFar outcome rules bytes sink sink') (PlayedAll outcome rules bytes sink sink')

-- There are bytes that were read, and what is due of them was written. Of an object whose contents are not modelled nothing is said here:
-- then the bytes may be any.
pub record HasPlayed {X : Type 0} (outcome : CommandOutcome) (rules : Rules X) (most : ℕ) (source source' : Option Stream)
    (sink sink' : Option (List ℕ)) : Type 0 where
  pub bytes : List ℕ
  pub ends : EndsPlay outcome rules most bytes source source' sink sink'

-- the source's contents are modelled, no more is left than may be read, and no line of it is refused
abbrev pub IsWithin : {X : Type 0} → Rules X → ℕ → Option Stream → Type 0
IsWithin rules most None = ⊥
IsWithin rules most (Some stream) = (length stream.left ≤ most) × ((whole_course rules stream.left).refused ≡ None)
