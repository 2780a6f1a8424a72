-- What a reader took from its source, and what it put into its lane.
use Rattle.std.specs.Prelude.{◌≡◌, ℕ, ◌≤◌, ◌<◌, ◌⊎◌, Bool, true, false, List, [], ◌∷◌, ◌++◌, length, Option, Some, None}
use Rattle.std.specs.List.{flat_map}
use Rattle.gps_fixed.specs.Limits.{longest_piece}
use Rattle.gps_fixed.specs.Moment.{Moment}
use Rattle.gps_outside.specs.Counts.{Rose}
use Rattle.gps_outside.specs.Told.{Stream, Goes, Passes}
use Rattle.gps_outside.specs.ReadSteps.{TakesAll, TakesSome}
use Rattle.gps_lane.specs.declared.piece.Ending.{Ending}
use Rattle.gps_lane.specs.declared.piece.Ending.TheVariants.{End, Failed, NoMemory}
use Rattle.gps_lane.specs.declared.piece.Piece.{Piece}
use Rattle.gps_lane.specs.declared.piece.Piece.TheVariants.{Bytes, Line, Input, Last}
use Rattle.gps_lane.specs.Sizes.{IsChunk}
use Rattle.serve_workers.specs.declared.readers.ReaderStep.{ReaderStep}
use Rattle.serve_workers.specs.declared.readers.ReaderStep.TheVariants.{On, Over, Closed}
use Rattle.serve_workers.specs.Clocks.{IsAllowed}

-- each piece is as P says
abbrev pub Each : (Piece → Type 0) → List Piece → Type 0
Each P [] = Unit {0}
Each P (piece ∷ pieces) = P piece × Each P pieces

-- bytes of a device, with a stamp that the clock may give
abbrev pub IsDevicePiece : Option (List Moment) → Piece → Type 0
IsDevicePiece may (Bytes at bytes) = IsChunk bytes × IsAllowed may at
IsDevicePiece may (Line line) = ⊥
IsDevicePiece may (Input bytes) = ⊥
IsDevicePiece may (Last ending) = ⊥

-- bytes of a session's requests
abbrev pub IsInputPiece : Piece → Type 0
IsInputPiece (Bytes at bytes) = ⊥
IsInputPiece (Line line) = ⊥
IsInputPiece (Input bytes) = IsChunk bytes
IsInputPiece (Last ending) = ⊥

-- the last piece, if one was put
abbrev pub last_piece : Option Ending → List Piece
last_piece None = []
last_piece (Some ending) = Last ending ∷ []

-- these bytes were taken, and at most 512 more
abbrev pub TakesMore : List ℕ → Stream → Stream → Type 0
TakesMore bytes before after = (more : List ℕ) × ((length more ≤ longest_piece) × TakesSome (bytes ++ more) before after)

-- The bytes that were put are those taken from the source. At its end nothing is left; at its fault what was left may be lost. If the reader was
-- out of memory or was told to end, at most 512 bytes were taken and not put.
abbrev pub Took : Option Ending → List ℕ → Option Stream → Option Stream → Type 0
Took (Some End) bytes before after = Goes (TakesAll bytes) before after
Took (Some Failed) bytes before after = Goes (TakesSome bytes) before after
Took (Some NoMemory) bytes before after = Goes (TakesMore bytes) before after
Took None bytes before after = Goes (TakesMore bytes) before after

-- Pieces as P says were put, in order, and after them the last one, unless the reader was told to end. Their bytes are those taken.
pub record HandsOn (part : Piece → List ℕ) (P : Piece → Type 0) (ending : Option Ending) (put put' : List Piece) (before after : Option Stream) : Type 0 where
  pub pieces : List Piece
  pub puts : put' ≡ (put ++ pieces) ++ last_piece ending
  pub good : Each P pieces
  pub took : Took ending (flat_map part pieces) before after

-- the source was read: bytes were taken, its quiets or faults are above 0, or nothing is left
abbrev pub WasRead : ℕ → ℕ → Stream → Stream → Type 0
WasRead faults quiets before after = (0 < length after.taken) ⊎ (0 < quiets) ⊎ (0 < faults) ⊎ (after.left ≡ [])

-- what a step of a reader took for the pieces that it put
abbrev pub TookIn : ReaderStep → List ℕ → Option Stream → Option Stream → Type 0
TookIn On bytes before after = Goes (Passes bytes) before after
TookIn (Over ending) bytes before after = Took (Some ending) bytes before after
TookIn Closed bytes before after = Took None bytes before after

-- the same for several steps, before the last piece
pub record ReaderSteps (part : Piece → List ℕ) (P : Piece → Type 0) (round : ReaderStep) (put put' : List Piece) (before after : Option Stream) : Type 0 where
  pub pieces : List Piece
  pub puts : put' ≡ put ++ pieces
  pub good : Each P pieces
  pub took : TookIn round (flat_map part pieces) before after

-- a reading that is over
abbrev pub over : Option Ending → ReaderStep
over None = Closed
over (Some ending) = Over ending

-- what the source's faults say of a step's answer: they rose exactly if the source failed
abbrev pub StepHasCause : ReaderStep → ℕ → ℕ → Type 0
StepHasCause On before now = now ≡ before
StepHasCause (Over End) before now = now ≡ before
StepHasCause (Over Failed) before now = Rose before now
StepHasCause (Over NoMemory) before now = now ≡ before
StepHasCause Closed before now = now ≡ before

-- the source failed
abbrev pub is_fault : Option Ending → Bool
is_fault None = false
is_fault (Some End) = false
is_fault (Some Failed) = true
is_fault (Some NoMemory) = false

-- A reader met a fault exactly if its source's faults rose. It tells its lane of a fault only if it met one.
pub record Meets (failed : Bool) (told : Option Ending) (faults faults' : ℕ) : Type 0 where
  pub rose : failed ≡ true → Rose faults faults'
  pub same : failed ≡ false → faults' ≡ faults
  pub said : told ≡ Some Failed → failed ≡ true
