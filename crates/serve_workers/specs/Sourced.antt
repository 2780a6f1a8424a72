-- What a reader has put of its source's bytes so far.
use Rattle.std.specs.Prelude.{◌≡◌, ℕ, List, [], ◌++◌, Option, Some, None, IfSome, option_map}
use Rattle.std.specs.List.{flat_map}
use Rattle.gps_fixed.specs.Lists.{IsPrefix}
use Rattle.gps_outside.specs.Told.{Stream}
use Rattle.gps_lane.specs.declared.piece.Piece.{Piece}
use Rattle.gps_lane.specs.declared.piece.Ending.TheVariants.{End, Failed, NoMemory}
use Rattle.gps_lane.specs.Carried.{device_bytes, input_bytes, lines_of}
use Rattle.gps_lane.specs.EdgeLines.{edge_lines}
use Rattle.gps_lane.specs.Held.{CarryHeld}
use Rattle.line_cut.specs.Standing.{LineCutterView, StandsFor}
use Rattle.serve_workers.specs.declared.readers.ReaderStep.{ReaderStep}
use Rattle.serve_workers.specs.declared.readers.ReaderStep.TheVariants.{On, Over, Closed}
use Rattle.serve_workers.specs.Readings.{Each}

-- what a source holds that is not taken yet, if its contents are modelled
abbrev pub held_in : Option Stream → Option (List ℕ)
held_in content = option_map (λ (s : Stream). s.left) content

-- If it is told what a lane's source holds, then the source is modelled, and P holds of that and of what is left in it.
abbrev pub IfHeld : (List ℕ → List ℕ → Type 0) → Option (List ℕ) → Option Stream → Type 0
IfHeld P None now = Unit {0}
IfHeld P (Some held) None = ⊥
IfHeld P (Some held) (Some now) = P held now.left

-- only pieces as P says were put; and with what is left, their bytes are all that the source holds
abbrev pub FromSource : (Piece → List ℕ) → (Piece → Type 0) → Option (List ℕ) → List Piece → Option Stream → Type 0
FromSource part P about put now = IfHeld (λ held left. Each P put × (held ≡ flat_map part put ++ left)) about now

-- the same after a step, if the reading goes on
abbrev pub FromSourceOn : ReaderStep → (Piece → List ℕ) → (Piece → Type 0) → Option (List ℕ) → List Piece → Option Stream → Type 0
FromSourceOn On part P about put now = FromSource part P about put now
FromSourceOn (Over ending) part P about put now = Unit {0}
FromSourceOn Closed part P about put now = Unit {0}

-- pieces as P says carry what a source holds, if their bytes of this part are its first ones
abbrev pub Carries : (Piece → List ℕ) → (Piece → Type 0) → Type 0
Carries part P = (held : List ℕ) (put : List Piece) → Each P put → IsPrefix (flat_map part put) held → CarryHeld held put

-- Only lines were put, those that these bytes complete; and with what is left, the bytes are all that the source holds.
pub record LinesOf (held : List ℕ) (put : List Piece) (bytes left : List ℕ) : Type 0 where
  pub device : device_bytes put ≡ []
  pub input : input_bytes put ≡ []
  pub lines : lines_of put ≡ edge_lines bytes
  pub all : held ≡ bytes ++ left

abbrev pub LinesFrom : Option (List ℕ) → List Piece → List ℕ → Option Stream → Type 0
LinesFrom about put bytes now = IfHeld (λ held left. LinesOf held put bytes left) about now

-- the same while a piece of the source's bytes is at hand
abbrev pub LinesBefore : Option (List ℕ) → List Piece → List ℕ → List ℕ → Type 0
LinesBefore about put bytes piece = IfSome about (λ (held : List ℕ). (later : List ℕ) × LinesOf held put bytes (piece ++ later))

-- the cutter stands for the bytes whose lines were put
abbrev pub CutterBefore : Option (List ℕ) → List Piece → LineCutterView → List ℕ → Type 0
CutterBefore about put kept piece = (bytes : List ℕ) × StandsFor kept bytes × LinesBefore about put bytes piece

abbrev pub CutterFrom : Option (List ℕ) → List Piece → LineCutterView → Option Stream → Type 0
CutterFrom about put kept now = (bytes : List ℕ) × StandsFor kept bytes × LinesFrom about put bytes now

-- the same when nothing is left
abbrev pub CutterAtEnd : Option (List ℕ) → List Piece → LineCutterView → Type 0
CutterAtEnd about put kept = (bytes : List ℕ) × StandsFor kept bytes × IfSome about (λ (held : List ℕ). LinesOf held put bytes [])

-- after a step, if the reading goes on, and at the source's end
abbrev pub CutterFromOn : ReaderStep → Option (List ℕ) → List Piece → LineCutterView → Option Stream → Type 0
CutterFromOn On about put kept now = CutterFrom about put kept now
CutterFromOn (Over End) about put kept now = CutterAtEnd about put kept
CutterFromOn (Over Failed) about put kept now = Unit {0}
CutterFromOn (Over NoMemory) about put kept now = Unit {0}
CutterFromOn Closed about put kept now = Unit {0}
