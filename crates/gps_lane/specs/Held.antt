-- The pieces that went through a lane, and what the lane's source holds.
use Rattle.std.specs.Prelude.{ℕ, List, [], Option, Some, None}
use Rattle.session_core.specs.declared.subject.Subject.{Subject}
use Rattle.gps_fixed.specs.Lists.{IsPrefix}
use Rattle.gps_lane.specs.declared.piece.Piece.{Piece}
use Rattle.gps_lane.specs.Carried.{device_bytes, input_bytes, lines_of}
use Rattle.gps_lane.specs.EdgeLines.{all_edge_lines}

-- what the pieces carry is a prefix of what a source holds, for each kind of pieces
pub record CarryHeld (held : List ℕ) (pieces : List Piece) : Type 0 where
  pub device : IsPrefix (device_bytes pieces) held
  pub input : IsPrefix (input_bytes pieces) held
  pub lines : IsPrefix (lines_of pieces) (all_edge_lines held)

-- the same, if it is told what the source holds
abbrev pub AreHeld : Option (List ℕ) → List Piece → Type 0
AreHeld None pieces = Unit {0}
AreHeld (Some held) pieces = CarryHeld held pieces

-- a lane is about its own source alone, if it is told what that holds
abbrev pub of_source : Option (List ℕ) → Subject
of_source source = record { source = source; devices = [] }

-- what may go through a lane about this
abbrev pub AreDue : Subject → List Piece → Type 0
AreDue about pieces = AreHeld about.source pieces
