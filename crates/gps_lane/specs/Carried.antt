-- What the pieces of a lane carry, by their kinds.
use Rattle.std.specs.Prelude.{ℕ, List, [], ◌∷◌}
use Rattle.std.specs.List.{flat_map}
use Rattle.gps_fixed.specs.Moment.{Moment}
use Rattle.gps_lane.specs.declared.piece.Ending.{Ending}
use Rattle.gps_lane.specs.declared.piece.Piece.{Piece}
use Rattle.gps_lane.specs.declared.piece.Piece.TheVariants.{Bytes, Line, Input, Last}

abbrev pub device_part : Piece → List ℕ
device_part (Bytes at bytes) = bytes
device_part (Line line) = []
device_part (Input bytes) = []
device_part (Last ending) = []

abbrev pub stamp_part : Piece → List Moment
stamp_part (Bytes at bytes) = at ∷ []
stamp_part (Line line) = []
stamp_part (Input bytes) = []
stamp_part (Last ending) = []

abbrev pub line_part : Piece → List (List ℕ)
line_part (Bytes at bytes) = []
line_part (Line line) = line ∷ []
line_part (Input bytes) = []
line_part (Last ending) = []

abbrev pub input_part : Piece → List ℕ
input_part (Bytes at bytes) = []
input_part (Line line) = []
input_part (Input bytes) = bytes
input_part (Last ending) = []

abbrev pub ending_part : Piece → List Ending
ending_part (Bytes at bytes) = []
ending_part (Line line) = []
ending_part (Input bytes) = []
ending_part (Last ending) = ending ∷ []

-- the bytes of a device, joined
abbrev pub device_bytes : List Piece → List ℕ
device_bytes pieces = flat_map device_part pieces

-- the stamp of each of a device's pieces, in order
abbrev pub stamps_of : List Piece → List Moment
stamps_of pieces = flat_map stamp_part pieces

abbrev pub lines_of : List Piece → List (List ℕ)
lines_of pieces = flat_map line_part pieces

-- the bytes of a session's requests, joined
abbrev pub input_bytes : List Piece → List ℕ
input_bytes pieces = flat_map input_part pieces

abbrev pub endings_of : List Piece → List Ending
endings_of pieces = flat_map ending_part pieces
