-- A piece that is put into a lane, or dropped.
use Rattle.std.specs.Prelude.{Bool, true, false, [], ◌∷◌, ◌++◌}
use Rattle.gps_lane.specs.Ends.{Putting}
use Rattle.gps_lane.specs.declared.piece.Piece.{Piece}

abbrev pub puts_if : Bool → Piece → Putting Piece → Putting Piece
puts_if true piece tx = record tx { put = tx.put ++ piece ∷ [] }
puts_if false piece tx = tx
