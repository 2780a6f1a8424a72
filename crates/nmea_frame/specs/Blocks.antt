-- A mask of the lanes of a block of sixteen bytes, one bit for each. (This project's own.)
use Rattle.std.specs.Prelude.{ℕ, ◌==◌, if◌then◌else◌}
use Rattle.std.specs.Int.{trailing_zeros}
use mir.Syntax.{w64}

-- the place of the lowest bit that is set, or the length of a block
abbrev pub first_set : ℕ → ℕ
first_set mask = if mask == 0 then 16 else trailing_zeros w64 mask
