-- How many bytes a piece may have.
use Rattle.std.specs.Prelude.{ℕ, ◌≤◌, List, length}
use Rattle.gps_fixed.specs.Limits.{longest_piece}

-- what one read may give
pub record IsChunk (bytes : List ℕ) : Type 0 where
  pub some : 1 ≤ length bytes
  pub most : length bytes ≤ longest_piece

-- a line of an edges file, without its line end
abbrev pub IsShort : List ℕ → Type 0
IsShort line = length line ≤ 64
