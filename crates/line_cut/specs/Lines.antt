-- The lines of a list of bytes: each line feed ends one. As POSIX has it (a line is ended by a newline); that a
-- CR before the line feed belongs to the line end too is as in the network's text formats.
use Rattle.std.specs.Prelude.{ℕ, ◌≡◌, ◌<◌, ◌≤◌, ◌==◌, Bool, false, List, [], ◌∷◌, ◌++◌, length, take, map, if◌then◌else◌}
use Rattle.std.specs.Io.BufRead.{strip_last}
use Rattle.std.specs.List.{list_any}

abbrev pub is_feed : ℕ → Bool
is_feed c = c == 10

abbrev pub has_feed : List ℕ → Bool
has_feed bytes = list_any is_feed bytes

-- a line: bytes without a line feed, and one after them
pub record IsLine (line : List ℕ) : Type 0 where
  pub text : List ℕ
  pub plain : has_feed text ≡ false
  pub spelled : line ≡ text ++ 10 ∷ []

abbrev pub AreLines : List (List ℕ) → Type 0
AreLines [] = Unit {0}
AreLines (line ∷ rest) = IsLine line × AreLines rest

-- a byte in front of the first line
abbrev pub with_first : ℕ → List (List ℕ) → List (List ℕ)
with_first c [] = []
with_first c (line ∷ rest) = (c ∷ line) ∷ rest

-- the lines that these bytes end, each with its line feed
unfoldable pub lines : List ℕ → List (List ℕ)
lines [] = []
lines (c ∷ bytes) = if is_feed c then (c ∷ []) ∷ lines bytes else with_first c (lines bytes)

-- what follows the last line feed
unfoldable pub open_line : List ℕ → List ℕ
open_line [] = []
open_line (c ∷ bytes) = if has_feed (c ∷ bytes) then open_line bytes else c ∷ bytes

-- A line without its line end, LF or CR LF. A CR at the end of a line whose LF was not read yet is left out too:
-- it may be the beginning of the line end.
abbrev pub text_of : List ℕ → List ℕ
text_of line = strip_last 13 (strip_last 10 line)

-- the line that the end of the bytes ends, if there is one
abbrev pub last_lines : List ℕ → List (List ℕ)
last_lines [] = []
last_lines (c ∷ bytes) = (c ∷ bytes) ∷ []

-- the lines of a text whose last line may lack its end, without their line ends
abbrev pub line_cut : List ℕ → List (List ℕ)
line_cut bytes = map text_of (lines bytes) ++ last_lines (open_line bytes)

-- the first n bytes of the piece are a line
pub record EndsAt (piece : List ℕ) (n : ℕ) : Type 0 where
  pub inside : n ≤ length piece
  pub some : 0 < n
  pub is : IsLine (take n piece)
