-- Which lines are read, and at which line an input is refused.
use Rattle.std.specs.Prelude.{◌≡◌, ℕ, ◌+◌, ◌⊎◌, true, false, List, [], ◌∷◌, ◌++◌, length, if◌then◌else◌}
use Rattle.line_cut.specs.declared.limit.Limit.{Limit}
use Rattle.line_cut.specs.declared.limit.Limit.TheVariants.{Whole}
use Rattle.line_cut.specs.Limits.{is_too_long}
use Rattle.line_cut.specs.Lines.{last_lines, lines, open_line}
use Rattle.gps_client.specs.declared.line.Line.{Line}
use Rattle.gps_client.specs.Texts.{IsLineOf}

-- the bytes of a line, its CR LF among them
abbrev pub limit : Limit
limit = Whole 1_048_576

-- a line is that of a value, and not too long
pub record IsRead (v : Line) (line : List ℕ) : Type 0 where
  pub of_value : IsLineOf v line
  pub fits : is_too_long limit line ≡ false

-- each line is that of the value at its place
abbrev pub AreRead : List Line → List (List ℕ) → Type 0
AreRead [] [] = Unit {0}
AreRead [] (line ∷ lines) = ⊥
AreRead (v ∷ values) [] = ⊥
AreRead (v ∷ values) (line ∷ lines) = IsRead v line × AreRead values lines

-- too long, or the line of no value
abbrev pub IsBad : List ℕ → Type 0
IsBad line = (is_too_long limit line ≡ true) ⊎ ((v : Line) → IsLineOf v line → ⊥)

-- a line that is too long is known before its end was read
abbrev pub long_line : List ℕ → List (List ℕ)
long_line line = if is_too_long limit line then line ∷ [] else []

-- the lines that are known of bytes to which more may be added
abbrev pub known_lines : List ℕ → List (List ℕ)
known_lines bytes = lines bytes ++ long_line (open_line bytes)

-- the lines of a whole input; the last may lack its end, and is then the line of no value
abbrev pub whole_lines : List ℕ → List (List ℕ)
whole_lines bytes = lines bytes ++ last_lines (open_line bytes)

-- the last of these lines is bad, and each before it is read; it is the n-th
pub record EndsBadly (shown : List (List ℕ)) (n : ℕ) : Type 0 where
  pub before : List (List ℕ)
  pub line : List ℕ
  pub split : shown ≡ before ++ line ∷ []
  pub values : List Line
  pub are : AreRead values before
  pub bad : IsBad line
  pub number : n ≡ length values + 1

-- the n-th line is the first bad one: a beginning of the bytes shows it
pub record Refuses (bytes : List ℕ) (n : ℕ) : Type 0 where
  pub first : List ℕ
  pub more : List ℕ
  pub begins : bytes ≡ first ++ more
  pub ends : EndsBadly (known_lines first) n
