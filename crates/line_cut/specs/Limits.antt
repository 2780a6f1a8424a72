-- How long a line may be.
use Rattle.std.specs.Prelude.{ℕ, Bool, not, List, length, nat_lt}
use Rattle.std.specs.List.{filter}
use Rattle.line_cut.specs.declared.limit.Limit.{Limit}
use Rattle.line_cut.specs.declared.limit.Limit.TheVariants.{Text, Whole}
use Rattle.line_cut.specs.Lines.{lines, text_of}

abbrev pub most : Limit → ℕ
most (Text n) = n
most (Whole n) = n

-- A line, or the beginning of one, has too many bytes: without its line end, or with it.
abbrev pub is_too_long : Limit → List ℕ → Bool
is_too_long (Text n) line = nat_lt n (length (text_of line))
is_too_long (Whole n) line = nat_lt n (length line)

abbrev pub fits : Limit → List ℕ → Bool
fits limit line = not (is_too_long limit line)

-- the lines that these bytes end, without those that are too long
abbrev pub fitting_lines : Limit → List ℕ → List (List ℕ)
fitting_lines limit bytes = filter (fits limit) (lines bytes)
