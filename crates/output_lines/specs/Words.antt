-- What the lines of a run's output are made of.
use Rattle.std.specs.Prelude.{ℕ, List, [], ◌∷◌, ◌++◌}
use Rattle.std.specs.Fmt.{decimal}

abbrev pub line_end : List ℕ
line_end = 10 ∷ []

-- a word, directly followed by a number
unfoldable pub numbered : List ℕ → ℕ → List ℕ
numbered word n = word ++ decimal n
