-- The pairs that a monitor took, each number once.
use Rattle.std.specs.Prelude.{◌≡◌, ℕ, ◌<◌, ◌==◌, not, List, [], ◌∷◌, ◌++◌}
use Rattle.std.specs.List.{filter}
use Rattle.shm_segment.specs.declared.view.Numbered.{Numbered}

-- the first pair of each number, in order
unfoldable pub each_once : List Numbered → List Numbered
each_once [] = []
each_once (pair ∷ pairs) = pair ∷ filter (λ (other : Numbered). not (pair.number == other.number)) (each_once pairs)

-- the numbers rise above this one
abbrev pub ClimbsFrom : ℕ → List Numbered → Type 0
ClimbsFrom number [] = Unit {0}
ClimbsFrom number (pair ∷ pairs) = (number < pair.number) × ClimbsFrom pair.number pairs

-- the numbers rise
abbrev pub Climbs : List Numbered → Type 0
Climbs [] = Unit {0}
Climbs (pair ∷ pairs) = ClimbsFrom pair.number pairs

-- these are the first of those
abbrev pub IsBeginning : List Numbered → List Numbered → Type 0
IsBeginning first all = (rest : List Numbered) × (all ≡ first ++ rest)
