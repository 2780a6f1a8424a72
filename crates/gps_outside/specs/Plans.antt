-- A plan is followed entry by entry.
use Rattle.std.specs.Prelude.{List, [], ◌∷◌, Option, Some, None}

-- the next entry of a plan; none after the plan
abbrev pub first_of : {X : Type 0} → List X → Option X
first_of [] = None
first_of (entry ∷ plan) = Some entry
