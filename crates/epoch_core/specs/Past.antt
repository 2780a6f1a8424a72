-- A past is a list that has the latest first. These are the words for "the last that gives" and "the first that gives".
use Rattle.std.specs.Prelude.{List, [], ◌∷◌, Option, None}
use Rattle.std.specs.Option.{option_or}

-- what is given by the latest that gives it
abbrev pub latest : {X Y : Type 0} → (X → Option Y) → List X → Option Y
latest given [] = None
latest given (x ∷ past) = option_or (given x) (latest given past)

-- what is given by the earliest that gives it
abbrev pub earliest : {X Y : Type 0} → (X → Option Y) → List X → Option Y
earliest given [] = None
earliest given (x ∷ past) = option_or (earliest given past) (given x)
