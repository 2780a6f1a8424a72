-- Lists of any kind. (This project's own.)
use Rattle.std.specs.Prelude.{◌≡◌, List, ◌++◌}

-- the whole list begins with these, in order: nothing stands before them or between them
abbrev pub IsPrefix : {T : Type 0} → List T → List T → Type 0
IsPrefix {T} front whole = (rest : List T) × (whole ≡ front ++ rest)
