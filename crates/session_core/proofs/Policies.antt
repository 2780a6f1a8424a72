-- The last place of some marks.
use Rattle.std.proofs.Common.{◌≡◌, ℕ, List, [], ◌∷◌, ◌++◌, refl}
use Rattle.session_core.specs.declared.mark.Mark.{Mark}
use Rattle.session_core.specs.SessionView.{last_place}

pub last_place_push : (place : ℕ) (marks : List Mark) (mark : Mark) → last_place place (marks ++ mark ∷ []) ≡ mark.place
last_place_push place [] mark = refl
last_place_push place (other ∷ marks) mark = last_place_push other.place marks mark
