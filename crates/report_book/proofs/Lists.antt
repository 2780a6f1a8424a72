-- What holds of each element of a list, through a change of the list.
use Rattle.std.proofs.Common.{◌≡◌, ◌≢◌, ℕ, ◌<◌, List, [], ◌∷◌, ◌++◌, length, get_or, arith}
use Rattle.std.specs.List.{All, AllZip}
use Rattle.std.proofs.lemmas.List.Elements.{length_all_zip, AllZip-get_or}

-- place by place, from one list to another
pub all_along : {X : Type 0} (P Q : X → Type 0) (R : X → X → Type 0) → ((x y : X) → P x → R x y → Q y)
    → (xs ys : List X) → All P xs → AllZip R xs ys → All Q ys
all_along P Q R step xs ys all zip =
    let long = length_all_zip R xs ys zip in
    λ k d within. let there : k < length xs = omega arith in step (get_or xs k d) (get_or ys k d) (all k d there) (AllZip-get_or R xs ys k d d zip there)
