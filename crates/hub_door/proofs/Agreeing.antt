-- A prefix of a list that is as long as the list is the list.
use Rattle.std.proofs.Common.{◌≡◌, ℕ, List, [], ◌∷◌, ◌++◌, length, refl, sym, ap, ◌∙◌, append-nil, arith, length-append}
use Rattle.hub_door.specs.declared.view.Entry.{Entry}
use Rattle.gps_fixed.specs.Lists.{IsPrefix}

no_more : (rest : List Entry) → length rest ≡ 0 → rest ≡ []
no_more [] e = refl
no_more (x ∷ xs) e = absurd (omega arith)

pub agreed : (first all : List Entry) → IsPrefix first all → length first ≡ length all → first ≡ all
agreed first all begins same =
    let long = length-append first begins.0 in
    let whole : length all ≡ length (first ++ begins.0) = ap length begins.1 in
    let none = no_more begins.0 (omega arith) in
    sym (begins.1 ∙ ap (λ (l : List Entry). first ++ l) none ∙ append-nil first)
