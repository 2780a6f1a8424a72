-- The satellites of a NAV-SAT, one after the other.
use Rattle.std.proofs.Common.{◌≡◌, ℕ, zero, suc, ◌+◌, ◌*◌, List, [], ◌∷◌, ◌++◌, take, drop, refl, sym, ap, ◌∙◌, arith, drop-drop}
use Rattle.ubx_decode.specs.Sat.{satellite_of, satellites_of}

-- the satellites of one group more
grown : (n : ℕ) (groups : List ℕ) → satellites_of (suc n) groups ≡ satellites_of n groups ++ satellite_of (take 12 (drop (12 * n) groups)) ∷ []
unfolding satellites_of
grown zero groups = refl
grown (suc n) groups =
    let moved : drop (12 * n) (drop 12 groups) ≡ drop (12 * suc n) groups = drop-drop (12 * n) 12 groups ∙ ap (λ k. drop k groups) (omega arith) in
    ap (λ xs. satellite_of (take 12 groups) ∷ xs) (grown n (drop 12 groups) ∙ ap (λ xs. satellites_of n (drop 12 groups) ++ satellite_of (take 12 xs) ∷ []) moved)

pub one_more : (n at : ℕ) (groups : List ℕ) → at ≡ 12 * n → satellites_of (n + 1) groups ≡ satellites_of n groups ++ satellite_of (take 12 (drop at groups)) ∷ []
one_more n at groups is = ap (λ k. satellites_of k groups) (omega arith) ∙ grown n groups ∙ ap (λ k. satellites_of n groups ++ satellite_of (take 12 (drop k groups)) ∷ []) (sym is)
