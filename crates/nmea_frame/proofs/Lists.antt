-- Facts on lists and tests that the theorem on sentences rests on.
use Rattle.std.proofs.Common.{◌≡◌, ◌+◌, ◌⊎◌, ◌&&◌, ℕ, Bool, true, false, cond, List, [], ◌∷◌, ◌++◌, length, take, refl, inl, inr, sym, ap, arith, ◌∙◌}
use Rattle.std.specs.List.{list_all, prefix_len}
use Rattle.std.proofs.lemmas.Bool.{cases_Bool}
use Rattle.std.proofs.Math.Numerals.{one-add}

-- which side a choice took
pub chosen : {A : Type 0} (b : Bool) (x y z : A) → cond b x y ≡ z → ((b ≡ true) × (x ≡ z)) ⊎ ((b ≡ false) × (y ≡ z))
chosen true x y z e = inl (refl, e)
chosen false x y z e = inr (refl, e)

pub both : (a b : Bool) → (a && b) ≡ true → (a ≡ true) × (b ≡ true)
both true true e = (refl, refl)
both true false e = cc
both false b e = cc

-- two ways to cut one list: the first cut is before the second, or after it
pub aligned : (x y a b : List ℕ) → x ++ y ≡ a ++ b →
    ((s : List ℕ) × ((a ≡ x ++ s) × (y ≡ s ++ b))) ⊎ ((s : List ℕ) × ((x ≡ a ++ s) × (b ≡ s ++ y)))
aligned [] y a b e = inl (a, (refl, e))
aligned (c ∷ x) y [] b e = inr (c ∷ x, (refl, sym e))
aligned (c ∷ x) y (d ∷ a) b e =
    let rest : x ++ y ≡ a ++ b = cc in
    let same : c ≡ d = cc in
    elim (aligned x y a b rest) [
      | inl w ↦ inl (w.0, (cc (w.1.0), w.1.1))
      | inr w ↦ inr (w.0, (cc (w.1.0), w.1.1))
    ]

-- what passes up to a first element that does not
pub prefix_len-body : (p : ℕ → Bool) (body : List ℕ) (c : ℕ) (rest : List ℕ) → list_all p body ≡ true → p c ≡ false →
    prefix_len p (body ++ c ∷ rest) ≡ length body
prefix_len-body p [] c rest pass stop = ap (λ b. cond b (1 + prefix_len p rest) 0) stop
prefix_len-body p (x ∷ body) c rest pass stop =
    let h : (p x ≡ true) × (list_all p body ≡ true) = both (p x) (list_all p body) pass in
    ap (λ b. cond b (1 + prefix_len p (body ++ c ∷ rest)) 0) (h.0) ∙ omega (arith, prefix_len-body p body c rest (h.1) stop)

pub prefix_len-all : (p : ℕ → Bool) (xs : List ℕ) → list_all p xs ≡ true → prefix_len p xs ≡ length xs
prefix_len-all p [] pass = refl
prefix_len-all p (x ∷ xs) pass =
    let h : (p x ≡ true) × (list_all p xs ≡ true) = both (p x) (list_all p xs) pass in
    ap (λ b. cond b (1 + prefix_len p xs) 0) (h.0) ∙ omega (arith, prefix_len-all p xs (h.1))

pub list_all-prefix : (p : ℕ → Bool) (xs : List ℕ) → list_all p (take (prefix_len p xs) xs) ≡ true
list_all-prefix p [] = refl
list_all-prefix p (x ∷ xs) =
    elim (cases_Bool (p x)) [
      | inl passes ↦ rw (ap (λ b. cond b (1 + prefix_len p xs) 0) passes, one-add) (rw passes (list_all-prefix p xs))
      | inr fails ↦ rw (ap (λ b. cond b (1 + prefix_len p xs) 0) fails)
    ]
