-- Elements added to a list, each unless an equal one is there.
use Rattle.std.proofs.Common.{◌≡◌, ℕ, ◌+◌, ◌<◌, ◌≤◌, Bool, true, false, cond, List, [], ◌∷◌, ◌++◌, length, map, take, get_or, refl, sym, ap, ◌∙◌, arith}
use Rattle.std.specs.List.{list_any}
use Rattle.std.proofs.lemmas.List.{take_more, take_all, take-append-le, length-append, map-append}
use Rattle.epoch_core.specs.Steps.{added, all_added}

-- ---- order of adding

pub all_added-append : {X : Type 0} (same : X → X → Bool) → (kept xs ys : List X) → all_added same kept (xs ++ ys) ≡ all_added same (all_added same kept xs) ys
all_added-append same kept [] ys = refl
all_added-append same kept (x ∷ xs) ys = all_added-append same (added same kept x) xs ys

pub added_next : {X : Type 0} (same : X → X → Bool) (kept now new xs : List X) (i : ℕ) (x : X) → now ≡ all_added same kept (take i xs) → i < length xs → x ≡ get_or xs i x → new ≡ added same now x → new ≡ all_added same kept (take (i + 1) xs)
added_next same kept now new xs i x so_far within is one =
    let grown : take (i + 1) xs ≡ take i xs ++ x ∷ [] = take_more xs i x within ∙ ap (λ y. take i xs ++ y ∷ []) (sym is) in
    one ∙ ap (λ v. added same v x) so_far ∙ sym (all_added-append same kept (take i xs) (x ∷ [])) ∙ ap (all_added same kept) (sym grown)

-- ---- the front stays

pub added_keeps : {X : Type 0} (same : X → X → Bool) (n : ℕ) (kept : List X) (x : X) → n ≤ length kept → (take n (added same kept x) ≡ take n kept) × (n ≤ length (added same kept x))
added_keeps {X} same n kept x h = split (list_any (λ y. same y x) kept)
  where
    split : (b : Bool) → (take n (cond b kept (kept ++ x ∷ [])) ≡ take n kept) × (n ≤ length (cond b kept (kept ++ x ∷ [])))
    split true = (refl, h)
    split false = let l : n ≤ length (kept ++ x ∷ []) = omega (arith, length-append kept (x ∷ [])) in (take-append-le n kept (x ∷ []) h, l)

pub all_added_keep : {X : Type 0} (same : X → X → Bool) (n : ℕ) (kept : List X) → (xs : List X) → n ≤ length kept → (take n (all_added same kept xs) ≡ take n kept) × (n ≤ length (all_added same kept xs))
all_added_keep same n kept [] h = (refl, h)
all_added_keep same n kept (x ∷ xs) h =
    let one = added_keeps same n kept x h in
    let rest = all_added_keep same n (added same kept x) xs one.1 in
    (rest.0 ∙ one.0, rest.1)

pub added_front : {X : Type 0} (same : X → X → Bool) (kept now new xs : List X) (n : ℕ) → now ≡ all_added same kept xs → n ≡ length kept → new ≡ take n now → new ≡ kept
added_front same kept now new xs n so_far len back =
    let all = all_added_keep same (length kept) kept xs (omega arith) in
    back ∙ ap (λ v. take v now) len ∙ ap (take (length kept)) so_far ∙ all.0 ∙ take_all (length kept) kept (omega arith)

-- the same for elements that are made of others
pub added_made : {X Y : Type 0} (make : Y → X) (same : X → X → Bool) (kept now new : List X) (ys : List Y) (i : ℕ) (y : Y) → now ≡ all_added same kept (map make (take i ys)) → i < length ys → y ≡ get_or ys i y → new ≡ added same now (make y) → new ≡ all_added same kept (map make (take (i + 1) ys))
added_made make same kept now new ys i y so_far within is one =
    let grown : take (i + 1) ys ≡ take i ys ++ y ∷ [] = take_more ys i y within ∙ ap (λ z. take i ys ++ z ∷ []) (sym is) in
    one ∙ ap (λ v. added same v (make y)) so_far ∙ sym (all_added-append same kept (map make (take i ys)) (make y ∷ []))
    ∙ ap (all_added same kept) (sym (map-append make (take i ys) (y ∷ [])) ∙ ap (map make) (sym grown))
