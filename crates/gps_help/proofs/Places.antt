-- What holds of words by their place, said of their texts; and a test at the places below n.
use Rattle.std.proofs.Common.{◌≡◌, ℕ, zero, suc, ◌+◌, ◌<◌, ◌⊎◌, inl, inr, Bool, true, false, cond, not, ◌||◌, List, [], ◌∷◌, length, map, nat_lt, Option, Some, None, option_map, position, slice_get, refl, sym, ap, ◌∙◌, arith, add-one}
use Rattle.std.specs.List.{position_or_len, prefix_len}
use Rattle.std.proofs.lemmas.Bool.Decides.{nat_tests}
use Rattle.std.proofs.lemmas.List.{length-map}
use Rattle.std.proofs.lemmas.Option.{slice_get-map}
use Rattle.gps_help.specs.Places.{any_below, count_below}

pub get_text : {X Y : Type 0} (f : X → Y) (xs : List X) (at : ℕ) → slice_get (map f xs) at ≡ option_map f (slice_get xs at)
get_text f xs at = slice_get-map f xs at

pub count_text : {X Y : Type 0} (f : X → Y) (xs : List X) → length (map f xs) ≡ length xs
count_text f xs = length-map xs f

prefix_text : {X Y : Type 0} (p : Y → Bool) (f : X → Y) (xs : List X) → prefix_len p (map f xs) ≡ prefix_len (λ x. p (f x)) xs
prefix_text p f [] = refl
prefix_text p f (x ∷ xs) = ap (λ n. cond (p (f x)) (1 + n) 0) (prefix_text p f xs)

place_if : ℕ → ℕ → Option ℕ
place_if n most = cond (nat_lt n most) (Some n) None

pub position_text : {X Y : Type 0} (p : Y → Bool) (f : X → Y) (xs : List X) → position p (map f xs) ≡ position (λ x. p (f x)) xs
unfolding place_if
position_text p f xs =
    ap (λ n. place_if n (length (map f xs))) (prefix_text (λ y. not (p y)) f xs)
    ∙ ap (λ n. place_if (position_or_len (λ x. p (f x)) xs) n) (length-map xs f)

or_true : (b : Bool) → (b || true) ≡ true
or_true true = refl
or_true false = refl

last_or_before : (k n : ℕ) (b : Bool) → nat_lt k n ≡ b → k < suc n → (k < n) ⊎ (k ≡ n)
last_or_before k n true e h = inl (grind (arith, nat_tests))
last_or_before k n false e h = inr (grind (arith, nat_tests))

found_by : (test : ℕ → Bool) (k n : ℕ) → (k < n) ⊎ (k ≡ n) → (k < n → any_below test n ≡ true) → test k ≡ true → any_below test (suc n) ≡ true
found_by test k n (inl before) earlier passes = ap (λ b. b || test n) (earlier before)
found_by test k n (inr here) earlier passes = ap (λ b. any_below test n || b) (ap test (sym here) ∙ passes) ∙ or_true (any_below test n)

pub found : (test : ℕ → Bool) (k n : ℕ) → k < n → test k ≡ true → any_below test n ≡ true
found test k zero within passes = absurd (omega arith)
found test k (suc n) within passes = found_by test k n (last_or_before k n (nat_lt k n) refl within) (λ before. found test k n before passes) passes

pub none_more : (test : ℕ → Bool) (n : ℕ) → any_below test n ≡ false → test n ≡ false → any_below test (n + 1) ≡ false
none_more test n none here = rw add-one (ap (λ b. b || test n) none ∙ here)

pub count_more : (test : ℕ → Bool) (n : ℕ) → count_below test (n + 1) ≡ count_below test n + cond (test n) 1 0
count_more test n = rw add-one refl
