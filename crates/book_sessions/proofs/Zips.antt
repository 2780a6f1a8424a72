-- Two lists whose elements are related pair by pair.
use Rattle.std.proofs.Common.{ℕ, zero, suc, List, [], ◌∷◌, map, get_or, set}
use Rattle.std.specs.List.{AllZip}

pub zip_weaker : {A B : Type 0} (R Q : A → B → Type 0) → ((x : A) (y : B) → R x y → Q x y) → (xs : List A) (ys : List B) → AllZip R xs ys → AllZip Q xs ys
zip_weaker R Q weaker [] [] zip = tt
zip_weaker R Q weaker [] (y ∷ ys) zip = zip
zip_weaker R Q weaker (x ∷ xs) [] zip = zip
zip_weaker R Q weaker (x ∷ xs) (y ∷ ys) zip = (weaker x y zip.0, zip_weaker R Q weaker xs ys zip.1)

pub zip_map : {A : Type 0} (R : A → A → Type 0) (f : A → A) → ((x : A) → R x (f x)) → (xs : List A) → AllZip R xs (map f xs)
zip_map R f each [] = tt
zip_map R f each (x ∷ xs) = (each x, zip_map R f each xs)

pub zip_same : {A : Type 0} (R : A → A → Type 0) → ((x : A) → R x x) → (xs : List A) → AllZip R xs xs
zip_same R same [] = tt
zip_same R same (x ∷ xs) = (same x, zip_same R same xs)

pub zip_set : {A : Type 0} (R : A → A → Type 0) → ((x : A) → R x x) → (xs : List A) (s : ℕ) (next : A) → ((free : A) → R (get_or xs s free) next) → AllZip R xs (set xs s next)
zip_set R same [] s next becomes = tt
zip_set R same (x ∷ xs) zero next becomes = (becomes next, zip_same R same xs)
zip_set R same (x ∷ xs) (suc s) next becomes = (same x, zip_set R same xs s next becomes)
