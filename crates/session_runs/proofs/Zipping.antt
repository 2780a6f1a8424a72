-- Two lists whose elements are related pair by pair, through a change of the first.
use Rattle.std.proofs.Common.{ℕ, zero, suc, List, [], ◌∷◌, ◌++◌, map, set}
use Rattle.std.specs.List.{AllZip}

-- each element became another, and so has its companion
pub zip_carry : {A B C : Type 0} (P : A → B → Type 0) (R : A → A → Type 0) (Q : A → C → Type 0) (S : B → C → Type 0)
    → ((x y : A) (b : B) → R x y → P x b → (c : C) × Q y c × S b c)
    → (xs ys : List A) (bs : List B) → AllZip R xs ys → AllZip P xs bs → (cs : List C) × AllZip Q ys cs × AllZip S bs cs
zip_carry P R Q S step [] [] [] zip held = ([], tt, tt)
zip_carry P R Q S step [] [] (b ∷ bs) zip held = absurd held
zip_carry P R Q S step [] (y ∷ ys) bs zip held = absurd zip
zip_carry P R Q S step (x ∷ xs) [] bs zip held = absurd zip
zip_carry P R Q S step (x ∷ xs) (y ∷ ys) [] zip held = absurd held
zip_carry P R Q S step (x ∷ xs) (y ∷ ys) (b ∷ bs) zip held =
    let first = step x y b zip.0 held.0 in
    let rest = zip_carry P R Q S step xs ys bs zip.1 held.1 in
    (first.0 ∷ rest.0, (first.1, rest.1), (first.2, rest.2))

-- the same companions serve
pub zip_keep : {A B : Type 0} (P : A → B → Type 0) (R : A → A → Type 0) (Q : A → B → Type 0) → ((x y : A) (b : B) → R x y → P x b → Q y b)
    → (xs ys : List A) (bs : List B) → AllZip R xs ys → AllZip P xs bs → AllZip Q ys bs
zip_keep P R Q step [] [] [] zip held = tt
zip_keep P R Q step [] [] (b ∷ bs) zip held = absurd held
zip_keep P R Q step [] (y ∷ ys) bs zip held = absurd zip
zip_keep P R Q step (x ∷ xs) [] bs zip held = absurd zip
zip_keep P R Q step (x ∷ xs) (y ∷ ys) [] zip held = held
zip_keep P R Q step (x ∷ xs) (y ∷ ys) (b ∷ bs) zip held = (step x y b zip.0 held.0, zip_keep P R Q step xs ys bs zip.1 held.1)

-- one pair was set
pub zip_set : {A B : Type 0} (P : A → B → Type 0) (xs : List A) (ys : List B) (s : ℕ) (x : A) (y : B) → P x y → AllZip P xs ys → AllZip P (set xs s x) (set ys s y)
zip_set P [] [] s x y pair zip = tt
zip_set P [] (b ∷ ys) s x y pair zip = absurd zip
zip_set P (a ∷ xs) [] s x y pair zip = absurd zip
zip_set P (a ∷ xs) (b ∷ ys) zero x y pair zip = (pair, zip.1)
zip_set P (a ∷ xs) (b ∷ ys) (suc s) x y pair zip = (zip.0, zip_set P xs ys s x y pair zip.1)

-- one pair was added
pub zip_push : {A B : Type 0} (P : A → B → Type 0) (xs : List A) (ys : List B) (x : A) (y : B) → P x y → AllZip P xs ys → AllZip P (xs ++ x ∷ []) (ys ++ y ∷ [])
zip_push P [] [] x y pair zip = (pair, tt)
zip_push P [] (b ∷ ys) x y pair zip = absurd zip
zip_push P (a ∷ xs) [] x y pair zip = absurd zip
zip_push P (a ∷ xs) (b ∷ ys) x y pair zip = (zip.0, zip_push P xs ys x y pair zip.1)

-- the first list was mapped
pub zip_unmapped : {A B C : Type 0} (R : B → C → Type 0) (f : A → B) (xs : List A) (ys : List C) → AllZip R (map f xs) ys → AllZip (λ x y. R (f x) y) xs ys
zip_unmapped R f [] [] zip = tt
zip_unmapped R f [] (y ∷ ys) zip = zip
zip_unmapped R f (x ∷ xs) [] zip = zip
zip_unmapped R f (x ∷ xs) (y ∷ ys) zip = (zip.0, zip_unmapped R f xs ys zip.1)

pub zip_weaker : {A B : Type 0} (R Q : A → B → Type 0) → ((x : A) (y : B) → R x y → Q x y) → (xs : List A) (ys : List B) → AllZip R xs ys → AllZip Q xs ys
zip_weaker R Q weaker [] [] zip = tt
zip_weaker R Q weaker [] (y ∷ ys) zip = zip
zip_weaker R Q weaker (x ∷ xs) [] zip = zip
zip_weaker R Q weaker (x ∷ xs) (y ∷ ys) zip = (weaker x y zip.0, zip_weaker R Q weaker xs ys zip.1)

-- two relations at once
pub zip_both : {A B : Type 0} (R S Q : A → B → Type 0) → ((x : A) (y : B) → R x y → S x y → Q x y) → (xs : List A) (ys : List B)
    → AllZip R xs ys → AllZip S xs ys → AllZip Q xs ys
zip_both R S Q both [] [] one other = tt
zip_both R S Q both [] (y ∷ ys) one other = one
zip_both R S Q both (x ∷ xs) [] one other = one
zip_both R S Q both (x ∷ xs) (y ∷ ys) one other = (both x y one.0 other.0, zip_both R S Q both xs ys one.1 other.1)

pub zip_same : {A : Type 0} (R : A → A → Type 0) → ((x : A) → R x x) → (xs : List A) → AllZip R xs xs
zip_same R same [] = tt
zip_same R same (x ∷ xs) = (same x, zip_same R same xs)
