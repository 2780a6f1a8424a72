-- A list that takes each key once, and the map of its places.
use Rattle.std.proofs.Common.{◌≡◌, ℕ, zero, suc, get_or, ◌+◌, ◌<◌, ◌≤◌, ◌⊎◌, inl, inr, Bool, true, false, ◌||◌, List, [], ◌∷◌, ◌++◌, length, map, take, Option, Some, None, nat_eq, refl, sym, ap, ◌∙◌, subst, eqb-true, arith}
use Rattle.std.specs.List.{list_any, slice_get, IsDistinct, AllByRecursion}
use Rattle.std.specs.Ordering.{nat_cmp}
use Rattle.std.specs.BTreeMap.{BTreeMap, get, Updates, is_at}
use Rattle.std.specs.Map.{lookup}
use Rattle.std.proofs.lemmas.Bool.Decides.{nat_tests}
use Rattle.std.proofs.lemmas.Map.Keys.{IsDistinct-push}
use Rattle.std.proofs.lemmas.Cmp.{nat_eq_equiv}
use Rattle.std.proofs.lemmas.List.{map-append, take-map, take_more, length-take, length_push}
use Rattle.epoch_core.specs.Keys.{IsPlaced, IsOnce, few, at_place, has_it}

-- ---- lists by index

pub slice_get_push : {X : Type 0} → (xs : List X) (x : X) (i : ℕ) (y : X) → slice_get (xs ++ x ∷ []) i ≡ Some y → (slice_get xs i ≡ Some y) ⊎ ((i ≡ length xs) × (x ≡ y))
slice_get_push [] x zero y h = inr (refl, cc)
slice_get_push [] x (suc i) y h = absurd (cc)
slice_get_push (z ∷ xs) x zero y h = inl h
slice_get_push (z ∷ xs) x (suc i) y h = elim (slice_get_push xs x i y h) [ inl a ↦ inl a | inr b ↦ let e : suc i ≡ length (z ∷ xs) = ap suc b.0 in inr (e, b.1) ]

pub slice_get_front : {X : Type 0} → (n : ℕ) (xs : List X) (i : ℕ) (y : X) → slice_get (take n xs) i ≡ Some y → slice_get xs i ≡ Some y
slice_get_front zero xs i y h = absurd (cc)
slice_get_front (suc n) [] i y h = h
slice_get_front (suc n) (x ∷ xs) zero y h = h
slice_get_front (suc n) (x ∷ xs) (suc i) y h = slice_get_front n xs i y h

or_false : (a b : Bool) → (a || b) ≡ false → (a ≡ false) × (b ≡ false)
or_false true b h = absurd (cc)
or_false false b h = (refl, h)

pub none_at : {X : Type 0} (p : X → Bool) → (xs : List X) (i : ℕ) (y : X) → list_any p xs ≡ false → slice_get xs i ≡ Some y → p y ≡ false
none_at p [] i y e h = absurd (cc)
none_at p (x ∷ xs) zero y e h =
    let same : x ≡ y = cc in let P : _ → Type 0 = λ v. p v ≡ false in subst P same (or_false (p x) (list_any p xs) e).0
none_at p (x ∷ xs) (suc i) y e h = none_at p xs i y (or_false (p x) (list_any p xs) e).1 h

any_at_more : {X : Type 0} (p : X → Bool) (x : X) (xs : List X) → (list_any p xs ≡ true → (i : ℕ) × (y : X) × (slice_get xs i ≡ Some y) × (p y ≡ true)) → (b : Bool) → p x ≡ b → (p x || list_any p xs) ≡ true → (i : ℕ) × (y : X) × (slice_get (x ∷ xs) i ≡ Some y) × (p y ≡ true)
any_at_more p x xs rest true h e = (0, x, refl, h)
any_at_more p x xs rest false h e =
    let found = rest (sym (ap (λ b. b || list_any p xs) h) ∙ e) in (suc found.0, found.1, found.2, found.3)

-- an element that passes, and its place
pub any_at : {X : Type 0} (p : X → Bool) → (xs : List X) → list_any p xs ≡ true → (i : ℕ) × (x : X) × (slice_get xs i ≡ Some x) × (p x ≡ true)
any_at p [] e = absurd (cc)
any_at p (x ∷ xs) e = any_at_more p x xs (λ r. any_at p xs r) (p x) refl e

-- ---- distinct keys

pub any_map : {X : Type 0} (key : X → ℕ) (k : ℕ) → (xs : List X) → list_any (nat_eq k) (map key xs) ≡ list_any (λ x. nat_eq (key x) k) xs
any_map key k [] = refl
any_map key k (x ∷ xs) = ap (λ b. b || list_any (nat_eq k) (map key xs)) (nat_eq_equiv.symm k (key x)) ∙ ap (λ b. nat_eq (key x) k || b) (any_map key k xs)

any_of_keys : {X : Type 0} (key : X → ℕ) (k : ℕ) → (xs : List X) → list_any (λ q. nat_eq q k) (map key xs) ≡ list_any (λ x. nat_eq (key x) k) xs
any_of_keys key k [] = refl
any_of_keys key k (x ∷ xs) = ap (λ b. nat_eq (key x) k || b) (any_of_keys key k xs)

pub keys_more : {X : Type 0} (key : X → ℕ) (xs ys : List X) (x : X) (ks ls : List ℕ) (k : ℕ) → ks ≡ map key xs → ys ≡ xs ++ x ∷ [] → ls ≡ ks ++ k ∷ [] → k ≡ key x → ls ≡ map key ys
keys_more key xs ys x ks ls k e grown more same =
    more ∙ (ap (λ q. ks ++ q ∷ []) same ∙ (ap (λ q. q ++ key x ∷ []) e ∙ (sym (map-append key xs (x ∷ [])) ∙ ap (map key) (sym grown))))

pub keys_front : {X : Type 0} (key : X → ℕ) (n : ℕ) (xs ys : List X) (ks ls : List ℕ) → ks ≡ map key xs → ys ≡ take n xs → ls ≡ take n ks → ls ≡ map key ys
keys_front key n xs ys ks ls e front same = same ∙ (ap (take n) e ∙ (take-map key n xs ∙ ap (map key) (sym front)))

pub keys_nothing : {X : Type 0} (key : X → ℕ) (xs : List X) (ks : List ℕ) → xs ≡ [] → ks ≡ [] → ks ≡ map key xs
keys_nothing key xs ks e none = none ∙ ap (map key) (sym e)

pub any_key : {X : Type 0} (key : X → ℕ) (k : ℕ) (r : Bool) (slice ks : List ℕ) (xs vs : List X) → r ≡ list_any (λ q. nat_eq q k) slice → slice ≡ ks → ks ≡ map key xs → xs ≡ vs → r ≡ list_any (λ x. nat_eq (key x) k) vs
any_key key k r slice ks xs vs is same keys view =
    is ∙ (ap (list_any (λ q. nat_eq q k)) (same ∙ keys) ∙ (any_of_keys key k xs ∙ ap (list_any (λ x. nat_eq (key x) k)) view))

pub distinct_push : {X : Type 0} (key : X → ℕ) (xs : List X) (x : X) → IsDistinct nat_eq (map key xs) → list_any (λ y. nat_eq (key y) (key x)) xs ≡ false → IsDistinct nat_eq (map key (xs ++ x ∷ []))
distinct_push key xs x d apart =
    let e : map key (xs ++ x ∷ []) ≡ map key xs ++ key x ∷ [] = map-append key xs (x ∷ []) in
    rw e (IsDistinct-push nat_eq_equiv (map key xs) (key x) d (any_map key (key x) xs ∙ apart))

pub all_front : {X : Type 0} (P : X → Type 0) → (n : ℕ) (xs : List X) → AllByRecursion P xs → AllByRecursion P (take n xs)
all_front P zero xs a = tt
all_front P (suc n) [] a = a
all_front P (suc n) (x ∷ xs) a = (a.0, all_front P n xs a.1)

pub distinct_front : (n : ℕ) (ks : List ℕ) → IsDistinct nat_eq ks → IsDistinct nat_eq (take n ks)
unfolding IsDistinct
distinct_front zero ks d = tt
distinct_front (suc n) [] d = d
distinct_front (suc n) (k ∷ ks) d = (all_front (λ y. nat_eq k y ≡ false) n ks d.0, distinct_front n ks d.1)

-- ---- the map of places

pub placed_front : {X : Type 0} (key : X → ℕ) (n : ℕ) (xs : List X) (m : BTreeMap ℕ ℕ) → IsPlaced key xs m → IsPlaced key (take n xs) m
placed_front key n xs m placed = record { found = λ i x h. placed.found i x (slice_get_front n xs i x h) }

pub once_nothing : {X : Type 0} (key : X → ℕ) (xs : List X) (m : BTreeMap ℕ ℕ) → xs ≡ [] → IsOnce key xs m
unfolding IsDistinct
once_nothing key xs m e = let P : List _ → Type 0 = λ v. IsOnce key v m in subst P (sym e) (record { distinct = tt; placed = λ h. absurd (omega arith) })

pub once_front : {X : Type 0} (key : X → ℕ) (n : ℕ) (xs ys : List X) (m : BTreeMap ℕ ℕ) → IsOnce key xs m → ys ≡ take n xs → IsOnce key ys m
once_front key n xs ys m once e =
    let P : List _ → Type 0 = λ v. IsOnce key v m in
    subst P (sym e) (record {
      distinct = rw (← take-map key n xs) (distinct_front n (map key xs) once.distinct);
      placed = λ h. let h' : few < length xs = omega (arith, length-take n xs, h) in placed_front key n xs m (once.placed h');
    })

at_key : (a b : ℕ) → nat_eq a b ≡ true → is_at (nat_cmp b) a ≡ true
at_key a b e = grind (arith, nat_tests)

apart_key : (a b : ℕ) → nat_eq a b ≡ false → is_at (nat_cmp b) a ≡ false
apart_key a b e = grind (arith, nat_tests)

pub placed_push : {X : Type 0} (key : X → ℕ) (xs : List X) (x : X) (m n : BTreeMap ℕ ℕ) (k : ℕ) → IsPlaced key xs m → list_any (λ y. nat_eq (key y) k) xs ≡ false → Updates nat_cmp m n k (Some (length xs)) → key x ≡ k → IsPlaced key (xs ++ x ∷ []) n
placed_push key xs x m n k placed apart updates e = record {
  found = λ i y h.
      elim (slice_get_push xs x i y h) [
        | inl a ↦ updates.2 (key y) (apart_key (key y) k (none_at (λ z. nat_eq (key z) k) xs i y apart a)) ∙ placed.found i y a
        | inr b ↦ ap (λ z. get nat_cmp n (key z)) (sym b.1) ∙ ap (λ q. get nat_cmp n q) e ∙ updates.1 ∙ ap Some (sym b.0)
      ];
}

-- the same for the elements that were there before
pub placed_stays : {X : Type 0} (key : X → ℕ) (xs : List X) (m n : BTreeMap ℕ ℕ) (k : ℕ) (w : Option ℕ) → IsPlaced key xs m → list_any (λ y. nat_eq (key y) k) xs ≡ false → Updates nat_cmp m n k w → IsPlaced key xs n
placed_stays key xs m n k w placed apart updates = record {
  found = λ i y h.
      updates.2 (key y) (apart_key (key y) k (none_at (λ z. nat_eq (key z) k) xs i y apart h)) ∙ placed.found i y h;
}

pub placed_same : {X : Type 0} (key : X → ℕ) (xs : List X) (m n : BTreeMap ℕ ℕ) → IsPlaced key xs m → n.entries ≡ m.entries → IsPlaced key xs n
placed_same key xs m n placed e = record { found = λ i y h. ap (λ es. lookup (is_at (nat_cmp (key y))) es) e ∙ placed.found i y h }

listed_at : {X : Type 0} (key : X → ℕ) (xs : List X) (k : ℕ) (o : Option ℕ) → list_any (λ x. nat_eq (key x) k) xs ≡ false → at_place key xs k o ≡ false
listed_at key xs k None none = refl
listed_at key xs k (Some i) none = listed_in key xs k i (slice_get xs i) none refl
  where
    listed_in : {X : Type 0} (key : X → ℕ) (xs : List X) (k i : ℕ) (o : Option X) → list_any (λ x. nat_eq (key x) k) xs ≡ false → slice_get xs i ≡ o → has_it key k o ≡ false
    listed_in key xs k i None none h = refl
    listed_in key xs k i (Some x) none h = none_at (λ x. nat_eq (key x) k) xs i x none h

listed_split : {X : Type 0} (key : X → ℕ) (xs : List X) (m : BTreeMap ℕ ℕ) (k : ℕ) → IsPlaced key xs m → (b : Bool) → list_any (λ x. nat_eq (key x) k) xs ≡ b → at_place key xs k (get nat_cmp m k) ≡ list_any (λ x. nat_eq (key x) k) xs
listed_split key xs m k placed false h = listed_at key xs k (get nat_cmp m k) h ∙ sym h
listed_split key xs m k placed true h =
    let found = any_at (λ x. nat_eq (key x) k) xs h in
    let e : key found.1 ≡ k = eqb-true (key found.1) k found.3 in
    let there : get nat_cmp m k ≡ Some found.0 = ap (λ q. get nat_cmp m q) (sym e) ∙ placed.found found.0 found.1 found.2 in
    ap (λ o. at_place key xs k o) there ∙ ap (λ o. has_it key k o) found.2 ∙ found.3 ∙ sym h

-- the map finds what is in the list, and nothing else
pub listed : {X : Type 0} (key : X → ℕ) (xs : List X) (m : BTreeMap ℕ ℕ) (k : ℕ) → IsPlaced key xs m → at_place key xs k (get nat_cmp m k) ≡ list_any (λ x. nat_eq (key x) k) xs
listed key xs m k placed = listed_split key xs m k placed (list_any (λ x. nat_eq (key x) k) xs) refl

all_last : {K : Type 0} (P : K → Type 0) → (ks : List K) (k : K) → AllByRecursion P (ks ++ k ∷ []) → P k
all_last P [] k a = a.0
all_last P (y ∷ ks) k a = all_last P ks k a.1

last_apart : (ks : List ℕ) (k : ℕ) → IsDistinct nat_eq (ks ++ k ∷ []) → list_any (nat_eq k) ks ≡ false
unfolding IsDistinct
last_apart [] k d = refl
last_apart (y ∷ ks) k d =
    ap (λ b. b || list_any (nat_eq k) ks) (nat_eq_equiv.symm k y ∙ all_last (λ z. nat_eq y z ≡ false) ks k d.0) ∙ last_apart ks k d.1

-- the front grows by the element at its end, and that element's key is new
pub placed_more : {X : Type 0} (key : X → ℕ) (xs : List X) (m n : BTreeMap ℕ ℕ) (i : ℕ) (x : X) → IsDistinct nat_eq (map key xs) → IsPlaced key (take i xs) m → i < length xs → x ≡ get_or xs i x → Updates nat_cmp m n (key x) (Some i) → IsPlaced key (take (i + 1) xs) n
placed_more key xs m n i x d placed within is updates =
    let grown : take (i + 1) xs ≡ take i xs ++ x ∷ [] = take_more xs i x within ∙ ap (λ y. take i xs ++ y ∷ []) (sym is) in
    let long : length (take i xs) ≡ i = omega (arith, length-take i xs) in
    let keys : map key (take (i + 1) xs) ≡ map key (take i xs) ++ key x ∷ [] = ap (map key) grown ∙ map-append key (take i xs) (x ∷ []) in
    let apart : list_any (nat_eq (key x)) (map key (take i xs)) ≡ false =
    last_apart (map key (take i xs)) (key x)
    (rw (← keys) (rw (← take-map key (i + 1) xs) (distinct_front (i + 1) (map key xs) d))) in
    let P : List _ → Type 0 = λ v. IsPlaced key v n in
    let U : ℕ → Type 0 = λ v. Updates nat_cmp m n (key x) (Some v) in
    subst P (sym grown)
    (placed_push key (take i xs) x m n (key x) placed (sym (any_map key (key x) (take i xs)) ∙ apart) (subst U (sym long) updates) refl)

pub placed_none : {X : Type 0} (key : X → ℕ) (xs : List X) (m : BTreeMap ℕ ℕ) → IsPlaced key (take 0 xs) m
placed_none key xs m = record { found = λ i x h. absurd (cc) }

-- ---- one more element

pub once_more : {X : Type 0} (key : X → ℕ) (xs ys : List X) (x : X) (m n : BTreeMap ℕ ℕ) → IsOnce key xs m → list_any (λ y. nat_eq (key y) (key x)) xs ≡ false → (few ≤ length xs → (y : X) → key y ≡ key x → IsPlaced key (xs ++ y ∷ []) n) → ys ≡ xs ++ x ∷ [] → IsOnce key ys n
once_more key xs ys x m n once apart next e =
    let P : List _ → Type 0 = λ v. IsOnce key v n in
    subst P (sym e) (record {
      distinct = distinct_push key xs x once.distinct apart;
      placed = λ h. let h' : few ≤ length xs = omega (arith, length_push xs x, h) in next h' x refl;
    })

pub once_kept : {X : Type 0} (key : X → ℕ) (xs ys : List X) (m n : BTreeMap ℕ ℕ) → IsOnce key xs m → (few < length xs → IsPlaced key xs n) → ys ≡ xs → IsOnce key ys n
once_kept key xs ys m n once placed e =
    let P : List _ → Type 0 = λ v. IsOnce key v n in subst P (sym e) (record { distinct = once.distinct; placed = placed })

pub missed : {X : Type 0} (key : X → ℕ) (xs vs : List X) (x : X) (k : ℕ) (r : Bool) → xs ≡ vs → r ≡ list_any (λ y. nat_eq (key y) k) vs → r ≡ false → k ≡ key x → list_any (λ y. nat_eq (key y) (key x)) xs ≡ false
missed key xs vs x k r e has absent same =
    ap (λ q. list_any (λ y. nat_eq (key y) q) xs) (sym same) ∙ ap (list_any (λ y. nat_eq (key y) k)) e ∙ sym has ∙ absent

pub next_place : {X : Type 0} (key : X → ℕ) (xs vs : List X) (k l : ℕ) (n : BTreeMap ℕ ℕ) → (few ≤ length vs → (y : X) → key y ≡ k → IsPlaced key (vs ++ y ∷ []) n) → vs ≡ xs → k ≡ l → few ≤ length xs → (y : X) → key y ≡ l → IsPlaced key (xs ++ y ∷ []) n
next_place key xs vs k l n next e same h y at =
    let P : List _ → Type 0 = λ v. IsPlaced key (v ++ y ∷ []) n in
    let Q : List _ → Type 0 = λ v. few ≤ length v in
    subst P e (next (subst Q (sym e) h) y (at ∙ sym same))
