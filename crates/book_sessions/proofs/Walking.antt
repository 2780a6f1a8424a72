-- What a walk over some elements of a list makes of the whole list.
use Rattle.std.proofs.Common.{◌≡◌, ◌<◌, ◌⊎◌, ⊎_elim, inl, inr, ℕ, zero, suc, ◌+◌, Bool, true, false, cond, nat_eq, List, [], ◌∷◌, ◌++◌, length, map, filter, count_by, get_or, set, take, drop, refl, sym, ap, ◌∙◌, subst, length-append, append_assoc, add-one, drop-cons, arith}
use Rattle.std.specs.Int.{from_bool}
use Rattle.std.specs.List.{All, AllZip, list_any}
use Rattle.std.proofs.lemmas.Bool.{cases_eq, cases_Bool, eq-eqb, ne_eqb, or_from, or_parts, false≢true}
use Rattle.std.proofs.lemmas.List.{drop-set-lt, get_or_default, get_or-set_same, get_or-set_other, length-set, map-set, set_at, take_more_set}
use Rattle.std.proofs.lemmas.Grind.{drop_more_same}
use Rattle.std.proofs.lemmas.List.Sums.{sum_by-cons}
use Rattle.std.proofs.lemmas.List.Elements.{All-nil, All-cons, All-weaker, all_zip_more}
use Rattle.book_sessions.specs.Walks.{numbers, Walks, passes_at}

-- one more step of a walk
module _ {A : Type 0} (R : A → A → Type 0) (ns : List ℕ) (start : List A) where
  pub walk_step : (i d : ℕ) (cur : List A) (next : A) → i < length ns → ((new : List A) → Walks R (drop i ns) cur new → Walks R ns start new)
      → ((free : A) → R (get_or cur (get_or ns i d) free) next)
      → (new : List A) → Walks R (drop (i + 1) ns) (set cur (get_or ns i d) next) new → Walks R ns start new
  walk_step i d cur next within so_far becomes new rest =
      let here : drop i ns ≡ get_or ns i d ∷ drop (i + 1) ns = rw (add-one, drop-cons ns i d) refl in
      let P : List ℕ → Type 0 = λ l. Walks R l cur new in
      so_far new (subst P (sym here) (next, becomes, rest))

-- one more step of a loop over the numbers, whose items are given as another list
pub walk_turn : {A : Type 0} (R : A → A → Type 0) (ns items : List ℕ) (start cur : List A) (i : ℕ) (x next : A) → items ≡ ns → i < length items
    → ((new : List A) → Walks R (drop i ns) cur new → Walks R ns start new) → get_or items i 0 < length cur → x ≡ get_or cur (get_or items i 0) x → R x next
    → (new : List A) → Walks R (drop (i + 1) ns) (set cur (get_or items i 0) next) new → Walks R ns start new
walk_turn {A} R ns items start cur i x next same within so_far inside got becomes =
    let n = get_or items i 0 in
    let P : List ℕ → Type 0 = λ l. (new : List A) → Walks R (drop (i + 1) l) (set cur n next) new → Walks R l start new in
    let Q : List ℕ → Type 0 = λ l. (new : List A) → Walks R (drop i l) cur new → Walks R l start new in
    let S : A → Type 0 = λ y. R y next in
    subst P same (walk_step R items start i 0 cur next within (subst Q (sym same) so_far) (λ free. subst S (got ∙ get_or_default cur n x free inside) becomes))

at_end : {A : Type 0} (front : List A) (x : A) (rest : List A) (free : A) → get_or (front ++ x ∷ rest) (length front) free ≡ x
at_end [] x rest free = refl
at_end (y ∷ front) x rest free = at_end front x rest free

pub got_at : {A : Type 0} (front : List A) (x : A) (rest : List A) (n : ℕ) (free : A) → length front ≡ n → get_or (front ++ x ∷ rest) n free ≡ x
got_at {A} front x rest n free at = let P : ℕ → Type 0 = λ k. get_or (front ++ x ∷ rest) k free ≡ x in subst P at (at_end front x rest free)

module _ {A : Type 0} (test : A → Bool) (R : A → A → Type 0) (still : (x : A) → test x ≡ false → R x x) where
  Zipped : List A → List A → List A → Type 0
  Zipped front xs new = (ys : List A) × (new ≡ front ++ ys) × AllZip R xs ys

  zip_step : (front xs new : List A) (x : A) (n : ℕ) → length front ≡ n
      → ((longer : List A) → length longer ≡ n + 1 → Walks R (numbers test (n + 1) xs) (longer ++ xs) new → Zipped longer xs new)
      → (b : Bool) → test x ≡ b → Walks R (cond b (n ∷ numbers test (n + 1) xs) (numbers test (n + 1) xs)) (front ++ x ∷ xs) new → Zipped front (x ∷ xs) new
  unfolding Zipped
  zip_step front xs new x n at rest true passes walks =
      let next = walks.0 in
      let longer = front ++ next ∷ [] in
      let P : List A → Type 0 = λ l. Walks R (numbers test (n + 1) xs) l new in
      let walks' = subst P (set_at front x xs next n at ∙ sym (append_assoc front (next ∷ []) xs)) walks.2 in
      let more = rest longer (omega (arith, at, length-append front (next ∷ []))) walks' in
      let Q : A → Type 0 = λ y. R y next in
      (next ∷ more.0, more.1 ∙ append_assoc front (next ∷ []) more.0, (subst Q (got_at front x xs n next at) (walks.1 next), more.2))
  zip_step front xs new x n at rest false passes walks =
      let longer = front ++ x ∷ [] in
      let P : List A → Type 0 = λ l. Walks R (numbers test (n + 1) xs) l new in
      let more = rest longer (omega (arith, at, length-append front (x ∷ []))) (subst P (sym (append_assoc front (x ∷ []) xs)) walks) in
      (x ∷ more.0, more.1 ∙ append_assoc front (x ∷ []) more.0, (still x passes, more.2))

  zipped : (xs front new : List A) (n : ℕ) → length front ≡ n → Walks R (numbers test n xs) (front ++ xs) new → Zipped front xs new
  unfolding Zipped
  zipped [] front new n at walks = ([], walks, tt)
  zipped (x ∷ xs) front new n at walks =
      zip_step front xs new x n at (λ longer more walks'. zipped xs longer new (n + 1) more walks') (test x) refl walks

  -- a walk over the elements that pass relates each of these, and the others stay
  pub walk_zip : (xs new : List A) → Walks R (numbers test 0 xs) xs new → AllZip R xs new
  unfolding Zipped
  walk_zip xs new walks =
      let found = zipped xs [] new 0 refl walks in
      let P : List A → Type 0 = λ l. AllZip R xs l in
      subst P (sym found.1) found.2

all_fixed : {A : Type 0} (f : A → A) (xs : List A) → ((k : ℕ) (free : A) → k < length xs → f (get_or xs k free) ≡ get_or xs k free) → map f xs ≡ xs
all_fixed f [] fixed = refl
all_fixed f (x ∷ xs) fixed =
    let here : f x ≡ x = fixed 0 x (omega arith) in
    let rest : map f xs ≡ xs = all_fixed f xs (λ k free within. fixed (suc k) free (omega arith)) in
    cc

module _ {A : Type 0} (f : A → A) (twice : (x : A) → f (f x) ≡ f x) where
  -- a walk over such elements that all others are left as they are
  pub walk_map : (ns : List ℕ) (old new : List A) → Walks (λ a b. b ≡ f a) ns old new
      → ((k : ℕ) (free : A) → k < length old → list_any (nat_eq k) ns ≡ false → f (get_or old k free) ≡ get_or old k free) → new ≡ map f old
  walk_map [] old new walks fixed = walks ∙ sym (all_fixed f old (λ k free within. fixed k free within refl))
  walk_map (n ∷ ns) old new walks fixed =
      let next = walks.0 in
      let here : next ≡ f (get_or old n next) = walks.1 next in
      let settled : f next ≡ next = ap f here ∙ twice (get_or old n next) ∙ sym here in
      let rest : new ≡ map f (set old n next) = walk_map ns (set old n next) new walks.2 (λ k free within missing.
      ⊎_elim
      (λ (same : k ≡ n).
      let inside : n < length old = omega (arith, length-set old n next) in
      let P : ℕ → Type 0 = λ j. f (get_or (set old n next) j free) ≡ get_or (set old n next) j free in
      let got : get_or (set old n next) n free ≡ next = get_or-set_same old n next free inside in
      subst P (sym same) (ap f got ∙ settled ∙ sym got))
      (λ (other : k ≡ n → ⊥).
      let inside : k < length old = omega (arith, length-set old n next) in
      let got : get_or (set old n next) k free ≡ get_or old k free = get_or-set_other old n k next free other in
      let absent : list_any (nat_eq k) (n ∷ ns) ≡ false = or_from (nat_eq k n) (list_any (nat_eq k) ns) (ne_eqb k n other) missing in
      ap f got ∙ fixed k free inside absent ∙ sym got)
      (cases_eq k n)) in
      let same : map f (set old n next) ≡ map f old =
      map-set f old n next ∙ ap (set (map f old) n) (settled ∙ here) ∙ fixed_at n old next in
      rest ∙ same
    where
      -- an element of a mapped list is set to itself
      fixed_at : (n : ℕ) (old : List A) (free : A) → set (map f old) n (f (get_or old n free)) ≡ map f old
      fixed_at n [] free = refl
      fixed_at zero (x ∷ old) free = refl
      fixed_at (suc n) (x ∷ old) free = ap (λ l. f x ∷ l) (fixed_at n old free)

module _ {A : Type 0} (test : A → Bool) where
  numbers_by : (n : ℕ) (x : A) (xs : List A) → test x ≡ false → numbers test n (x ∷ xs) ≡ numbers test (n + 1) xs
  numbers_by n x xs fails = ap (λ b. cond b (n ∷ numbers test (n + 1) xs) (numbers test (n + 1) xs)) fails

  numbers_with : (n : ℕ) (x : A) (xs : List A) → test x ≡ true → numbers test n (x ∷ xs) ≡ n ∷ numbers test (n + 1) xs
  numbers_with n x xs passes = ap (λ b. cond b (n ∷ numbers test (n + 1) xs) (numbers test (n + 1) xs)) passes

  numbers_below : (n : ℕ) (xs : List A) → All (λ k. k < n + length xs) (numbers test n xs)
  numbers_below n [] = All-nil (λ k. k < n + 0)
  numbers_below n (x ∷ xs) =
      let Below : ℕ → Type 0 = λ k. k < n + length (x ∷ xs) in
      let rest : All Below (numbers test (n + 1) xs) =
      All-weaker (λ k. k < (n + 1) + length xs) Below (λ k h. omega arith) (numbers test (n + 1) xs) (numbers_below (n + 1) xs) in
      let P : List ℕ → Type 0 = λ l. All Below l in
      ⊎_elim
      (λ passes. subst P (sym (numbers_with n x xs passes)) (All-cons Below n (numbers test (n + 1) xs) (omega arith) rest))
      (λ fails. subst P (sym (numbers_by n x xs fails)) rest)
      (cases_Bool (test x))

  pub numbers_within : (xs : List A) → All (λ k. k < length xs) (numbers test 0 xs)
  numbers_within xs = All-weaker (λ k. k < 0 + length xs) (λ k. k < length xs) (λ k h. omega arith) (numbers test 0 xs) (numbers_below 0 xs)

  numbers_counted : (n : ℕ) (xs : List A) → length (numbers test n xs) ≡ count_by test xs
  numbers_counted n [] = refl
  numbers_counted n (x ∷ xs) =
      let rest = numbers_counted (n + 1) xs in
      ⊎_elim
      (λ passes. ap length (numbers_with n x xs passes) ∙ ap suc rest ∙ sym (count_with x xs passes))
      (λ fails. ap length (numbers_by n x xs fails) ∙ rest ∙ sym (count_without x xs fails))
      (cases_Bool (test x))
    where
      count_with : (x : A) (xs : List A) → test x ≡ true → count_by test (x ∷ xs) ≡ suc (count_by test xs)
      count_with x xs passes = sum_by-cons (λ y. cond (test y) 1 0) x xs ∙ ap (λ b. cond b 1 0 + count_by test xs) passes ∙ (let e : 1 + count_by test xs ≡ suc (count_by test xs) = omega arith in e)

      count_without : (x : A) (xs : List A) → test x ≡ false → count_by test (x ∷ xs) ≡ count_by test xs
      count_without x xs fails = sum_by-cons (λ y. cond (test y) 1 0) x xs ∙ ap (λ b. cond b 1 0 + count_by test xs) fails ∙ (let e : 0 + count_by test xs ≡ count_by test xs = omega arith in e)

  pub numbers_count : (xs : List A) → length (numbers test 0 xs) ≡ count_by test xs
  numbers_count xs = numbers_counted 0 xs

  numbers_push_from : (n : ℕ) (xs : List A) (y : A) → test y ≡ true → numbers test n (xs ++ y ∷ []) ≡ numbers test n xs ++ (n + length xs) ∷ []
  numbers_push_from n [] y passes = numbers_with n y [] passes ∙ ap (λ k. k ∷ []) (let e : n ≡ n + 0 = omega arith in e)
  numbers_push_from n (x ∷ xs) y passes =
      let at : (n + 1) + length xs ≡ n + length (x ∷ xs) = omega arith in
      let rest : numbers test (n + 1) (xs ++ y ∷ []) ≡ numbers test (n + 1) xs ++ (n + length (x ∷ xs)) ∷ [] =
      numbers_push_from (n + 1) xs y passes ∙ ap (λ k. numbers test (n + 1) xs ++ k ∷ []) at in
      ⊎_elim
      (λ here. numbers_with n x (xs ++ y ∷ []) here ∙ ap (λ l. n ∷ l) rest ∙ ap (λ l. l ++ (n + length (x ∷ xs)) ∷ []) (sym (numbers_with n x xs here)))
      (λ fails. numbers_by n x (xs ++ y ∷ []) fails ∙ rest ∙ ap (λ l. l ++ (n + length (x ∷ xs)) ∷ []) (sym (numbers_by n x xs fails)))
      (cases_Bool (test x))

  pub numbers_push : (xs : List A) (y : A) → test y ≡ true → numbers test 0 (xs ++ y ∷ []) ≡ numbers test 0 xs ++ length xs ∷ []
  numbers_push xs y passes = numbers_push_from 0 xs y passes ∙ ap (λ k. numbers test 0 xs ++ k ∷ []) (let e : 0 + length xs ≡ length xs = omega arith in e)

  -- one that does not pass adds no number
  numbers_push_none : (n : ℕ) (xs : List A) (y : A) → test y ≡ false → numbers test n (xs ++ y ∷ []) ≡ numbers test n xs
  numbers_push_none n [] y fails = numbers_by n y [] fails
  numbers_push_none n (x ∷ xs) y fails = ap (λ l. cond (test x) (n ∷ l) l) (numbers_push_none (n + 1) xs y fails)

  pub numbers_stay : (xs : List A) (y : A) → test y ≡ false → numbers test 0 (xs ++ y ∷ []) ≡ numbers test 0 xs
  numbers_stay xs y fails = numbers_push_none 0 xs y fails

  passes_here : (front : List A) (y : A) (ys : List A) → passes_at test (front ++ y ∷ ys) (length front) ≡ test y
  passes_here [] y ys = refl
  passes_here (x ∷ front) y ys = passes_here front y ys

  missing_from : (n : ℕ) (xs : List A) (k : ℕ) (free : A) → k < length xs → list_any (nat_eq (n + k)) (numbers test n xs) ≡ false → test (get_or xs k free) ≡ false
  missing_from n [] k free within missing = absurd (omega arith)
  missing_from n (x ∷ xs) zero free within missing =
      ⊎_elim
      (λ passes.
      let P : List ℕ → Type 0 = λ l. list_any (nat_eq (n + 0)) l ≡ false in
      let told = or_parts (nat_eq (n + 0) n) (list_any (nat_eq (n + 0)) (numbers test (n + 1) xs)) (subst P (numbers_with n x xs passes) missing) in
      absurd (false≢true (sym told.0 ∙ eq-eqb (n + 0) n (omega arith))))
      (λ fails. fails)
      (cases_Bool (test x))
  missing_from n (x ∷ xs) (suc k) free within missing =
      let e : n + suc k ≡ (n + 1) + k = omega arith in
      let P : List ℕ → Type 0 = λ l. list_any (nat_eq (n + suc k)) l ≡ false in
      let Q : ℕ → Type 0 = λ j. list_any (nat_eq j) (numbers test (n + 1) xs) ≡ false in
      let rest : list_any (nat_eq (n + suc k)) (numbers test (n + 1) xs) ≡ false =
      ⊎_elim
      (λ passes. (or_parts (nat_eq (n + suc k) n) (list_any (nat_eq (n + suc k)) (numbers test (n + 1) xs)) (subst P (numbers_with n x xs passes) missing)).1)
      (λ fails. subst P (numbers_by n x xs fails) missing)
      (cases_Bool (test x)) in
      missing_from (n + 1) xs k free (omega arith) (subst Q e rest)

  -- whose number is missing does not pass
  pub numbers_missing : (xs : List A) (k : ℕ) (free : A) → k < length xs → list_any (nat_eq k) (numbers test 0 xs) ≡ false → test (get_or xs k free) ≡ false
  numbers_missing xs k free within missing =
      let P : ℕ → Type 0 = λ j. list_any (nat_eq j) (numbers test 0 xs) ≡ false in
      missing_from 0 xs k free within (subst P (let e : k ≡ 0 + k = omega arith in e) missing)

  pub passes_got : (xs : List A) (k : ℕ) (free : A) → k < length xs → passes_at test xs k ≡ test (get_or xs k free)
  passes_got [] k free within = absurd (omega arith)
  passes_got (x ∷ xs) zero free within = refl
  passes_got (x ∷ xs) (suc k) free within = passes_got xs k free (omega arith)

module _ {A : Type 0} (test now : A → Bool) where
  numbers_left_from : (front : List A) (n : ℕ) (xs ys : List A) → length front ≡ n → AllZip (λ x y. test x ≡ false → now y ≡ false) xs ys
      → filter (passes_at now (front ++ ys)) (numbers test n xs) ≡ numbers now n ys
  numbers_left_from front n [] [] at fewer = refl
  numbers_left_from front n [] (y ∷ ys) at fewer = absurd fewer
  numbers_left_from front n (x ∷ xs) [] at fewer = absurd fewer
  numbers_left_from front n (x ∷ xs) (y ∷ ys) at fewer =
      let Keeps = passes_at now (front ++ y ∷ ys) in
      let longer : length (front ++ y ∷ []) ≡ n + 1 = omega (arith, at, length-append front (y ∷ [])) in
      let rest : filter Keeps (numbers test (n + 1) xs) ≡ numbers now (n + 1) ys =
      ap (λ l. filter (passes_at now l) (numbers test (n + 1) xs)) (sym (append_assoc front (y ∷ []) ys))
      ∙ numbers_left_from (front ++ y ∷ []) (n + 1) xs ys longer fewer.1 in
      let here : Keeps n ≡ now y = ap Keeps (sym at) ∙ passes_here now front y ys in
      ⊎_elim
      (λ passes. ap (filter Keeps) (numbers_with test n x xs passes)
      ∙ ap (λ b. cond b (n ∷ filter Keeps (numbers test (n + 1) xs)) (filter Keeps (numbers test (n + 1) xs))) here
      ∙ ap (λ l. cond (now y) (n ∷ l) l) rest)
      (λ fails. ap (filter Keeps) (numbers_by test n x xs fails) ∙ rest ∙ sym (numbers_by now n y ys (fewer.0 fails)))
      (cases_Bool (test x))

  -- of the numbers of those that passed one test those stay that pass the other now
  pub numbers_left : (xs ys : List A) → AllZip (λ x y. test x ≡ false → now y ≡ false) xs ys
      → filter (passes_at now ys) (numbers test 0 xs) ≡ numbers now 0 ys
  numbers_left xs ys fewer = numbers_left_from [] 0 xs ys refl fewer

-- a number that a filter does not have was not there, or does not pass
pub filter_misses : (p : ℕ → Bool) (ns : List ℕ) (k : ℕ) → list_any (nat_eq k) (filter p ns) ≡ false → (list_any (nat_eq k) ns ≡ false) ⊎ (p k ≡ false)
filter_misses p [] k missing = inl refl
filter_misses p (n ∷ ns) k missing =
    ⊎_elim
    (λ (passes : p n ≡ true).
    let P : List ℕ → Type 0 = λ l. list_any (nat_eq k) l ≡ false in
    let parts = or_parts (nat_eq k n) (list_any (nat_eq k) (filter p ns)) (subst P (ap (λ b. cond b (n ∷ filter p ns) (filter p ns)) passes) missing) in
    ⊎_elim (λ absent. inl (or_from (nat_eq k n) (list_any (nat_eq k) ns) parts.0 absent)) (λ fails. inr fails) (filter_misses p ns k parts.1))
    (λ (fails : p n ≡ false).
    let P : List ℕ → Type 0 = λ l. list_any (nat_eq k) l ≡ false in
    let rest = subst P (ap (λ b. cond b (n ∷ filter p ns) (filter p ns)) fails) missing in
    ⊎_elim
    (λ absent. ⊎_elim
    (λ (same : k ≡ n). inr (ap p same ∙ fails))
    (λ (other : k ≡ n → ⊥). inl (or_from (nat_eq k n) (list_any (nat_eq k) ns) (ne_eqb k n other) absent))
    (cases_eq k n))
    (λ stays. inr stays)
    (filter_misses p ns k rest))
    (cases_Bool (p n))

-- a loop that changes each element of a slice: what is left is as it was
first_left : {A : Type 0} (l : List A) (n : ℕ) (d : A) → get_or (drop n l) 0 d ≡ get_or l n d
first_left [] zero d = refl
first_left [] (suc n) d = refl
first_left (z ∷ l) zero d = refl
first_left (z ∷ l) (suc n) d = first_left l n d

pub left_here : {A : Type 0} (xs ys : List A) (i : ℕ) (d : A) → drop i ys ≡ drop i xs → get_or ys i d ≡ get_or xs i d
left_here xs ys i d rest = sym (first_left ys i d) ∙ ap (λ l. get_or l 0 d) rest ∙ first_left xs i d

pub left_more : {A : Type 0} (xs ys : List A) (i : ℕ) (y : A) → drop i ys ≡ drop i xs → drop (i + 1) (set ys i y) ≡ drop (i + 1) xs
left_more xs ys i y rest = drop-set-lt (i + 1) ys i y (let less : i < i + 1 = omega arith in less) ∙ drop_more_same ys xs i rest

pub zip_next : {A : Type 0} (R : A → A → Type 0) (xs ys : List A) (i : ℕ) (x y : A) → i < length xs → length ys ≡ length xs → AllZip R (take i xs) (take i ys)
    → drop i ys ≡ drop i xs → R (get_or ys i x) y → AllZip R (take (i + 1) xs) (take (i + 1) (set ys i y))
zip_next {A} R xs ys i x y within same so_far rest becomes =
    let inside : i < length ys = omega (arith, same, within) in
    let P : List A → Type 0 = λ l. AllZip R (take (i + 1) xs) l in
    let here : get_or ys i x ≡ get_or xs i (get_or ys i x) = left_here xs ys i x rest ∙ get_or_default xs i x (get_or ys i x) within in
    subst P (sym (take_more_set ys i y inside)) (all_zip_more R xs (take i ys) i (get_or ys i x) y within here so_far becomes)

pub count_left : {A : Type 0} (p : A → Bool) (xs : List A) (i : ℕ) (d : A) → i < length xs → count_by p (drop i xs) ≡ from_bool (p (get_or xs i d)) + count_by p (drop (i + 1) xs)
count_left p xs i d within =
    let here : drop i xs ≡ get_or xs i d ∷ drop (i + 1) xs = rw (add-one, drop-cons xs i d) refl in
    ap (count_by p) here ∙ sum_by-cons (λ y. cond (p y) 1 0) (get_or xs i d) (drop (i + 1) xs) ∙ ap (λ n. n + count_by p (drop (i + 1) xs)) (by (p (get_or xs i d)))
  where
    by : (b : Bool) → cond b 1 0 ≡ from_bool b
    by true = refl
    by false = refl
