-- Of equal elements the first: what is kept one by one is what the whole list gives.
use Rattle.std.proofs.Common.{◌≡◌, ℕ, Bool, true, false, cond, ◌||◌, ◌&&◌, not, List, [], ◌∷◌, ◌++◌, map, Option, Some, None, nat_eq, is_none, refl, sym, ap, ◌∙◌, eqb-true}
use Rattle.std.specs.List.{list_any, filter}
use Rattle.std.specs.Cmp.{IsEquivalence}
use Rattle.std.proofs.lemmas.Bool.{and_parts, and_from}
use Rattle.std.proofs.lemmas.List.{append_assoc, append-nil}
use Rattle.std.proofs.lemmas.List.Elements.{filter-append}
use Rattle.std.proofs.lemmas.Cmp.{nat_eq_equiv}
use Rattle.gps_report.specs.declared.satellite.Satellite.{Satellite}
use Rattle.epoch_core.specs.declared.used_id.UsedId.{UsedId}
use Rattle.epoch_core.specs.Satellites.{firsts, same_satellite, same_used_id, same_number, system_of, speaks_of, marked}
use Rattle.epoch_core.specs.Steps.{added, all_added}

-- a test whose elements all stay is not changed by the filter
any_filtered : {X : Type 0} (keep p : X → Bool) → ((z : X) → p z ≡ true → keep z ≡ true) → (xs : List X) → list_any p (filter keep xs) ≡ list_any p xs
any_filtered keep p stays [] = refl
any_filtered {X} keep p stays (x ∷ xs) = more keep p x xs (any_filtered keep p stays xs) (keep x) refl (p x) refl (stays x)
  where
    more : {X : Type 0} (keep p : X → Bool) (x : X) (xs : List X) → list_any p (filter keep xs) ≡ list_any p xs → (b : Bool) → keep x ≡ b → (a : Bool) → p x ≡ a → (p x ≡ true → keep x ≡ true) → list_any p (cond b (x ∷ filter keep xs) (filter keep xs)) ≡ (p x || list_any p xs)
    more keep p x xs ih true k a e s = ap (λ v. p x || v) ih
    more keep p x xs ih false k true e s = absurd (let t : true ≡ false = sym (s e) ∙ k in cc)
    more keep p x xs ih false k false e s = ih ∙ sym (ap (λ v. v || list_any p xs) e)

abbrev apart : {X : Type 0} → (X → X → Bool) → X → X → Bool
apart same y z = not (same y z)

far : {X : Type 0} (same : X → X → Bool) → IsEquivalence same → (y x z : X) → same y x ≡ false → same z x ≡ true → apart same y z ≡ true
far same laws y x z h e = elsewise (same y z) refl
  where
    elsewise : (b : Bool) → same y z ≡ b → not b ≡ true
    elsewise true g = absurd (let t : true ≡ false = sym e ∙ sym (laws.congr y z x g) ∙ h in cc)
    elsewise false g = refl

filter_last : {X : Type 0} (keep : X → Bool) (xs : List X) (x : X) (b : Bool) → keep x ≡ b → filter keep (xs ++ x ∷ []) ≡ filter keep xs ++ cond b (x ∷ []) []
filter_last keep xs x b h = filter-append keep xs (x ∷ []) ∙ ap (λ v. filter keep xs ++ cond v (x ∷ []) []) h

push_case : {X : Type 0} (same : X → X → Bool) → IsEquivalence same → (y x : X) (kept : List X) (b : Bool) → same y x ≡ b → (a : Bool) → list_any (λ z. same z x) kept ≡ a → filter (apart same y) (cond a kept (kept ++ x ∷ [])) ≡ cond (b || a) (filter (apart same y) kept) (filter (apart same y) kept ++ x ∷ [])
push_case same laws y x kept true h true e = refl
push_case same laws y x kept true h false e = filter_last (apart same y) kept x false (ap not h) ∙ append-nil (filter (apart same y) kept)
push_case same laws y x kept false h true e = refl
push_case same laws y x kept false h false e = filter_last (apart same y) kept x true (ap not h)

any_case : {X : Type 0} (same : X → X → Bool) → IsEquivalence same → (y x : X) (kept : List X) (b : Bool) → same y x ≡ b → (b || list_any (λ z. same z x) kept) ≡ (same y x || list_any (λ z. same z x) (filter (apart same y) kept))
any_case same laws y x kept true h = sym (ap (λ v. v || list_any (λ z. same z x) (filter (apart same y) kept)) h)
any_case same laws y x kept false h =
    sym (any_filtered (apart same y) (λ z. same z x) (λ z e. far same laws y x z h e) kept)
    ∙ sym (ap (λ v. v || list_any (λ z. same z x) (filter (apart same y) kept)) h)

cons_in : {X : Type 0} (c : Bool) (y : X) (ys zs : List X) → y ∷ cond c ys zs ≡ cond c (y ∷ ys) (y ∷ zs)
cons_in true y ys zs = refl
cons_in false y ys zs = refl

pub firsts_push : {X : Type 0} (same : X → X → Bool) → IsEquivalence same → (xs : List X) (x : X) → firsts same (xs ++ x ∷ []) ≡ added same (firsts same xs) x
firsts_push same laws [] x = refl
firsts_push same laws (y ∷ xs) x =
    let kept : List _ = firsts same xs in
    let a : Bool = list_any (λ z. same z x) kept in
    ap (λ v. y ∷ filter (apart same y) v) (firsts_push same laws xs x)
    ∙ ap (λ v. y ∷ v) (push_case same laws y x kept (same y x) refl a refl)
    ∙ cons_in (same y x || a) y (filter (apart same y) kept) (filter (apart same y) kept ++ x ∷ [])
    ∙ ap (λ c. cond c (y ∷ filter (apart same y) kept) (y ∷ filter (apart same y) kept ++ x ∷ [])) (any_case same laws y x kept (same y x) refl)

pub firsts_all : {X : Type 0} (same : X → X → Bool) → IsEquivalence same → (xs : List X) → (ys : List X) → firsts same (xs ++ ys) ≡ all_added same (firsts same xs) ys
firsts_all same laws xs [] = ap (firsts same) (append-nil xs)
firsts_all same laws xs (y ∷ ys) =
    ap (firsts same) (sym (append_assoc xs (y ∷ []) ys)) ∙ firsts_all same laws (xs ++ y ∷ []) ys
    ∙ ap (λ v. all_added same v ys) (firsts_push same laws xs y)

stays_apart : {X : Type 0} (same : X → X → Bool) (p : X → Bool) → ((x y : X) → same x y ≡ true → p x ≡ p y) → (x z : X) → p x ≡ false → p z ≡ true → (b : Bool) → same x z ≡ b → not b ≡ true
stays_apart same p respects x z h e true g = absurd (let t : true ≡ false = sym e ∙ sym (respects x z g) ∙ h in cc)
stays_apart same p respects x z h e false g = refl

first_case : {X : Type 0} (same : X → X → Bool) (p : X → Bool) → ((x y : X) → same x y ≡ true → p x ≡ p y) → (x : X) (kept : List X) (b : Bool) → p x ≡ b → (p x || list_any p (filter (apart same x) kept)) ≡ (p x || list_any p kept)
first_case same p respects x kept true h = ap (λ v. v || list_any p (filter (apart same x) kept)) h ∙ sym (ap (λ v. v || list_any p kept) h)
first_case same p respects x kept false h =
    ap (λ v. p x || v) (any_filtered (apart same x) p (λ z e. stays_apart same p respects x z h e (same x z) refl) kept)

-- a test that cannot tell equal ones apart finds the same among the first of them
pub any_firsts : {X : Type 0} (same : X → X → Bool) (p : X → Bool) → ((x y : X) → same x y ≡ true → p x ≡ p y) → (xs : List X) → list_any p (firsts same xs) ≡ list_any p xs
any_firsts same p respects [] = refl
any_firsts same p respects (x ∷ xs) =
    first_case same p respects x (firsts same xs) (p x) refl ∙ ap (λ v. p x || v) (any_firsts same p respects xs)

-- ---- satellites and used ids

number_equiv : IsEquivalence same_number
number_equiv = record { refl = number_refl; symm = number_symm; congr = number_congr }
  where
    number_refl : (a : Option ℕ) → same_number a a ≡ true
    number_refl None = refl
    number_refl (Some n) = nat_eq_equiv.refl n

    number_symm : (a b : Option ℕ) → same_number a b ≡ same_number b a
    number_symm None None = refl
    number_symm None (Some m) = refl
    number_symm (Some n) None = refl
    number_symm (Some n) (Some m) = nat_eq_equiv.symm n m

    number_congr : (a b c : Option ℕ) → same_number a b ≡ true → same_number a c ≡ same_number b c
    number_congr None None c h = refl
    number_congr None (Some m) c h = absurd (cc)
    number_congr (Some n) None c h = absurd (cc)
    number_congr (Some n) (Some m) c h = ap (λ v. same_number (Some v) c) (eqb-true n m h)

and_equiv : {X Y Z : Type 0} (f : X → Y) (g : X → Z) (e : Y → Y → Bool) (d : Z → Z → Bool) → IsEquivalence e → IsEquivalence d → IsEquivalence (λ (x y : X). e (f x) (f y) && d (g x) (g y))
and_equiv f g e d le ld = record {
  refl = λ x. and_from (e (f x) (f x)) (d (g x) (g x)) (le.refl (f x)) (ld.refl (g x));
  symm = λ x y. ap (λ v. v && d (g x) (g y)) (le.symm (f x) (f y)) ∙ ap (λ v. e (f y) (f x) && v) (ld.symm (g x) (g y));
  congr = λ x y z h. let p = and_parts (e (f x) (f y)) (d (g x) (g y)) h in
      ap (λ v. v && d (g x) (g z)) (le.congr (f x) (f y) (f z) p.0) ∙ ap (λ v. e (f y) (f z) && v) (ld.congr (g x) (g y) (g z) p.1);
}

pub satellite_equiv : IsEquivalence same_satellite
satellite_equiv =
    and_equiv (λ (s : Satellite). s) (λ (s : Satellite). s.signal) (λ (s t : Satellite). same_number (system_of s) (system_of t) && nat_eq s.prn t.prn) same_number
    (and_equiv system_of (λ (s : Satellite). s.prn) same_number nat_eq number_equiv nat_eq_equiv) number_equiv

pub used_ids_equiv : IsEquivalence same_used_id
used_ids_equiv = and_equiv (λ (a : UsedId). a.system) (λ (a : UsedId). a.id) same_number nat_eq number_equiv nat_eq_equiv

same_number_is : (a b : Option ℕ) → same_number a b ≡ true → a ≡ b
same_number_is None None h = refl
same_number_is None (Some m) h = absurd (cc)
same_number_is (Some n) None h = absurd (cc)
same_number_is (Some n) (Some m) h = ap Some (eqb-true n m h)

speaks_alike : (s : Satellite) (a b : UsedId) → same_used_id a b ≡ true → speaks_of s a ≡ speaks_of s b
speaks_alike s a b h =
    let p = and_parts (same_number a.system b.system) (nat_eq a.id b.id) h in
    ap (λ v. nat_eq v s.prn && (is_none a.system || is_none (system_of s) || same_number a.system (system_of s))) (eqb-true a.id b.id p.1)
    ∙ ap (λ v. nat_eq b.id s.prn && (is_none v || is_none (system_of s) || same_number v (system_of s))) (same_number_is a.system b.system p.0)

pub marked_alike : (used_ids : List UsedId) (s : Satellite) → marked used_ids s ≡ marked (firsts same_used_id used_ids) s
unfolding marked
marked_alike used_ids s =
    ap (λ v. record s { used = s.used || v }) (sym (any_firsts same_used_id (speaks_of s) (speaks_alike s) used_ids))

pub all_marked_alike : (used_ids : List UsedId) → (sats : List Satellite) → map (marked used_ids) sats ≡ map (marked (firsts same_used_id used_ids)) sats
all_marked_alike used_ids [] = refl
all_marked_alike used_ids (s ∷ sats) =
    ap (λ v. v ∷ map (marked used_ids) sats) (marked_alike used_ids s) ∙ ap (λ v. marked (firsts same_used_id used_ids) s ∷ v) (all_marked_alike used_ids sats)
