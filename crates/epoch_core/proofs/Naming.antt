-- Which used ids speak of a satellite, by their keys.
use Rattle.std.proofs.Common.{◌≡◌, ℕ, Bool, true, false, ◌&&◌, ◌||◌, List, [], ◌∷◌, Option, Some, None, nat_eq, is_none, refl, sym, ap, ◌∙◌, eqb-true}
use Rattle.std.specs.List.{list_any, list_all}
use Rattle.std.proofs.lemmas.Bool.{and_parts, and_from}
use Rattle.gps_report.specs.declared.satellite.Satellite.{Satellite}
use Rattle.gps_report.specs.Fits.{is_id, is_named_system, where_given}
use Rattle.epoch_core.specs.declared.used_id.UsedId.{UsedId}
use Rattle.epoch_core.specs.Satellites.{same_used_id, same_number, speaks_of, system_of, used_id_by}
use Rattle.epoch_core.specs.Keys.{by_key, used_id_key}
use Rattle.epoch_core.specs.Tidy.{is_used_id}
use Rattle.epoch_core.proofs.Sameness.{any_same, used_ids_same}

-- ---- one id

pub id_is_there : (ids : List UsedId) (id : ℕ) (system : Option ℕ) (result : Bool) → list_all is_used_id ids ≡ true → where_given is_named_system system ≡ true
    → is_id id ≡ true → result ≡ list_any (λ a. nat_eq (used_id_key a) (used_id_key (used_id_by system id))) ids
    → result ≡ list_any (λ a. same_used_id a (used_id_by system id)) ids
id_is_there ids id system result fit named valid is =
    is ∙ any_same is_used_id (λ a. by_key used_id_key a (used_id_by system id)) (λ a. same_used_id a (used_id_by system id))
    (λ a f. used_ids_same a (used_id_by system id) f (and_from (is_id id) (where_given is_named_system system) valid named)) ids fit

none_such : (ids : List UsedId) → list_any (λ a. false) ids ≡ false
none_such [] = refl
none_such (a ∷ ids) = none_such ids

other_id : (a : UsedId) (id : ℕ) (system : Option ℕ) → is_used_id a ≡ true → is_id id ≡ false → same_used_id a (used_id_by system id) ≡ false
other_id a id system f out = split (same_used_id a (used_id_by system id)) refl
  where
    split : (b : Bool) → same_used_id a (used_id_by system id) ≡ b → b ≡ false
    split false e = refl
    split true e =
        let same = eqb-true a.id id (and_parts (same_number a.system system) (nat_eq a.id id) e).1 in
        let valid = (and_parts (is_id a.id) (where_given is_named_system a.system) f).0 in
        absurd (let h : true ≡ false = sym valid ∙ ap is_id same ∙ out in cc)

pub no_such_id : (ids : List UsedId) (id : ℕ) (system : Option ℕ) → list_all is_used_id ids ≡ true → is_id id ≡ false
    → false ≡ list_any (λ a. same_used_id a (used_id_by system id)) ids
no_such_id ids id system fit out =
    sym (any_same is_used_id (λ a. same_used_id a (used_id_by system id)) (λ a. false) (λ a f. other_id a id system f out) ids fit ∙ none_such ids)

-- ---- either of two

shuffle : (a b c d : Bool) → ((a || b) || (c || d)) ≡ ((a || c) || (b || d))
shuffle true b c d = refl
shuffle false true true d = refl
shuffle false true false d = refl
shuffle false false c d = refl

either : {X : Type 0} (p q : X → Bool) (xs : List X) → list_any (λ x. p x || q x) xs ≡ (list_any p xs || list_any q xs)
either p q [] = refl
either p q (x ∷ xs) = ap (λ b. (p x || q x) || b) (either p q xs) ∙ shuffle (p x) (q x) (list_any p xs) (list_any q xs)

abbrev has : Option ℕ → ℕ → UsedId → Bool
has system id a = same_used_id a (used_id_by system id)

-- ---- by the satellite's system

and_true : (e : Bool) → (e && true) ≡ e
and_true true = refl
and_true false = refl

or_false : (e : Bool) → (e || false) ≡ e
or_false true = refl
or_false false = refl

by_other : (e b : Bool) → (e && (false || false || b)) ≡ ((false && e) || (b && e))
by_other true true = refl
by_other true false = refl
by_other false true = refl
by_other false false = refl

both_and : (a b e : Bool) → ((a && e) || (b && e)) ≡ ((a || b) && e)
both_and true true true = refl
both_and true true false = refl
both_and true false true = refl
both_and true false false = refl
both_and false b e = refl

one_of_four : (a b c d : Bool) → (a || b || c || d) ≡ true → ((a || b) || (c || d)) ≡ true
one_of_four true b c d h = refl
one_of_four false true c d h = refl
one_of_four false false c d h = h

by_four : (a b c d e : Bool) → (a || b || c || d) ≡ true → e ≡ (((a && e) || (b && e)) || ((c && e) || (d && e)))
by_four a b c d e h =
    sym (ap (λ v. v || ((c && e) || (d && e))) (both_and a b e) ∙ ap (λ v. ((a || b) && e) || v) (both_and c d e)
    ∙ both_and (a || b) (c || d) e ∙ ap (λ v. v && e) (one_of_four a b c d h))

named_speaks : (g prn i : ℕ) (s : Option ℕ)
    → (nat_eq i prn && (is_none s || is_none (Some g) || same_number s (Some g))) ≡ ((same_number s None && nat_eq i prn) || (same_number s (Some g) && nat_eq i prn))
named_speaks g prn i None = and_true (nat_eq i prn) ∙ sym (or_false (nat_eq i prn))
named_speaks g prn i (Some k) = by_other (nat_eq i prn) (nat_eq k g)

differ : (k g : ℕ) → is_named_system k ≡ true → is_named_system g ≡ false → nat_eq k g ≡ false
differ k g named other = split (nat_eq k g) refl
  where
    split : (b : Bool) → nat_eq k g ≡ b → b ≡ false
    split false e = refl
    split true e = absurd (let h : true ≡ false = sym named ∙ ap is_named_system (eqb-true k g e) ∙ other in cc)

nothing_said : (e b : Bool) → b ≡ false → (e && (false || false || b)) ≡ (false && e)
nothing_said true b h = h
nothing_said false b h = refl

unnamed_speaks : (g prn i : ℕ) (s : Option ℕ) → is_named_system g ≡ false → where_given is_named_system s ≡ true
    → (nat_eq i prn && (is_none s || is_none (Some g) || same_number s (Some g))) ≡ (same_number s None && nat_eq i prn)
unnamed_speaks g prn i None other fits = and_true (nat_eq i prn)
unnamed_speaks g prn i (Some k) other fits = nothing_said (nat_eq i prn) (nat_eq k g) (differ k g fits other)

number_speaks : (prn i : ℕ) (s : Option ℕ) → where_given is_named_system s ≡ true
    → (nat_eq i prn && (is_none s || is_none {T = ℕ} None || same_number s None))
    ≡ ((same_number s None && nat_eq i prn) || (((same_number s (Some 0) && nat_eq i prn) || (same_number s (Some 2) && nat_eq i prn))
    || ((same_number s (Some 3) && nat_eq i prn) || (same_number s (Some 6) && nat_eq i prn))))
number_speaks prn i None fits = and_true (nat_eq i prn) ∙ sym (or_false (nat_eq i prn))
number_speaks prn i (Some k) fits =
    and_true (nat_eq i prn) ∙ by_four (nat_eq k 0) (nat_eq k 2) (nat_eq k 3) (nat_eq k 6) (nat_eq i prn) fits

system_fits : (a : UsedId) → is_used_id a ≡ true → where_given is_named_system a.system ≡ true
system_fits a f = (and_parts (is_id a.id) (where_given is_named_system a.system) f).1

abbrev says : ℕ → Option ℕ → UsedId → Bool
says id system a = nat_eq a.id id && (is_none a.system || is_none system || same_number a.system system)

pub by_named : (ids : List UsedId) (id g : ℕ) (result one other : Bool) → list_all is_used_id ids ≡ true → is_named_system g ≡ true
    → one ≡ list_any (λ a. same_used_id a (used_id_by None id)) ids → other ≡ list_any (λ a. same_used_id a (used_id_by (Some g) id)) ids
    → result ≡ (one || other)
    → result ≡ list_any (λ a. nat_eq a.id id && (is_none a.system || is_none (Some g) || same_number a.system (Some g))) ids
by_named ids id g result one other fit named e f is =
    is ∙ ap (λ v. v || other) e ∙ ap (λ v. list_any (has None id) ids || v) f
    ∙ sym (any_same is_used_id (says id (Some g)) (λ a. has None id a || has (Some g) id a)
    (λ a fits. named_speaks g id a.id a.system) ids fit ∙ either (has None id) (has (Some g) id) ids)

pub by_unnamed : (ids : List UsedId) (id g : ℕ) (result : Bool) → list_all is_used_id ids ≡ true → is_named_system g ≡ false
    → result ≡ list_any (λ a. same_used_id a (used_id_by None id)) ids
    → result ≡ list_any (λ a. nat_eq a.id id && (is_none a.system || is_none (Some g) || same_number a.system (Some g))) ids
by_unnamed ids id g result fit other e =
    e ∙ sym (any_same is_used_id (says id (Some g)) (has None id) (λ a fits. unnamed_speaks g id a.id a.system other (system_fits a fits)) ids fit)

pub by_number : (ids : List UsedId) (id : ℕ) (result zero two three six one some_of others both_of : Bool) → list_all is_used_id ids ≡ true
    → one ≡ list_any (λ a. same_used_id a (used_id_by None id)) ids
    → zero ≡ list_any (λ a. same_used_id a (used_id_by (Some 0) id)) ids → two ≡ list_any (λ a. same_used_id a (used_id_by (Some 2) id)) ids
    → three ≡ list_any (λ a. same_used_id a (used_id_by (Some 3) id)) ids → six ≡ list_any (λ a. same_used_id a (used_id_by (Some 6) id)) ids
    → some_of ≡ (zero || two) → others ≡ (three || six)
    → both_of ≡ (some_of || others) → result ≡ (one || both_of)
    → result ≡ list_any (λ a. nat_eq a.id id && (is_none a.system || is_none {T = ℕ} None || same_number a.system None)) ids
by_number ids id result zero two three six one some_of others both_of fit e0 ez e2 e3 e6 es eo eb is =
    let first : some_of ≡ list_any (λ a. has (Some 0) id a || has (Some 2) id a) ids =
    es ∙ ap (λ v. v || two) ez ∙ ap (λ v. list_any (has (Some 0) id) ids || v) e2 ∙ sym (either (has (Some 0) id) (has (Some 2) id) ids) in
    let last : others ≡ list_any (λ a. has (Some 3) id a || has (Some 6) id a) ids =
    eo ∙ ap (λ v. v || six) e3 ∙ ap (λ v. list_any (has (Some 3) id) ids || v) e6 ∙ sym (either (has (Some 3) id) (has (Some 6) id) ids) in
    let both : (some_of || others) ≡ list_any (λ a. (has (Some 0) id a || has (Some 2) id a) || (has (Some 3) id a || has (Some 6) id a)) ids =
    ap (λ v. v || others) first ∙ ap (λ v. list_any (λ a. has (Some 0) id a || has (Some 2) id a) ids || v) last
    ∙ sym (either (λ a. has (Some 0) id a || has (Some 2) id a) (λ a. has (Some 3) id a || has (Some 6) id a) ids) in
    is ∙ ap (λ v. v || both_of) e0 ∙ ap (λ v. list_any (has None id) ids || v) (eb ∙ both)
    ∙ sym (any_same is_used_id (says id None)
    (λ a. has None id a || ((has (Some 0) id a || has (Some 2) id a) || (has (Some 3) id a || has (Some 6) id a)))
    (λ a fits. number_speaks id a.id a.system (system_fits a fits)) ids fit
    ∙ either (has None id) (λ a. (has (Some 0) id a || has (Some 2) id a) || (has (Some 3) id a || has (Some 6) id a)) ids)
