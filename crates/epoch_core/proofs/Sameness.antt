-- Satellites, and used ids, are the same exactly if their keys are; so lists that are kept once by key are those that are kept once by sameness.
use Rattle.std.proofs.Common.{◌≡◌, ℕ, zero, suc, ◌+◌, ◌-◌, ◌*◌, ◌<◌, ◌≤◌, inl, inr, Bool, true, false, cond, ◌&&◌, ◌||◌, List, [], ◌∷◌, ◌++◌, length, map, take, Option, Some, None, nat_eq, nat_le, is_none, is_some, option_map, refl, sym, ap, ◌∙◌, arith, eqb-true, eq-eqb, get_or}
use Rattle.std.specs.List.{list_any, list_all}
use Rattle.std.proofs.lemmas.Bool.Decides.{nat_tests}
use Rattle.std.proofs.lemmas.Bool.{and_parts, and_from, or_cases, leb-true, le-leb}
use Rattle.epoch_core.proofs.Added.{added_made, added_front}
use Rattle.std.proofs.lemmas.List.Folds.{list_all-append}
use Rattle.gps_report.specs.declared.satellite.Satellite.{Satellite}
use Rattle.gps_report.specs.Fits.{is_satellite, is_sentence_satellite, is_frame_satellite, where_given, is_id, is_named_system}
use Rattle.epoch_core.specs.declared.used_id.UsedId.{UsedId}
use Rattle.epoch_core.specs.Satellites.{same_satellite, same_used_id, same_number, system_of, used_id_by}
use Rattle.epoch_core.specs.Steps.{added, all_added}
use Rattle.epoch_core.specs.Keys.{by_key, satellite_key, used_id_key, system_place, system_number, signal_place}
use Rattle.epoch_core.specs.Tidy.{is_used_id}

-- ---- lists whose elements all fit

pub all_fit_front : {X : Type 0} (fits : X → Bool) → (n : ℕ) (xs : List X) → list_all fits xs ≡ true → list_all fits (take n xs) ≡ true
all_fit_front fits zero xs h = refl
all_fit_front fits (suc n) [] h = h
all_fit_front fits (suc n) (x ∷ xs) h =
    let p = and_parts (fits x) (list_all fits xs) h in and_from (fits x) (list_all fits (take n xs)) p.0 (all_fit_front fits n xs p.1)

pub any_same : {X : Type 0} (fits : X → Bool) (p q : X → Bool) → ((y : X) → fits y ≡ true → p y ≡ q y) → (xs : List X) → list_all fits xs ≡ true → list_any p xs ≡ list_any q xs
any_same fits p q agree [] h = refl
any_same fits p q agree (x ∷ xs) h =
    let f = and_parts (fits x) (list_all fits xs) h in
    ap (λ b. b || list_any p xs) (agree x f.0) ∙ ap (λ b. q x || b) (any_same fits p q agree xs f.1)

added_fit : {X : Type 0} (fits : X → Bool) (same : X → X → Bool) (kept : List X) (x : X) → list_all fits kept ≡ true → fits x ≡ true → list_all fits (added same kept x) ≡ true
added_fit {X} fits same kept x h f = split (list_any (λ y. same y x) kept)
  where
    split : (b : Bool) → list_all fits (cond b kept (kept ++ x ∷ [])) ≡ true
    split true = h
    split false = list_all-append fits kept (x ∷ []) ∙ and_from (list_all fits kept) (list_all fits (x ∷ [])) h (and_from (fits x) true f refl)

all_added_fit : {X : Type 0} (fits : X → Bool) (same : X → X → Bool) (kept : List X) → (xs : List X) → list_all fits kept ≡ true → list_all fits xs ≡ true → list_all fits (all_added same kept xs) ≡ true
all_added_fit fits same kept [] h f = h
all_added_fit fits same kept (x ∷ xs) h f =
    let p = and_parts (fits x) (list_all fits xs) f in all_added_fit fits same (added same kept x) xs (added_fit fits same kept x h p.0) p.1

all_added_same : {X : Type 0} (fits : X → Bool) (same like : X → X → Bool) → ((y x : X) → fits y ≡ true → fits x ≡ true → same y x ≡ like y x) → (kept : List X) → (xs : List X) → list_all fits kept ≡ true → list_all fits xs ≡ true → all_added same kept xs ≡ all_added like kept xs
all_added_same fits same like agree kept [] h f = refl
all_added_same fits same like agree kept (x ∷ xs) h f =
    let p = and_parts (fits x) (list_all fits xs) f in
    let e : added same kept x ≡ added like kept x =
    ap (λ b. cond b kept (kept ++ x ∷ [])) (any_same fits (λ y. same y x) (λ y. like y x) (λ y fy. agree y x fy p.0) kept h) in
    ap (λ v. all_added same v xs) e ∙ all_added_same fits same like agree (added like kept x) xs (added_fit fits like kept x h p.0) p.1

-- ---- keys

both_ways : (a b : Bool) → (a ≡ true → b ≡ true) → (b ≡ true → a ≡ true) → a ≡ b
both_ways true b f g = sym (f refl)
both_ways false true f g = g refl
both_ways false false f g = refl

same_number_is : (a b : Option ℕ) → same_number a b ≡ true → a ≡ b
same_number_is None None h = refl
same_number_is None (Some m) h = absurd (cc)
same_number_is (Some n) None h = absurd (cc)
same_number_is (Some n) (Some m) h = ap Some (eqb-true n m h)

is_same_number : (a b : Option ℕ) → a ≡ b → same_number a b ≡ true
is_same_number None None h = refl
is_same_number None (Some m) h = absurd (cc)
is_same_number (Some n) None h = absurd (cc)
is_same_number (Some n) (Some m) h = grind (arith, nat_tests)

system_place_is : (a b : Option ℕ) → system_place a ≤ 4 → system_place a ≡ system_place b → a ≡ b
system_place_is None None h e = refl
system_place_is None (Some m) h e = grind (arith, nat_tests)
system_place_is (Some n) None h e = grind (arith, nat_tests)
system_place_is (Some n) (Some m) h e = grind (arith, nat_tests)

signal_place_is : (a b : Option ℕ) → signal_place a ≡ signal_place b → a ≡ b
signal_place_is None None e = refl
signal_place_is None (Some m) e = absurd (omega arith)
signal_place_is (Some n) None e = absurd (omega arith)
signal_place_is (Some n) (Some m) e = let s : n ≡ m = omega arith in ap Some s

pub system_place_named : (o : Option ℕ) → where_given is_named_system o ≡ true → system_place o ≤ 4
system_place_named None h = omega arith
system_place_named (Some g) h = grind (arith, nat_tests)

used_ids_apart : (p q i j : ℕ) → 1 ≤ i → i ≤ 999 → 1 ≤ j → j ≤ 999 → p * 999 + (i - 1) ≡ q * 999 + (j - 1) → (p ≡ q) × (i ≡ j)
used_ids_apart p q i j a b c d e = let place : p ≡ q = omega arith in (place, omega arith)

within_id : (n : ℕ) → is_id n ≡ true → (1 ≤ n) × (n ≤ 999)
within_id n h = let p = and_parts (nat_le 1 n) (nat_le n 999) h in (leb-true 1 n p.0, leb-true n 999 p.1)

pub used_ids_same : (a b : UsedId) → is_used_id a ≡ true → is_used_id b ≡ true → by_key used_id_key a b ≡ same_used_id a b
unfolding used_id_key
used_ids_same a b f g =
    let fa = and_parts (is_id a.id) (where_given is_named_system a.system) f in
    let fb = and_parts (is_id b.id) (where_given is_named_system b.system) g in
    let ia = within_id a.id fa.0 in
    let ib = within_id b.id fb.0 in
    both_ways (by_key used_id_key a b) (same_used_id a b)
    (λ h.
    let e = used_ids_apart (system_place a.system) (system_place b.system) a.id b.id ia.0 ia.1 ib.0 ib.1 (eqb-true _ _ h) in
    and_from (same_number a.system b.system) (nat_eq a.id b.id)
    (is_same_number a.system b.system (system_place_is a.system b.system (system_place_named a.system fa.1) e.0)) (eq-eqb a.id b.id e.1))
    (λ h.
    let p = and_parts (same_number a.system b.system) (nat_eq a.id b.id) h in
    let e = same_number_is a.system b.system p.0 in
    let i = eqb-true a.id b.id p.1 in
    eq-eqb _ _ (ap (λ v. system_place v * 999 + (a.id - 1)) e ∙ ap (λ v. system_place b.system * 999 + (v - 1)) i))

-- a satellite that sentences can name
abbrev pub is_near : Satellite → Bool
is_near s = nat_le 1 s.prn && nat_le s.prn 999 && nat_le (system_place (system_of s)) 4

low_signal : (o : Option ℕ) → where_given (λ n. nat_le n 15) o ≡ true → signal_place o ≤ 16
low_signal None h = omega arith
low_signal (Some n) h = let l = leb-true n 15 h in omega arith

no_signal : {X : Type 0} (o : Option X) → is_none o ≡ true → o ≡ None
no_signal None h = refl
no_signal (Some x) h = absurd (cc)

named_gnss : (prn : ℕ) (o : Option (ℕ × ℕ)) → where_given (λ g. is_named_system g.0 && nat_eq g.1 prn) o ≡ true → where_given is_named_system (option_map (λ g. g.0) o) ≡ true
named_gnss prn None h = refl
named_gnss prn (Some g) h = (and_parts (is_named_system g.0) (nat_eq g.1 prn) h).0

-- how a satellite of a frame is numbered
record IsFramed (prn : ℕ) (system signal : Option ℕ) : Type 0 where
  number : ℕ
  id : ℕ
  system_is : system ≡ Some number
  low : number ≤ 255
  id_low : id ≤ 255
  made : prn ≡ id + 100 * number
  silent : signal ≡ None

framed : (prn : ℕ) (o : Option (ℕ × ℕ)) (signal : Option ℕ) → (is_some o && where_given (λ g. nat_le g.0 255 && nat_le g.1 255 && nat_eq prn (g.1 + 100 * g.0)) o && is_none signal) ≡ true → IsFramed prn (option_map (λ g. g.0) o) signal
framed prn None signal h = absurd (cc)
framed prn (Some g) signal h =
    let p = and_parts (nat_le g.0 255 && nat_le g.1 255 && nat_eq prn (g.1 + 100 * g.0)) (is_none signal) h in
    let q = and_parts (nat_le g.0 255 && nat_le g.1 255) (nat_eq prn (g.1 + 100 * g.0)) p.0 in
    let r = and_parts (nat_le g.0 255) (nat_le g.1 255) q.0 in
    record {
      number = g.0;
      id = g.1;
      system_is = refl;
      low = leb-true g.0 255 r.0;
      id_low = leb-true g.1 255 r.1;
      made = eqb-true prn (g.1 + 100 * g.0) q.1;
      silent = no_signal signal p.1;
    }

sentence_near : (s : Satellite) → is_sentence_satellite s ≡ true → (is_near s ≡ true) × (signal_place s.signal ≤ 16)
sentence_near s h =
    let p = and_parts (is_id s.prn && where_given (λ g. is_named_system g.0 && nat_eq g.1 s.prn) s.gnss) (where_given (λ n. nat_le n 15) s.signal) h in
    let q = and_parts (is_id s.prn) (where_given (λ g. is_named_system g.0 && nat_eq g.1 s.prn) s.gnss) p.0 in
    (and_from (is_id s.prn) (nat_le (system_place (system_of s)) 4) q.0 (le-leb _ 4 (system_place_named (system_of s) (named_gnss s.prn s.gnss q.1))), low_signal s.signal p.1)

record IsNumbered (s : Satellite) : Type 0 where
  low : signal_place s.signal ≤ 16
  far : is_near s ≡ false → IsFramed s.prn (system_of s) s.signal

numbered : (s : Satellite) → is_satellite s ≡ true → IsNumbered s
numbered s h =
    elim (or_cases (is_sentence_satellite s) (is_frame_satellite s) h) [
      | inl a ↦ let n = sentence_near s a in record { low = n.1; far = λ f. absurd (let clash : true ≡ false = sym n.0 ∙ f in cc) }
      | inr b ↦ let n = framed s.prn s.gnss s.signal b in record { low = let z : signal_place s.signal ≡ 0 = ap signal_place n.silent in omega arith; far = λ f. n }
    ]

abbrev near_key : Satellite → ℕ
near_key s = (system_place (system_of s) * 999 + (s.prn - 1)) * 17 + signal_place s.signal

abbrev far_key : Satellite → ℕ
far_key s = 84_915 + (system_number (system_of s) * 256 + (s.prn - 100 * system_number (system_of s)))

record IsNear (s : Satellite) : Type 0 where
  from : 1 ≤ s.prn
  to : s.prn ≤ 999
  place : system_place (system_of s) ≤ 4

near : (s : Satellite) → is_near s ≡ true → IsNear s
near s h =
    let p = and_parts (nat_le 1 s.prn && nat_le s.prn 999) (nat_le (system_place (system_of s)) 4) h in
    let q = and_parts (nat_le 1 s.prn) (nat_le s.prn 999) p.0 in
    record { from = leb-true 1 s.prn q.0; to = leb-true s.prn 999 q.1; place = leb-true _ 4 p.1 }

near_low : (s : Satellite) → IsNumbered s → IsNear s → near_key s < 84_915
near_low s n near = let l = n.low in let p = near.place in let t = near.to in omega arith

far_is : (s : Satellite) → (f : IsFramed s.prn (system_of s) s.signal) → far_key s ≡ 84_915 + (f.number * 256 + f.id)
far_is s f =
    let e : system_number (system_of s) ≡ f.number = ap system_number f.system_is in
    let i : s.prn - 100 * f.number ≡ f.id = let m = f.made in omega arith in
    ap (λ v. 84_915 + (v * 256 + (s.prn - 100 * v))) e ∙ ap (λ v. 84_915 + (f.number * 256 + v)) i

seventeen : (x y k l : ℕ) → k ≤ 16 → l ≤ 16 → x * 17 + k ≡ y * 17 + l → x ≡ y
seventeen x y k l a b h = omega arith

near_apart : (s t : Satellite) → IsNumbered s → IsNumbered t → IsNear s → IsNear t → near_key s ≡ near_key t → (system_place (system_of s) ≡ system_place (system_of t)) × (s.prn ≡ t.prn) × (signal_place s.signal ≡ signal_place t.signal)
near_apart s t n m a b e =
    parts (system_place (system_of s)) (system_place (system_of t)) s.prn t.prn (signal_place s.signal) (signal_place t.signal) n.low m.low a.from a.to b.from b.to e
  where
    parts : (p q i j k l : ℕ) → k ≤ 16 → l ≤ 16 → 1 ≤ i → i ≤ 999 → 1 ≤ j → j ≤ 999 → (p * 999 + (i - 1)) * 17 + k ≡ (q * 999 + (j - 1)) * 17 + l → (p ≡ q) × (i ≡ j) × (k ≡ l)
    parts p q i j k l a b c d e f h =
        let same : p * 999 + (i - 1) ≡ q * 999 + (j - 1) = seventeen (p * 999 + (i - 1)) (q * 999 + (j - 1)) k l a b h in
        let r = used_ids_apart p q i j c d e f same in (r.0, r.1, let z : k ≡ l = omega arith in z)

same_from_parts : (s t : Satellite) → system_of s ≡ system_of t → s.prn ≡ t.prn → s.signal ≡ t.signal → same_satellite s t ≡ true
same_from_parts s t e i g =
    and_from (same_number (system_of s) (system_of t) && nat_eq s.prn t.prn) (same_number s.signal t.signal)
    (and_from (same_number (system_of s) (system_of t)) (nat_eq s.prn t.prn) (is_same_number (system_of s) (system_of t) e) (eq-eqb s.prn t.prn i))
    (is_same_number s.signal t.signal g)

same_by_key : (s t : Satellite) → IsNumbered s → IsNumbered t → (bs bt : Bool) → is_near s ≡ bs → is_near t ≡ bt → cond bs (near_key s) (far_key s) ≡ cond bt (near_key t) (far_key t) → same_satellite s t ≡ true
same_by_key s t n m true true a b e =
    let ns = near s a in
    let p = near_apart s t n m ns (near t b) e in
    same_from_parts s t (system_place_is (system_of s) (system_of t) ns.place p.0) p.1 (signal_place_is s.signal t.signal p.2)
same_by_key s t n m true false a b e =
    let l = near_low s n (near s a) in let f = far_is t (m.far b) in absurd (omega (arith, l, f, e))
same_by_key s t n m false true a b e =
    let l = near_low t m (near t b) in let f = far_is s (n.far a) in absurd (omega (arith, l, f, e))
same_by_key s t n m false false a b e =
    let fs = n.far a in
    let ft = m.far b in
    let h : 84_915 + (fs.number * 256 + fs.id) ≡ 84_915 + (ft.number * 256 + ft.id) = sym (far_is s fs) ∙ e ∙ far_is t ft in
    let numbers : fs.number ≡ ft.number = let l = fs.id_low in let r = ft.id_low in omega arith in
    let ids : fs.id ≡ ft.id = omega arith in
    same_from_parts s t (fs.system_is ∙ ap Some numbers ∙ sym ft.system_is)
    (let x = fs.made in let y = ft.made in omega arith) (fs.silent ∙ sym ft.silent)

satellite_same : (s t : Satellite) → is_satellite s ≡ true → is_satellite t ≡ true → by_key satellite_key s t ≡ same_satellite s t
unfolding satellite_key
satellite_same s t f g =
    both_ways (by_key satellite_key s t) (same_satellite s t)
    (λ h. same_by_key s t (numbered s f) (numbered t g) (is_near s) (is_near t) refl refl (eqb-true _ _ h))
    (λ h.
    let p = and_parts (same_number (system_of s) (system_of t) && nat_eq s.prn t.prn) (same_number s.signal t.signal) h in
    let q = and_parts (same_number (system_of s) (system_of t)) (nat_eq s.prn t.prn) p.0 in
    eq-eqb _ _ (same_key (system_of s) (system_of t) s.prn t.prn s.signal t.signal (same_number_is _ _ q.0) (eqb-true s.prn t.prn q.1) (same_number_is _ _ p.1)))
  where
    key_by : Option ℕ → ℕ → Option ℕ → ℕ
    key_by system prn signal =
        cond (nat_le 1 prn && nat_le prn 999 && nat_le (system_place system) 4)
        ((system_place system * 999 + (prn - 1)) * 17 + signal_place signal) (84_915 + (system_number system * 256 + (prn - 100 * system_number system)))

    same_key : (a b : Option ℕ) (i j : ℕ) (x y : Option ℕ) → a ≡ b → i ≡ j → x ≡ y → key_by a i x ≡ key_by b j y
    same_key a b i j x y e h k = ap (λ v. key_by v i x) e ∙ ap (λ v. key_by b v x) h ∙ ap (λ v. key_by b j v) k

pub used_ids_key_below : (a : UsedId) → is_used_id a ≡ true → used_id_key a < 4_995
unfolding used_id_key
used_ids_key_below a f =
    let p = and_parts (is_id a.id) (where_given is_named_system a.system) f in
    let i = within_id a.id p.0 in
    let l = system_place_named a.system p.1 in omega arith

pub satellite_key_below : (s : Satellite) → is_satellite s ≡ true → satellite_key s < 150_451
unfolding satellite_key
satellite_key_below s f = split (is_near s) refl
  where
    split : (b : Bool) → is_near s ≡ b → cond b (near_key s) (far_key s) < 150_451
    split true h = let l = near_low s (numbered s f) (near s h) in omega arith
    split false h =
        let r = (numbered s f).far h in let e = far_is s r in let l = r.low in let m = r.id_low in omega arith

-- ---- what the code adds

pub sats_added : (kept now xs : List Satellite) → list_all is_satellite kept ≡ true → list_all is_satellite xs ≡ true → now ≡ all_added (by_key satellite_key) kept xs → now ≡ all_added same_satellite kept xs
sats_added kept now xs h f e = e ∙ all_added_same is_satellite (by_key satellite_key) same_satellite satellite_same kept xs h f

pub sats_fit : (kept now xs : List Satellite) → list_all is_satellite kept ≡ true → list_all is_satellite xs ≡ true → now ≡ all_added (by_key satellite_key) kept xs → list_all is_satellite now ≡ true
sats_fit kept now xs h f e = ap (list_all is_satellite) e ∙ all_added_fit is_satellite (by_key satellite_key) kept xs h f

ids_fit : (ids : List ℕ) (system : Option ℕ) → list_all is_id ids ≡ true → where_given is_named_system system ≡ true → list_all is_used_id (map (used_id_by system) ids) ≡ true
ids_fit [] system f n = refl
ids_fit (i ∷ ids) system f n =
    let p = and_parts (is_id i) (list_all is_id ids) f in
    and_from (is_id i && where_given is_named_system system) _ (and_from (is_id i) (where_given is_named_system system) p.0 n) (ids_fit ids system p.1 n)

pub used_ids_added : (kept now : List UsedId) (ids : List ℕ) (system : Option ℕ) → list_all is_used_id kept ≡ true → list_all is_id ids ≡ true → where_given is_named_system system ≡ true → now ≡ all_added (by_key used_id_key) kept (map (used_id_by system) ids) → now ≡ all_added same_used_id kept (map (used_id_by system) ids)
used_ids_added kept now ids system h f n e = e ∙ all_added_same is_used_id (by_key used_id_key) same_used_id used_ids_same kept (map (used_id_by system) ids) h (ids_fit ids system f n)

pub used_ids_fit : (kept now : List UsedId) (ids : List ℕ) (system : Option ℕ) → list_all is_used_id kept ≡ true → list_all is_id ids ≡ true → where_given is_named_system system ≡ true → now ≡ all_added (by_key used_id_key) kept (map (used_id_by system) ids) → list_all is_used_id now ≡ true
used_ids_fit kept now ids system h f n e = ap (list_all is_used_id) e ∙ all_added_fit is_used_id (by_key used_id_key) kept (map (used_id_by system) ids) h (ids_fit ids system f n)

get_or_any : {X : Type 0} → (xs : List X) (i : ℕ) (d e : X) → i < length xs → get_or xs i d ≡ get_or xs i e
get_or_any [] i d e h = absurd (omega arith)
get_or_any (x ∷ xs) zero d e h = refl
get_or_any (x ∷ xs) (suc i) d e h = let l : i < length xs = omega arith in get_or_any xs i d e l

pub ids_next : (kept now new : List UsedId) (ids : List ℕ) (system : Option ℕ) (i : ℕ) → now ≡ all_added (by_key used_id_key) kept (map (used_id_by system) (take i ids)) → i < length ids → new ≡ added (by_key used_id_key) now (used_id_by system (get_or ids i 0)) → new ≡ all_added (by_key used_id_key) kept (map (used_id_by system) (take (i + 1) ids))
ids_next kept now new ids system i so_far within one =
    added_made (used_id_by system) (by_key used_id_key) kept now new ids i (get_or ids i 0) so_far within (get_or_any ids i 0 (get_or ids i 0) within) one

pub ids_front : (kept now failed new : List UsedId) (ids : List ℕ) (system : Option ℕ) (n : ℕ) → now ≡ all_added (by_key used_id_key) kept (map (used_id_by system) ids) → failed ≡ now → n ≡ length kept → new ≡ take n failed → new ≡ kept
ids_front kept now failed new ids system n so_far e len back =
    added_front (by_key used_id_key) kept failed new (map (used_id_by system) ids) n (e ∙ so_far) len back
