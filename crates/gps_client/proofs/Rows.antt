-- Readings that are exact, and how they are joined: what is read is in range and is there, and what is there is read.
use Rattle.std.proofs.Common.{◌≡◌, ℕ, Bool, true, false, cond, not, ◌&&◌, List, [], ◌∷◌, ◌++◌, Option, Some, None, refl, sym, ap, ◌∙◌, subst, append_assoc, length, take, drop, take-append-drop}
use Rattle.std.specs.Prelude.{◌==◌, if◌then◌else◌}
use Rattle.std.specs.List.{list_all}
use Rattle.std.specs.Str.{bytes_eq}
use Rattle.std.specs.Cmp.Lexicographic.{bytes_decides}
use Rattle.std.proofs.lemmas.List.{take_at, drop_at}
use Rattle.std.proofs.lemmas.Bool.{and_parts, and_from, cond-true}
use Rattle.gps_client.specs.Reading.{Reading, ◌>>=◌, ◌then◌, made, such, behind, is_number_byte}

-- a step that gave something
pub bind_some : {A B : Type 0} (r : Option A) (f : A → Option B) (y : B) → (r >>= f) ≡ Some y → (x : A) × (r ≡ Some x) × (f x ≡ Some y)
bind_some (Some x) f y e = (x, refl, e)
bind_some None f y e = absurd cc

pub pair_same : {X : Type 0} (x y : X) (a b : List ℕ) → Path (Option (X × List ℕ)) (Some (x, a)) (Some (y, b)) → (x ≡ y) × (a ≡ b)
pair_same {X} x y a b e = let same : Path (X × List ℕ) (x, a) (y, b) = cc in (ap (λ (p : X × List ℕ). p.0) same, ap (λ (p : X × List ℕ). p.1) same)

-- bytes at the head
pub behind_sound : (head text rest : List ℕ) → behind head text ≡ Some rest → text ≡ head ++ rest
unfolding behind
behind_sound head text rest e = by_test (bytes_eq (take (length head) text) head) refl e
  where
    by_test : (b : Bool) → bytes_eq (take (length head) text) head ≡ b → cond b (Some (drop (length head) text)) None ≡ Some rest → text ≡ head ++ rest
    by_test true test e =
        let is : take (length head) text ≡ head = (bytes_decides (take (length head) text) head).0 test in
        let rest_is : drop (length head) text ≡ rest = cc in
        sym (take-append-drop (length head) text) ∙ (ap (λ t. t ++ drop (length head) text) is ∙ ap (λ t. head ++ t) rest_is)
    by_test false test e = absurd cc

pub behind_full : (head rest : List ℕ) → behind head (head ++ rest) ≡ Some rest
unfolding behind
behind_full head rest =
    let test : bytes_eq (take (length head) (head ++ rest)) head ≡ true = (bytes_decides (take (length head) (head ++ rest)) head).1 (take_at head rest (length head) refl) in
    cond-true (bytes_eq (take (length head) (head ++ rest)) head) (Some (drop (length head) (head ++ rest))) None test ∙ ap (λ t. Some t) (drop_at head rest (length head) refl)

-- what may follow a value: no byte of a number, and none of these labels
abbrev pub is_end : List ℕ → Bool
is_end [] = true
is_end (c ∷ text) = not (is_number_byte c)

abbrev pub AllClear : List (List ℕ) → List ℕ → Type 0
AllClear [] rest = Unit {0}
AllClear (l ∷ labels) rest = (behind l rest ≡ None) × AllClear labels rest

abbrev pub After : List (List ℕ) → List ℕ → Type 0
After labels rest = (is_end rest ≡ true) × AllClear labels rest

-- two texts that part within both
abbrev pub part : List ℕ → List ℕ → Bool
part [] m = false
part (a ∷ l) [] = false
part (a ∷ l) (b ∷ m) = if b == a then part l m else true

abbrev pub all_part : List (List ℕ) → List (List ℕ) → Bool
all_part labels [] = true
all_part labels (m ∷ ms) = list_all (λ l. part l m) labels && all_part labels ms

parted : (l m rest : List ℕ) → part l m ≡ true → bytes_eq (take (length l) (m ++ rest)) l ≡ false
parted [] m rest e = absurd cc
parted (a ∷ l) [] rest e = absurd cc
parted (a ∷ l) (b ∷ m) rest e = by_test (b == a) e (parted l m rest)
  where
    by_test : (c : Bool) → cond c (part l m) true ≡ true → (part l m ≡ true → bytes_eq (take (length l) (m ++ rest)) l ≡ false) → (c && bytes_eq (take (length l) (m ++ rest)) l) ≡ false
    by_test true e more = more e
    by_test false e more = refl

clear_of : (l m rest : List ℕ) → part l m ≡ true → behind l (m ++ rest) ≡ None
unfolding behind
clear_of l m rest e = ap (λ b. cond b (Some (drop (length l) (m ++ rest))) None) (parted l m rest e)

pub all_clear : (labels : List (List ℕ)) (m rest : List ℕ) → list_all (λ l. part l m) labels ≡ true → AllClear labels (m ++ rest)
all_clear [] m rest e = tt
all_clear (l ∷ labels) m rest e =
    let parts = and_parts (part l m) (list_all (λ l. part l m) labels) e in
    (clear_of l m rest parts.0, all_clear labels m rest parts.1)

-- labels that part from a text are clear of it, whatever follows
pub after_label : (labels : List (List ℕ)) (m rest : List ℕ) → list_all (λ l. part l m) labels ≡ true → is_end (m ++ rest) ≡ true → After labels (m ++ rest)
after_label labels m rest apart end = (end, all_clear labels m rest apart)

both_part : (labels ms ns : List (List ℕ)) → all_part labels (ms ++ ns) ≡ true → (all_part labels ms ≡ true) × (all_part labels ns ≡ true)
both_part labels [] ns e = (refl, e)
both_part labels (m ∷ ms) ns e =
    let parts = and_parts (list_all (λ l. part l m) labels) (all_part labels (ms ++ ns)) e in
    let more = both_part labels ms ns parts.1 in
    (and_from (list_all (λ l. part l m) labels) (all_part labels ms) parts.0 more.0, more.1)

both_clear : (ks js : List (List ℕ)) (rest : List ℕ) → AllClear (ks ++ js) rest → AllClear ks rest × AllClear js rest
both_clear [] js rest h = (tt, h)
both_clear (k ∷ ks) js rest h = let more = both_clear ks js rest h.1 in ((h.0, more.0), more.1)

-- a reading of values in a range by their text, if what follows is clear of some labels
pub record IsPart {X : Type 0} (labels : List (List ℕ)) (R : X → Type 0) (text : X → List ℕ) (read : Reading X) : Type 0 where
  pub sound : (b : List ℕ) (x : X) (rest : List ℕ) → read b ≡ Some (x, rest) → R x × (b ≡ text x ++ rest)
  pub full : (x : X) (rest : List ℕ) → R x → After labels rest → read (text x ++ rest) ≡ Some (x, rest)

-- one whose text leaves what follows clear of other labels
pub record IsRow {X : Type 0} (labels : List (List ℕ)) (R : X → Type 0) (text : X → List ℕ) (read : Reading X) : Type 0 where
  pub is_part : IsPart labels R text read
  pub keeps : (others : List (List ℕ)) → all_part others labels ≡ true → (x : X) (rest : List ℕ) → R x → After others rest → After others (text x ++ rest)

-- one that may come before anything
pub record IsWhole {X : Type 0} (R : X → Type 0) (text : X → List ℕ) (read : Reading X) : Type 0 where
  pub sound : (b : List ℕ) (x : X) (rest : List ℕ) → read b ≡ Some (x, rest) → R x × (b ≡ text x ++ rest)
  pub full : (x : X) (rest : List ℕ) → R x → read (text x ++ rest) ≡ Some (x, rest)

pub whole_part : {X : Type 0} {R : X → Type 0} {text : X → List ℕ} {read : Reading X} → IsWhole R text read → (labels : List (List ℕ)) → IsPart labels R text read
whole_part w labels = record { sound = w.sound; full = λ x rest r after. w.full x rest r }

-- one after another
pub part_then : {X Y : Type 0} {ks js : List (List ℕ)} {R : X → Type 0} {S : Y → Type 0} {t : X → List ℕ} {u : Y → List ℕ} {r : Reading X} {s : Reading Y}
    → IsPart ks R t r → IsRow js S u s → all_part ks js ≡ true → IsPart (ks ++ js) (λ (p : X × Y). R p.0 × S p.1) (λ (p : X × Y). t p.0 ++ u p.1) (r then s)
part_then {X} {Y} {ks} {js} {R} {S} {t} {u} {r} {s} first second apart = record { sound = sound; full = full }
  where
    sound : (b : List ℕ) (p : X × Y) (rest : List ℕ) → (r then s) b ≡ Some (p, rest) → (R p.0 × S p.1) × (b ≡ (t p.0 ++ u p.1) ++ rest)
    sound b p rest e =
        let a = bind_some (r b) (λ x. s x.1 >>= λ y. Some ((x.0, y.0), y.1)) (p, rest) e in
        let c = bind_some (s a.0.1) (λ y. Some ((a.0.0, y.0), y.1)) (p, rest) a.2 in
        let same = pair_same (a.0.0, c.0.0) p c.0.1 rest c.2 in
        let f = first.sound b a.0.0 a.0.1 a.1 in
        let g = second.is_part.sound a.0.1 c.0.0 c.0.1 c.1 in
        let text : b ≡ (t a.0.0 ++ u c.0.0) ++ c.0.1 = f.1 ∙ (ap (λ z. t a.0.0 ++ z) g.1 ∙ sym (append_assoc (t a.0.0) (u c.0.0) c.0.1)) in
        subst (λ (q : X × Y). (R q.0 × S q.1) × (b ≡ (t q.0 ++ u q.1) ++ rest)) same.0 ((f.0, g.0), text ∙ ap (λ z. (t a.0.0 ++ u c.0.0) ++ z) same.1)

    full : (p : X × Y) (rest : List ℕ) → R p.0 × S p.1 → After (ks ++ js) rest → (r then s) ((t p.0 ++ u p.1) ++ rest) ≡ Some (p, rest)
    full p rest is after =
        let clear = both_clear ks js rest after.1 in
        let behind_first : After ks (u p.1 ++ rest) = second.keeps ks apart p.1 rest is.1 (after.0, clear.0) in
        ap (λ b. (r then s) b) (append_assoc (t p.0) (u p.1) rest)
        ∙ (ap (λ (o : Option (X × List ℕ)). o >>= λ x. s x.1 >>= λ y. Some ((x.0, y.0), y.1)) (first.full p.0 (u p.1 ++ rest) is.0 behind_first)
        ∙ ap (λ (o : Option (Y × List ℕ)). o >>= λ y. Some ((p.0, y.0), y.1)) (second.is_part.full p.1 rest is.1 (after.0, clear.1)))

pub row_then : {X Y : Type 0} {ks js : List (List ℕ)} {R : X → Type 0} {S : Y → Type 0} {t : X → List ℕ} {u : Y → List ℕ} {r : Reading X} {s : Reading Y}
    → IsRow ks R t r → IsRow js S u s → all_part ks js ≡ true → IsRow (ks ++ js) (λ (p : X × Y). R p.0 × S p.1) (λ (p : X × Y). t p.0 ++ u p.1) (r then s)
row_then {X} {Y} {ks} {js} {R} {S} {t} {u} {r} {s} first second apart = record {
  is_part = part_then first.is_part second apart;
  keeps = λ others away p rest is after.
      let each = both_part others ks js away in
      let behind_first = second.keeps others each.1 p.1 rest is.1 after in
      subst (After others) (sym (append_assoc (t p.0) (u p.1) rest)) (first.keeps others each.0 p.0 (u p.1 ++ rest) is.0 behind_first);
}

-- a value that is made of another, and back
pub record IsMade {X Y : Type 0} (f : X → Y) (R : X → Type 0) (S : Y → Type 0) (t : X → List ℕ) (u : Y → List ℕ) : Type 0 where
  pub back : Y → X
  pub again : (y : Y) → S y → f (back y) ≡ y
  pub to : (x : X) → R x → S (f x)
  pub from : (y : Y) → S y → R (back y)
  pub same : (x : X) → R x → t x ≡ u (f x)

pub part_made : {X Y : Type 0} {labels : List (List ℕ)} {f : X → Y} {R : X → Type 0} {S : Y → Type 0} {t : X → List ℕ} {u : Y → List ℕ} {r : Reading X}
    → IsMade f R S t u → IsPart labels R t r → IsPart labels S u (made f r)
part_made {X} {Y} {labels} {f} {R} {S} {t} {u} {r} m is = record { sound = sound; full = full }
  where
    sound : (b : List ℕ) (y : Y) (rest : List ℕ) → made f r b ≡ Some (y, rest) → S y × (b ≡ u y ++ rest)
    sound b y rest e =
        let a = bind_some (r b) (λ x. Some (f x.0, x.1)) (y, rest) e in
        let same = pair_same (f a.0.0) y a.0.1 rest a.2 in
        let g = is.sound b a.0.0 a.0.1 a.1 in
        let text : b ≡ u (f a.0.0) ++ a.0.1 = g.1 ∙ ap (λ z. z ++ a.0.1) (m.same a.0.0 g.0) in
        subst (λ q. S q × (b ≡ u q ++ rest)) same.0 (m.to a.0.0 g.0, text ∙ ap (λ z. u (f a.0.0) ++ z) same.1)

    full : (y : Y) (rest : List ℕ) → S y → After labels rest → made f r (u y ++ rest) ≡ Some (y, rest)
    full y rest s after =
        let x = m.back y in
        let text : u y ≡ t x = sym (m.same x (m.from y s) ∙ ap u (m.again y s)) in
        ap (λ z. made f r (z ++ rest)) text
        ∙ (ap (λ (o : Option (X × List ℕ)). o >>= λ x. Some (f x.0, x.1)) (is.full x rest (m.from y s) after)
        ∙ ap (λ z. Some (z, rest)) (m.again y s))

pub row_made : {X Y : Type 0} {labels : List (List ℕ)} {f : X → Y} {R : X → Type 0} {S : Y → Type 0} {t : X → List ℕ} {u : Y → List ℕ} {r : Reading X}
    → IsMade f R S t u → IsRow labels R t r → IsRow labels S u (made f r)
row_made {X} {Y} {labels} {f} {R} {S} {t} {u} {r} m is = record {
  is_part = part_made m is.is_part;
  keeps = λ others away y rest s after.
      let x = m.back y in
      let text : t x ≡ u y = m.same x (m.from y s) ∙ ap u (m.again y s) in
      subst (λ z. After others (z ++ rest)) text (is.keeps others away x rest (m.from y s) after);
}

-- a value that passes a test
pub part_such : {X : Type 0} {labels : List (List ℕ)} {R : X → Type 0} {t : X → List ℕ} {r : Reading X} (test : X → Bool) → IsPart labels R t r → IsPart labels (λ x. R x × (test x ≡ true)) t (such test r)
part_such {X} {labels} {R} {t} {r} test is = record { sound = sound; full = full }
  where
    passed : (b : Bool) (x y : X) (a rest : List ℕ) → Path (Option (X × List ℕ)) (cond b (Some (x, a)) None) (Some (y, rest)) → (b ≡ true) × (x ≡ y) × (a ≡ rest)
    passed true x y a rest e = let same = pair_same x y a rest e in (refl, same.0, same.1)
    passed false x y a rest e = absurd cc

    sound : (b : List ℕ) (x : X) (rest : List ℕ) → such test r b ≡ Some (x, rest) → (R x × (test x ≡ true)) × (b ≡ t x ++ rest)
    sound b x rest e =
        let a = bind_some (r b) (λ x. if test x.0 then Some x else None) (x, rest) e in
        let p = passed (test a.0.0) a.0.0 x a.0.1 rest a.2 in
        let g = is.sound b a.0.0 a.0.1 a.1 in
        subst (λ q. (R q × (test q ≡ true)) × (b ≡ t q ++ rest)) p.1 ((g.0, p.0), g.1 ∙ ap (λ z. t a.0.0 ++ z) p.2)

    full : (x : X) (rest : List ℕ) → R x × (test x ≡ true) → After labels rest → such test r (t x ++ rest) ≡ Some (x, rest)
    full x rest is_so after =
        ap (λ (o : Option (X × List ℕ)). o >>= λ y. if test y.0 then Some y else None) (is.full x rest is_so.0 after)
        ∙ cond-true (test x) (Some (x, rest)) None is_so.1

-- the same readings with another word for the range or the text
pub part_as : {X : Type 0} {labels : List (List ℕ)} {R S : X → Type 0} {t u : X → List ℕ} {r : Reading X} → ((x : X) → R x → S x) → ((x : X) → S x → R x) → ((x : X) → t x ≡ u x) → IsPart labels R t r → IsPart labels S u r
part_as {X} {labels} {R} {S} {t} {u} {r} to from same is = record {
  sound = λ b x rest e. let g = is.sound b x rest e in (to x g.0, g.1 ∙ ap (λ z. z ++ rest) (same x));
  full = λ x rest s after. ap (λ z. r (z ++ rest)) (sym (same x)) ∙ is.full x rest (from x s) after;
}
