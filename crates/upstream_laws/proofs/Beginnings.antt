-- What the first 18 bytes of a line tell: its class, and whether it can be a line of any class.
use Rattle.std.proofs.Common.{◌≡◌, ◌≤◌, ◌<◌, ◌+◌, ◌-◌, ◌==◌, ◌⊎◌, ℕ, zero, suc, Bool, true, false, not, List, [], ◌∷◌, ◌++◌, Some, None, length, take, drop, get_or, refl, sym, ap, subst, ◌∙◌, inl, inr, arith, take-append-drop}
use Rattle.std.specs.List.{list_any}
use Rattle.std.specs.Str.{bytes_eq}
use Rattle.std.specs.Cmp.Lexicographic.{bytes_decides}
use Rattle.std.proofs.Math.Seq.{take-append-add}
use Rattle.std.proofs.lemmas.Bool.{cases_lt, and_right, both_ways, or_cases, or_left, or_right}
use Rattle.std.proofs.lemmas.List.{append_assoc, append-nil, take_all, take_at, length-take}
use Rattle.json_line.specs.declared.names.Class.{Class}
use Rattle.json_line.specs.declared.names.Class.TheVariants as class
use Rattle.json_line.specs.Names.{head_of}
use Rattle.gps_client.specs.Objects.{begins, class_in}
use Rattle.gps_client.specs.Texts.{Begins}
use Rattle.gps_client.proofs.Classes.{class_back, class_exact}
use Rattle.upstream_laws.specs.Head.{can_be, can_begin, classes}
use Rattle.upstream_laws.specs.Lines.{CannotBegin, is_plain}

-- heads are short, and no byte of one ends a line
head_short : (c : Class) → length (head_of c) ≤ 18
unfolding head_of
head_short class.Version = omega arith
head_short class.Devices = omega arith
head_short class.Device = omega arith
head_short class.Watch = omega arith
head_short class.Poll = omega arith
head_short class.Tpv = omega arith
head_short class.Sky = omega arith
head_short class.Toff = omega arith
head_short class.Pps = omega arith
head_short class.Error = omega arith

head_plain : (c : Class) → is_plain (head_of c) ≡ true
unfolding head_of
head_plain class.Version = refl
head_plain class.Devices = refl
head_plain class.Device = refl
head_plain class.Watch = refl
head_plain class.Poll = refl
head_plain class.Tpv = refl
head_plain class.Sky = refl
head_plain class.Toff = refl
head_plain class.Pps = refl
head_plain class.Error = refl

not_plain : (front rest : List ℕ) → is_plain (front ++ 10 ∷ rest) ≡ false
not_plain [] rest = refl
not_plain (b ∷ front) rest = and_right (not (b == 10)) (is_plain (front ++ 10 ∷ rest)) (not_plain front rest)

-- of two parts of one text that begin it, one begins the other
abbrev pub Divided : (x y h r : List ℕ) → Type 0
Divided x y h r = ((u : List ℕ) × (h ≡ x ++ u) × (u ++ r ≡ y)) ⊎ ((u : List ℕ) × (x ≡ h ++ u) × (u ++ y ≡ r))

pub divided : (x y h r : List ℕ) → x ++ y ≡ h ++ r → Divided x y h r
divided [] y h r e = inl (h, refl, sym e)
divided (a ∷ x) y [] r e = inr (a ∷ x, refl, e)
divided (a ∷ x) y (b ∷ h) r e =
    let first : a ≡ b = cc in
    let others : x ++ y ≡ h ++ r = cc in
    elim (divided x y h r others) [
      | inl d ↦ inl (d.0, rw (first, d.1) refl, d.2)
      | inr d ↦ inr (d.0, rw (first, d.1) refl, d.2)
    ]

bytes_same : (xs ys : List ℕ) → xs ≡ ys → bytes_eq xs ys ≡ true
bytes_same xs ys e = (bytes_decides xs ys).1 e

begins_from : (c : Class) (x rest : List ℕ) → x ≡ head_of c ++ rest → begins c x ≡ true
begins_from c x rest e =
    bytes_same (take (length (head_of c)) x) (head_of c) (ap (take (length (head_of c))) e ∙ take_at (head_of c) rest (length (head_of c)) refl)

begins_back : (c : Class) (x : List ℕ) → begins c x ≡ true → Begins c x
begins_back c x e =
    let head : take (length (head_of c)) x ≡ head_of c = (bytes_decides (take (length (head_of c)) x) (head_of c)).0 e in
    (drop (length (head_of c)) x, sym (take-append-drop (length (head_of c)) x) ∙ ap (λ t. t ++ drop (length (head_of c)) x) head)

-- some class of the ten
any_at : {X : Type 0} (f : X → Bool) (xs : List X) (k : ℕ) (d : X) → k < length xs → f (get_or xs k d) ≡ true → list_any f xs ≡ true
any_at f [] k d inside e = absurd (omega arith)
any_at f (x ∷ xs) zero d inside e = or_left (f x) (list_any f xs) e
any_at f (x ∷ xs) (suc k) d inside e = or_right (f x) (list_any f xs) (any_at f xs k d (omega arith) e)

any_can : (x : List ℕ) (c : Class) → can_be x c ≡ true → can_begin x ≡ true
unfolding can_begin
any_can x class.Tpv e = any_at (can_be x) classes 0 class.Tpv (omega arith) e
any_can x class.Sky e = any_at (can_be x) classes 1 class.Tpv (omega arith) e
any_can x class.Toff e = any_at (can_be x) classes 2 class.Tpv (omega arith) e
any_can x class.Pps e = any_at (can_be x) classes 3 class.Tpv (omega arith) e
any_can x class.Device e = any_at (can_be x) classes 4 class.Tpv (omega arith) e
any_can x class.Devices e = any_at (can_be x) classes 5 class.Tpv (omega arith) e
any_can x class.Watch e = any_at (can_be x) classes 6 class.Tpv (omega arith) e
any_can x class.Poll e = any_at (can_be x) classes 7 class.Tpv (omega arith) e
any_can x class.Version e = any_at (can_be x) classes 8 class.Tpv (omega arith) e
any_can x class.Error e = any_at (can_be x) classes 9 class.Tpv (omega arith) e

one_of : {X : Type 0} (f : X → Bool) (xs : List X) → list_any f xs ≡ true → (x : X) × (f x ≡ true)
one_of f [] e = cc
one_of f (x ∷ xs) e = elim (or_cases (f x) (list_any f xs) e) [ inl here ↦ (x, here) | inr there ↦ one_of f xs there ]

can_one : (x : List ℕ) → can_begin x ≡ true → (c : Class) × (can_be x c ≡ true)
unfolding can_begin
can_one x e = one_of (can_be x) classes e

-- the class of a line is that of its first 18 bytes
pub class_of_begin : (c : Class) (x : List ℕ) → Begins c x → class_in (take 18 x) ≡ Some c
class_of_begin c x b =
    let short : length (head_of c) ≤ 18 = head_short c in
    let sum : 18 ≡ length (head_of c) + (18 - length (head_of c)) = omega arith in
    let cut : take 18 x ≡ head_of c ++ take (18 - length (head_of c)) b.0 =
    ap (take 18) b.1 ∙ ap (λ n. take n (head_of c ++ b.0)) sum ∙ take-append-add (head_of c) b.0 (18 - length (head_of c)) in
    ap class_in cut ∙ class_back c (take (18 - length (head_of c)) b.0)

begun : (c : Class) (x : List ℕ) → Begins c (take 18 x) → Begins c x
begun c x b = (b.0 ++ drop 18 x, sym (take-append-drop 18 x) ∙ ap (λ t. t ++ drop 18 x) b.1 ∙ append_assoc (head_of c) b.0 (drop 18 x))

pub begin_of_class : (c : Class) (x : List ℕ) → class_in (take 18 x) ≡ Some c → Begins c x
begin_of_class c x e = begun c x ((class_exact (class_in (take 18 x)) (take 18 x) refl c).0 e)

-- whether it can be a line is shown by its first 18 bytes too
pub can_from : (c : Class) (x rest : List ℕ) → Begins c (x ++ rest) → can_begin (take 18 x) ≡ true
can_from c x rest b = any_can (take 18 x) c (of_parts (divided (take 18 x) (drop 18 x ++ rest) (head_of c) b.0 joined))
  where
    joined : take 18 x ++ (drop 18 x ++ rest) ≡ head_of c ++ b.0
    joined = sym (append_assoc (take 18 x) (drop 18 x) rest) ∙ ap (λ t. t ++ rest) (take-append-drop 18 x) ∙ b.1

    of_parts : Divided (take 18 x) (drop 18 x ++ rest) (head_of c) b.0 → can_be (take 18 x) c ≡ true
    of_parts (inl d) =
        or_right (begins c (take 18 x)) _ (bytes_same (take (length (take 18 x)) (head_of c)) (take 18 x)
        (ap (take (length (take 18 x))) d.1 ∙ take_at (take 18 x) d.0 (length (take 18 x)) refl))
    of_parts (inr d) = or_left (begins c (take 18 x)) _ (begins_from c (take 18 x) d.0 d.1)

pub record CanBegin (x : List ℕ) : Type 0 where
  pub kind : Class
  pub rest : List ℕ
  pub begins : Begins kind (x ++ rest)

pub can_back : (x : List ℕ) → can_begin (take 18 x) ≡ true → CanBegin x
can_back x e =
    let found : (c : Class) × (can_be (take 18 x) c ≡ true) = can_one (take 18 x) e in
    of_parts (found.0) (or_cases (begins found.0 (take 18 x)) _ found.1)
  where
    whole : (c : Class) → Begins c x → CanBegin x
    whole c b = record { kind = c; rest = []; begins = rw (append-nil x) b }

    part : (c : Class) → take (length (take 18 x)) (head_of c) ≡ take 18 x → CanBegin x
    part c is = elim (cases_lt (length x) 18) [
      | inl short ↦
          let all : take 18 x ≡ x = take_all 18 x (omega arith) in
          let front : take (length x) (head_of c) ≡ x = subst (λ t. take (length t) (head_of c) ≡ t) all is in
          record {
            kind = c;
            rest = drop (length x) (head_of c);
            begins = (
              [],
              ap (λ t. t ++ drop (length x) (head_of c)) (sym front) ∙ take-append-drop (length x) (head_of c) ∙ sym (append-nil (head_of c)),
            );
          }
      | inr long ↦
          let eighteen : length (take 18 x) ≡ 18 = omega (arith, length-take 18 x) in
          let head : head_of c ≡ take 18 x = sym (take_all (length (take 18 x)) (head_of c) (omega (arith, head_short c))) ∙ is in
          whole c (begun c x ([], sym head ∙ sym (append-nil (head_of c))))
    ]

    of_parts : (c : Class) → (begins c (take 18 x) ≡ true) ⊎ (bytes_eq (take (length (take 18 x)) (head_of c)) (take 18 x) ≡ true) → CanBegin x
    of_parts c (inl b) = whole c (begun c x (begins_back c (take 18 x) b))
    of_parts c (inr p) = part c ((bytes_decides (take (length (take 18 x)) (head_of c)) (take 18 x)).0 p)

-- a line of no class, at its end
pub ended_bad : (text : List ℕ) → class_in (take 18 text) ≡ None → CannotBegin (text ++ 10 ∷ [])
ended_bad text none c rest b = of_parts (divided text (10 ∷ rest) (head_of c) b.0 (sym (append_assoc text (10 ∷ []) rest) ∙ b.1))
  where
    never : Begins c text → ⊥
    never h = let some : class_in (take 18 text) ≡ Some c = class_of_begin c text h in cc

    of_parts : Divided text (10 ∷ rest) (head_of c) b.0 → ⊥
    of_parts (inl d) = go d.0 d.1 d.2
      where
        go : (u : List ℕ) → head_of c ≡ text ++ u → u ++ b.0 ≡ 10 ∷ rest → ⊥
        go [] is back = never ([], sym (append-nil text) ∙ sym is ∙ sym (append-nil (head_of c)))
        go (a ∷ u) is back =
            let ten : a ≡ 10 = cc in
            both_ways (is_plain (head_of c)) (ap is_plain is ∙ ap (λ t. is_plain (text ++ t ∷ u)) ten ∙ not_plain text u) (head_plain c)
    of_parts (inr d) = never (d.0, d.1)

-- a line that begins as no object does any more
pub open_bad : (part : List ℕ) → can_begin (take 18 part) ≡ false → CannotBegin part
open_bad part never c rest b = both_ways (can_begin (take 18 part)) never (can_from c part rest b)

pub nothing_can : CannotBegin [] → ⊥
nothing_can never = never class.Tpv (head_of class.Tpv) ([], sym (append-nil (head_of class.Tpv)))

-- a beginning of a beginning
pub take_again : (n : ℕ) (front rest : List ℕ) → take n (take n front ++ rest) ≡ take n (front ++ rest)
take_again zero front rest = refl
take_again (suc n) [] rest = refl
take_again (suc n) (a ∷ front) rest = ap (λ t. a ∷ t) (take_again n front rest)

pub begins_nothing : can_begin [] ≡ true
unfolding can_begin head_of
begins_nothing = refl
