-- What `shape_of` says stays true under more bytes: a Whole and a No stay, and what is Pending is short.
use Rattle.std.proofs.Common.{◌≡◌, ℕ, ◌+◌, ◌*◌, ◌<◌, ◌≤◌, Bool, true, false, cond, List, [], ◌∷◌, ◌++◌, length, take, drop, refl, sym, ◌∙◌, subst, arith, length-append, length-drop}
use Rattle.std.specs.Prelude.{nat_lt, ◌==◌}
use Rattle.std.proofs.lemmas.List.{take-append-le, drop-append-le}
use Rattle.std.proofs.lemmas.Bool.{ltb-true, ltb-false, le-ltb}
use Rattle.ubx_frame.specs.declared.frame.Shape.{Shape}
use Rattle.ubx_frame.specs.declared.frame.Shape.TheVariants.{Whole, Pending, No}
use Rattle.ubx_frame.specs.Scan.{is_right, shape_of_length, shape_behind_sync, shape_behind_first, shape_of}

-- more bytes change nothing
abbrev IsSettled : Shape → Type 0
IsSettled (Whole n) = Unit {0}
IsSettled Pending = ⊥
IsSettled No = Unit {0}

-- each answer is one that the whole list allows
abbrev FitsLength : Shape → ℕ → Type 0
FitsLength (Whole n) len = (8 ≤ n) × (n ≤ len)
FitsLength Pending len = len < 2056
FitsLength No len = Unit {0}

is_right_stays : (covered ends more : List ℕ) → 2 ≤ length ends → is_right covered (ends ++ more) ≡ is_right covered ends
unfolding is_right
is_right_stays covered [] more h = absurd (omega arith)
is_right_stays covered (ck_a ∷ []) more h = absurd (omega arith)
is_right_stays covered (ck_a ∷ ck_b ∷ ends) more h = refl

settled_right : (len : ℕ) (rest more : List ℕ) → len + 6 ≤ length rest
    → is_right (take (len + 4) (rest ++ more)) (drop (len + 4) (rest ++ more)) ≡ is_right (take (len + 4) rest) (drop (len + 4) rest)
settled_right len rest more long =
    let reach : len + 4 ≤ length rest = omega arith in
    rw (take-append-le (len + 4) rest more reach, drop-append-le (len + 4) rest more reach)
    (is_right_stays (take (len + 4) rest) (drop (len + 4) rest) more (omega (arith, length-drop (len + 4) rest)))

settled_known : (len : ℕ) (rest more : List ℕ) (short : Bool) → nat_lt (length rest) (len + 6) ≡ short
    → IsSettled (cond short Pending (cond (is_right (take (len + 4) rest) (drop (len + 4) rest)) (Whole (len + 8)) No))
    → cond (nat_lt (length (rest ++ more)) (len + 6)) Pending (cond (is_right (take (len + 4) (rest ++ more)) (drop (len + 4) (rest ++ more))) (Whole (len + 8)) No)
    ≡ cond short Pending (cond (is_right (take (len + 4) rest) (drop (len + 4) rest)) (Whole (len + 8)) No)
settled_known len rest more true is h = absurd h
settled_known len rest more false is h =
    let long : len + 6 ≤ length rest = ltb-false (length rest) (len + 6) is in
    let still : nat_lt (length (rest ++ more)) (len + 6) ≡ false = le-ltb (length (rest ++ more)) (len + 6) (omega (arith, length-append rest more)) in
    rw (still, settled_right len rest more long) refl

cond_stays : (b : Bool) (p q r : Shape) → (IsSettled p → q ≡ p) → IsSettled (cond b p r) → cond b q r ≡ cond b p r
cond_stays true p q r f h = f h
cond_stays false p q r f h = refl

cond_stays_else : (b : Bool) (p q r : Shape) → (IsSettled p → q ≡ p) → IsSettled (cond b r p) → cond b r q ≡ cond b r p
cond_stays_else true p q r f h = refl
cond_stays_else false p q r f h = f h

settled_length : (len : ℕ) (rest more : List ℕ) → IsSettled (shape_of_length len rest) → shape_of_length len (rest ++ more) ≡ shape_of_length len rest
unfolding shape_of_length
settled_length len rest more h =
    cond_stays_else (nat_lt 2048 len) _ _ No (settled_known len rest more (nat_lt (length rest) (len + 6)) refl) h

settled_behind_sync : (rest more : List ℕ) → IsSettled (shape_behind_sync rest) → shape_behind_sync (rest ++ more) ≡ shape_behind_sync rest
unfolding shape_behind_sync
settled_behind_sync [] more h = absurd h
settled_behind_sync (class ∷ []) more h = absurd h
settled_behind_sync (class ∷ id ∷ []) more h = absurd h
settled_behind_sync (class ∷ id ∷ low ∷ []) more h = absurd h
settled_behind_sync (class ∷ id ∷ low ∷ high ∷ tail) more h = settled_length (low + 256 * high) (class ∷ id ∷ low ∷ high ∷ tail) more h

settled_behind_first : (rest more : List ℕ) → IsSettled (shape_behind_first rest) → shape_behind_first (rest ++ more) ≡ shape_behind_first rest
unfolding shape_behind_first
settled_behind_first [] more h = absurd h
settled_behind_first (second ∷ rest) more h = cond_stays (second == 0x62) _ _ No (settled_behind_sync rest more) h

settled : (bytes more : List ℕ) → IsSettled (shape_of bytes) → shape_of (bytes ++ more) ≡ shape_of bytes
unfolding shape_of
settled [] more h = absurd h
settled (first ∷ rest) more h = cond_stays (first == 0xb5) _ _ No (settled_behind_first rest more) h

pub whole_stays : (bytes more : List ℕ) (n : ℕ) → shape_of bytes ≡ Whole n → shape_of (bytes ++ more) ≡ Whole n
whole_stays bytes more n is = settled bytes more (subst IsSettled (sym is) tt) ∙ is

pub no_stays : (bytes more : List ℕ) → shape_of bytes ≡ No → shape_of (bytes ++ more) ≡ No
no_stays bytes more is = settled bytes more (subst IsSettled (sym is) tt) ∙ is

-- the lengths
fits_known : (len : ℕ) (rest : List ℕ) (wide short right : Bool) → nat_lt 2048 len ≡ wide → nat_lt (length rest) (len + 6) ≡ short
    → FitsLength (cond wide No (cond short Pending (cond right (Whole (len + 8)) No))) (length rest + 2)
fits_known len rest true short right is_wide is_short = tt
fits_known len rest false true right is_wide is_short =
    omega (arith, ltb-false 2048 len is_wide, ltb-true (length rest) (len + 6) is_short)
fits_known len rest false false true is_wide is_short =
    (omega arith, omega (arith, ltb-false (length rest) (len + 6) is_short))
fits_known len rest false false false is_wide is_short = tt

fits_length : (len : ℕ) (rest : List ℕ) → FitsLength (shape_of_length len rest) (length rest + 2)
unfolding shape_of_length
fits_length len rest =
    fits_known len rest (nat_lt 2048 len) (nat_lt (length rest) (len + 6)) (is_right (take (len + 4) rest) (drop (len + 4) rest)) refl refl

fits_behind_sync : (rest : List ℕ) → FitsLength (shape_behind_sync rest) (length rest + 2)
unfolding shape_behind_sync
fits_behind_sync [] = omega arith
fits_behind_sync (class ∷ []) = omega arith
fits_behind_sync (class ∷ id ∷ []) = omega arith
fits_behind_sync (class ∷ id ∷ low ∷ []) = omega arith
fits_behind_sync (class ∷ id ∷ low ∷ high ∷ tail) = fits_length (low + 256 * high) (class ∷ id ∷ low ∷ high ∷ tail)

fits_cond : (b : Bool) (s : Shape) (len : ℕ) → FitsLength s len → FitsLength (cond b s No) len
fits_cond true s len h = h
fits_cond false s len h = tt

fits : (bytes : List ℕ) → FitsLength (shape_of bytes) (length bytes)
unfolding shape_of shape_behind_first
fits [] = omega arith
fits (first ∷ []) = fits_cond (first == 0xb5) Pending 1 (omega arith)
fits (first ∷ second ∷ rest) =
    let same : length rest + 2 ≡ length (first ∷ second ∷ rest) = omega arith in
    fits_cond (first == 0xb5) _ _ (fits_cond (second == 0x62) _ _ (subst (FitsLength (shape_behind_sync rest)) same (fits_behind_sync rest)))

pub whole_least : (bytes : List ℕ) (n : ℕ) → shape_of bytes ≡ Whole n → (8 ≤ n) × (n ≤ length bytes)
whole_least bytes n is = subst (λ s. FitsLength s (length bytes)) is (fits bytes)

pub pending_short : (bytes : List ℕ) → shape_of bytes ≡ Pending → length bytes < 2056
pending_short bytes is = subst (λ s. FitsLength s (length bytes)) is (fits bytes)
