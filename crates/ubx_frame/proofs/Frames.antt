-- What `shape_of` answers is what the sets of frames and of frame shapes say.
use Rattle.std.proofs.Common.{◌≡◌, ℕ, zero, suc, ◌+◌, ◌-◌, ◌*◌, ◌/◌, ◌%◌, ◌<◌, ◌≤◌, Bool, true, false, cond, List, [], ◌∷◌, ◌++◌, length, take, drop, get_or, Fits, refl, sym, ap, ◌∙◌, subst, arith, length-append, append_assoc}
use Rattle.std.specs.Prelude.{nat_lt, ◌==◌}
use Rattle.std.specs.List.{list_all}
use Rattle.std.specs.Int.{w8}
use Rattle.std.proofs.Math.Seq.{take-append_seam, drop-append_seam}
use Rattle.std.proofs.lemmas.List.{take-append-drop, length-take-le, length-drop, append-nil}
use Rattle.std.proofs.lemmas.List.Folds.{list_all-append}
use Rattle.std.proofs.lemmas.Bool.{ltb-true, ltb-false, lt-ltb, le-ltb, eqb-true, eq-eqb, and_parts, and_from}
use Rattle.ubx_frame.specs.declared.frame.Shape.{Shape}
use Rattle.ubx_frame.specs.declared.frame.Shape.TheVariants.{Whole, Pending, No}
use Rattle.ubx_frame.specs.Checksum.{sums_of}
use Rattle.ubx_frame.specs.Frame.{Parts, covered, spelling, is_byte, AreParts, IsRight, IsShape, IsFrame, IsProperPrefix, payload_of}
use Rattle.ubx_frame.specs.Scan.{is_right, shape_of_length, shape_behind_sync, shape_behind_first, shape_of}

-- the elements of a slice are bytes
pub bytes_from_fits : (xs : List ℕ) → ((k : ℕ) → Fits w8 (get_or xs k 0)) → list_all is_byte xs ≡ true
bytes_from_fits [] h = refl
bytes_from_fits (x ∷ xs) h =
    let first : Fits w8 x = h 0 in
    and_from (is_byte x) (list_all is_byte xs) (lt-ltb x 256 first.fits) (bytes_from_fits xs (λ k. h (suc k)))

zeros : ℕ → List ℕ
zeros zero = []
zeros (suc n) = 0 ∷ zeros n

zeros_are_bytes : (n : ℕ) → list_all is_byte (zeros n) ≡ true
unfolding zeros
zeros_are_bytes zero = refl
zeros_are_bytes (suc n) = zeros_are_bytes n

length-zeros : (n : ℕ) → length (zeros n) ≡ n
unfolding zeros
length-zeros zero = refl
length-zeros (suc n) = ap suc (length-zeros n)

-- the header is followed by a payload and two sums
record Behind (len : ℕ) (tail : List ℕ) : Type 0 where
  payload : List ℕ
  ck_a : ℕ
  ck_b : ℕ
  more : List ℕ
  is : tail ≡ payload ++ ck_a ∷ ck_b ∷ more
  long : length payload ≡ len

behind : (len : ℕ) (tail ends : List ℕ) → len + 2 ≤ length tail → drop len tail ≡ ends → Behind len tail
behind len tail [] long is = absurd (omega (arith, length-drop len tail, ap length is))
behind len tail (a ∷ []) long is = absurd (omega (arith, length-drop len tail, ap length is))
behind len tail (a ∷ b ∷ more) long is = record {
  payload = take len tail;
  ck_a = a;
  ck_b = b;
  more = more;
  is = sym (take-append-drop len tail) ∙ ap (λ xs. take len tail ++ xs) is;
  long = length-take-le len tail (omega arith);
}

take_four : (len : ℕ) (a b c d : ℕ) (xs : List ℕ) → take (len + 4) (a ∷ b ∷ c ∷ d ∷ xs) ≡ a ∷ b ∷ c ∷ d ∷ take len xs
take_four len a b c d xs = let e : len + 4 ≡ suc (suc (suc (suc len))) = omega arith in rw e refl

drop_four : (len : ℕ) (a b c d : ℕ) (xs : List ℕ) → drop (len + 4) (a ∷ b ∷ c ∷ d ∷ xs) ≡ drop len xs
drop_four len a b c d xs = let e : len + 4 ≡ suc (suc (suc (suc len))) = omega arith in rw e refl

-- ---- a frame and what follows it is Whole
right_here : (p : Parts) → IsRight p → (more : List ℕ) → is_right (covered p) (p.ck_a ∷ p.ck_b ∷ more) ≡ true
unfolding is_right
right_here p right more =
    and_from _ _ (eq-eqb (sums_of (covered p)).a p.ck_a (sym right.ck_a)) (eq-eqb (sums_of (covered p)).b p.ck_b (sym right.ck_b))

-- the bytes of a frame after the sync characters, and what follows it
abbrev rest_of : Parts → List ℕ → List ℕ
rest_of p more = p.class ∷ p.id ∷ (length p.payload % 256) ∷ (length p.payload / 256) ∷ (p.payload ++ p.ck_a ∷ p.ck_b ∷ more)

length_rest : (p : Parts) (more : List ℕ) → length (rest_of p more) ≡ length p.payload + 6 + length more
length_rest p more = omega (arith, length-append p.payload (p.ck_a ∷ p.ck_b ∷ more))

whole_length : (p : Parts) → length p.payload ≤ 2048 → IsRight p → (more : List ℕ)
    → shape_of_length (length p.payload) (rest_of p more) ≡ Whole (length p.payload + 8)
unfolding shape_of_length
whole_length p short right more =
    let len : ℕ = length p.payload in
    let narrow : nat_lt 2048 (length p.payload) ≡ false = le-ltb 2048 (length p.payload) short in
    let long : nat_lt (length (rest_of p more)) (length p.payload + 6) ≡ false =
    le-ltb (length (rest_of p more)) (length p.payload + 6) (omega (arith, length_rest p more)) in
    let front : take (length p.payload + 4) (rest_of p more) ≡ covered p =
    take_four (length p.payload) _ _ _ _ (p.payload ++ p.ck_a ∷ p.ck_b ∷ more)
    ∙ ap (λ xs. p.class ∷ p.id ∷ (length p.payload % 256) ∷ (length p.payload / 256) ∷ xs) (take-append_seam p.payload (p.ck_a ∷ p.ck_b ∷ more)) in
    let back : drop (length p.payload + 4) (rest_of p more) ≡ p.ck_a ∷ p.ck_b ∷ more =
    drop_four (length p.payload) _ _ _ _ (p.payload ++ p.ck_a ∷ p.ck_b ∷ more)
    ∙ drop-append_seam p.payload (p.ck_a ∷ p.ck_b ∷ more) in
    rw (narrow, long, front, back, right_here p right more) refl

whole_spelling : (p : Parts) → length p.payload ≤ 2048 → IsRight p → (more : List ℕ) → shape_of (spelling p ++ more) ≡ Whole (length p.payload + 8)
unfolding shape_of shape_behind_first shape_behind_sync
whole_spelling p short right more =
    let again : length p.payload % 256 + 256 * (length p.payload / 256) ≡ length p.payload = omega arith in
    let joined : (p.payload ++ p.ck_a ∷ p.ck_b ∷ []) ++ more ≡ p.payload ++ p.ck_a ∷ p.ck_b ∷ more = append_assoc p.payload (p.ck_a ∷ p.ck_b ∷ []) more in
    rw (joined, again) (whole_length p short right more)

length_spelling : (p : Parts) → length (spelling p) ≡ length p.payload + 8
length_spelling p = omega (arith, length-append p.payload (p.ck_a ∷ p.ck_b ∷ []))

pub whole_if : (bytes : List ℕ) (n : ℕ) → (n ≤ length bytes) × IsFrame (take n bytes) → shape_of bytes ≡ Whole n
whole_if bytes n (reach, (p, parts, right, is)) =
    let whole : bytes ≡ spelling p ++ drop n bytes = sym (take-append-drop n bytes) ∙ ap (λ xs. xs ++ drop n bytes) is in
    let count : length p.payload + 8 ≡ n = sym (length_spelling p) ∙ sym (ap length is) ∙ length-take-le n bytes reach in
    ap shape_of whole ∙ whole_spelling p parts.short right (drop n bytes) ∙ ap Whole count

-- ---- what is Whole is a frame and what follows it
record IsLong (len : ℕ) (rest : List ℕ) (n : ℕ) : Type 0 where
  short : len ≤ 2048
  long : len + 6 ≤ length rest
  right : is_right (take (len + 4) rest) (drop (len + 4) rest) ≡ true
  count : len + 8 ≡ n

long_tests : (len : ℕ) (rest : List ℕ) (n : ℕ) (wide cut right : Bool) → nat_lt 2048 len ≡ wide → nat_lt (length rest) (len + 6) ≡ cut
    → is_right (take (len + 4) rest) (drop (len + 4) rest) ≡ right
    → cond wide No (cond cut Pending (cond right (Whole (len + 8)) No)) ≡ Whole n → IsLong len rest n
long_tests len rest n true cut right is_wide is_cut is_right is = cc
long_tests len rest n false true right is_wide is_cut is_right is = cc
long_tests len rest n false false false is_wide is_cut is_right is = cc
long_tests len rest n false false true is_wide is_cut is_right is = record {
  short = ltb-false 2048 len is_wide;
  long = ltb-false (length rest) (len + 6) is_cut;
  right = is_right;
  count = cc;
}

is_long : (len : ℕ) (rest : List ℕ) (n : ℕ) → shape_of_length len rest ≡ Whole n → IsLong len rest n
unfolding shape_of_length
is_long len rest n is =
    long_tests len rest n (nat_lt 2048 len) (nat_lt (length rest) (len + 6)) (is_right (take (len + 4) rest) (drop (len + 4) rest)) refl refl refl is

right_from : (p : Parts) (more : List ℕ) → is_right (covered p) (p.ck_a ∷ p.ck_b ∷ more) ≡ true → IsRight p
unfolding is_right
right_from p more is =
    let (a, b) = and_parts _ _ is in
    record { ck_a = sym (eqb-true (sums_of (covered p)).a p.ck_a a); ck_b = sym (eqb-true (sums_of (covered p)).b p.ck_b b) }

-- the parts of a frame that was read
abbrev parts_of : (class id : ℕ) {len : ℕ} {tail : List ℕ} → Behind len tail → Parts
parts_of class id b = record { class = class; id = id; payload = b.payload; ck_a = b.ck_a; ck_b = b.ck_b }

low_byte : (low high len : ℕ) → low < 256 → len ≡ low + 256 * high → len % 256 ≡ low
low_byte low high len narrow is = omega arith

high_byte : (low high len : ℕ) → low < 256 → len ≡ low + 256 * high → len / 256 ≡ high
high_byte low high len narrow is = omega arith

low_is_byte : (class id low high : ℕ) (tail : List ℕ) → list_all is_byte (class ∷ id ∷ low ∷ high ∷ tail) ≡ true → low < 256
low_is_byte class id low high tail is =
    let a = and_parts (is_byte class) _ is in
    let b = and_parts (is_byte id) _ (a.1) in
    ltb-true low 256 (and_parts (is_byte low) _ (b.1)).0

-- what was read is the frame's spelling and what follows it
spelled : (class id low high : ℕ) (tail : List ℕ) → low < 256 → (b : Behind (low + 256 * high) tail)
    → 0xb5 ∷ 0x62 ∷ class ∷ id ∷ low ∷ high ∷ tail ≡ spelling (parts_of class id b) ++ b.more
spelled class id low high tail narrow b =
    let joined : (b.payload ++ b.ck_a ∷ b.ck_b ∷ []) ++ b.more ≡ b.payload ++ b.ck_a ∷ b.ck_b ∷ b.more = append_assoc b.payload (b.ck_a ∷ b.ck_b ∷ []) b.more in
    rw (joined, low_byte low high (length b.payload) narrow b.long, high_byte low high (length b.payload) narrow b.long)
    (ap (λ xs. 0xb5 ∷ 0x62 ∷ class ∷ id ∷ low ∷ high ∷ xs) b.is)

front_is_bytes : (xs ys zs : List ℕ) → zs ≡ xs ++ ys → list_all is_byte zs ≡ true → list_all is_byte xs ≡ true
front_is_bytes xs ys zs is all = (and_parts (list_all is_byte xs) (list_all is_byte ys) (sym (list_all-append is_byte xs ys) ∙ sym (ap (list_all is_byte) is) ∙ all)).0

are_parts : (class id low high : ℕ) (tail : List ℕ) → list_all is_byte (class ∷ id ∷ low ∷ high ∷ tail) ≡ true
    → low + 256 * high ≤ 2048 → (b : Behind (low + 256 * high) tail) → AreParts (parts_of class id b)
are_parts class id low high tail all short b =
    let narrow : low < 256 = low_is_byte class id low high tail all in
    record {
      bytes = front_is_bytes (spelling (parts_of class id b)) b.more _ (spelled class id low high tail narrow b) all;
      short = subst (λ n. n ≤ 2048) (sym b.long) short;
    }

whole_behind_sync : (rest : List ℕ) (n : ℕ) → list_all is_byte rest ≡ true → shape_behind_sync rest ≡ Whole n
    → (p : Parts) × (more : List ℕ) × AreParts p × IsRight p × (0xb5 ∷ 0x62 ∷ rest ≡ spelling p ++ more) × (length (spelling p) ≡ n)
unfolding shape_behind_sync
whole_behind_sync [] n all is = cc
whole_behind_sync (class ∷ []) n all is = cc
whole_behind_sync (class ∷ id ∷ []) n all is = cc
whole_behind_sync (class ∷ id ∷ low ∷ []) n all is = cc
whole_behind_sync (class ∷ id ∷ low ∷ high ∷ tail) n all is =
    let len : ℕ = low + 256 * high in
    let rest : List ℕ = class ∷ id ∷ low ∷ high ∷ tail in
    let narrow : low < 256 = low_is_byte class id low high tail all in
    let is_long : IsLong (low + 256 * high) (class ∷ id ∷ low ∷ high ∷ tail) n = is_long (low + 256 * high) (class ∷ id ∷ low ∷ high ∷ tail) n is in
    let reach : low + 256 * high + 2 ≤ length tail = omega (arith, is_long.long) in
    let b : Behind (low + 256 * high) tail = behind (low + 256 * high) tail _ reach refl in
    let p : Parts = parts_of class id b in
    let front : take (low + 256 * high + 4) (class ∷ id ∷ low ∷ high ∷ tail) ≡ covered (parts_of class id b) =
    take_four (low + 256 * high) class id low high tail ∙ covers class id low high tail narrow b in
    let back : drop (low + 256 * high + 4) (class ∷ id ∷ low ∷ high ∷ tail) ≡ b.ck_a ∷ b.ck_b ∷ b.more =
    drop_four (low + 256 * high) class id low high tail ∙ ends (low + 256 * high) tail b in
    let right : is_right (covered (parts_of class id b)) (b.ck_a ∷ b.ck_b ∷ b.more) ≡ true =
    sym (ap (λ xs. is_right xs (b.ck_a ∷ b.ck_b ∷ b.more)) front) ∙ sym (ap (is_right (take (low + 256 * high + 4) (class ∷ id ∷ low ∷ high ∷ tail))) back) ∙ is_long.right in
    (parts_of class id b, b.more, are_parts class id low high tail all is_long.short b, right_from (parts_of class id b) b.more right, spelled class id low high tail narrow b, length_spelling (parts_of class id b) ∙ ap (λ k. k + 8) b.long ∙ is_long.count)
  where
    ends : (len : ℕ) (tail : List ℕ) (b : Behind len tail) → drop len tail ≡ b.ck_a ∷ b.ck_b ∷ b.more
    ends len tail b = ap (drop len) b.is ∙ ap (λ k. drop k (b.payload ++ b.ck_a ∷ b.ck_b ∷ b.more)) (sym b.long) ∙ drop-append_seam b.payload (b.ck_a ∷ b.ck_b ∷ b.more)

    fronts : (len : ℕ) (tail : List ℕ) (b : Behind len tail) → take len tail ≡ b.payload
    fronts len tail b = ap (take len) b.is ∙ ap (λ k. take k (b.payload ++ b.ck_a ∷ b.ck_b ∷ b.more)) (sym b.long) ∙ take-append_seam b.payload (b.ck_a ∷ b.ck_b ∷ b.more)

    covers : (class id low high : ℕ) (tail : List ℕ) → low < 256 → (b : Behind (low + 256 * high) tail) → class ∷ id ∷ low ∷ high ∷ take (low + 256 * high) tail ≡ covered (parts_of class id b)
    covers class id low high tail narrow b =
        rw (fronts (low + 256 * high) tail b, low_byte low high (length b.payload) narrow b.long, high_byte low high (length b.payload) narrow b.long) refl

under_sync : (first second : ℕ) (rest ys : List ℕ) → first ≡ 0xb5 → second ≡ 0x62 → 0xb5 ∷ 0x62 ∷ rest ≡ ys → first ∷ second ∷ rest ≡ ys
under_sync first second rest ys one two is = cc

-- the sync characters are there if the answer is not No
is_not_no : (b : Bool) (s t : Shape) → cond b s No ≡ t → (t ≡ No → ⊥) → (b ≡ true) × (s ≡ t)
is_not_no true s t is some = (refl, is)
is_not_no false s t is some = absurd (some (sym is))

pub whole_only_if : (bytes : List ℕ) (n : ℕ) → list_all is_byte bytes ≡ true → shape_of bytes ≡ Whole n → (n ≤ length bytes) × IsFrame (take n bytes)
unfolding shape_of shape_behind_first
whole_only_if [] n all is = cc
whole_only_if (first ∷ []) n all is = let h = is_not_no (first == 0xb5) Pending (Whole n) is (λ e. cc) in cc
whole_only_if (first ∷ second ∷ rest) n all is =
    let h = is_not_no (first == 0xb5) _ (Whole n) is (λ e. cc) in
    let k = is_not_no (second == 0x62) _ (Whole n) (h.1) (λ e. cc) in
    let one : first ≡ 0xb5 = eqb-true first 0xb5 (h.0) in
    let two : second ≡ 0x62 = eqb-true second 0x62 (k.0) in
    let rest_all = (and_parts (is_byte second) _ (and_parts (is_byte first) _ all).1).1 in
    let (p, more, parts, right, e, count) = whole_behind_sync rest n rest_all (k.1) in
    let whole : first ∷ second ∷ rest ≡ spelling p ++ more = under_sync first second rest _ one two e in
    let front : take n (first ∷ second ∷ rest) ≡ spelling p =
    ap (take n) whole ∙ ap (λ j. take j (spelling p ++ more)) (sym count) ∙ take-append_seam (spelling p) more in
    (omega (arith, ap length whole, length-append (spelling p) more), (p, parts, right, front))

-- ---- what is Pending is a proper prefix of a frame shape
last_two : (len : ℕ) (xs : List ℕ) → length xs ≡ len + 2 → (b : Behind len xs) × (b.more ≡ [])
last_two len xs long =
    let b : Behind len xs = behind len xs (drop len xs) (omega arith) refl in
    (b, none b.more (omega (arith, ap length b.is, length-append b.payload (b.ck_a ∷ b.ck_b ∷ b.more), b.long)))
  where
    none : (more : List ℕ) → length more ≡ 0 → more ≡ []
    none [] h = refl
    none (x ∷ more) h = absurd (omega arith)

-- a frame shape whose payload and sums have n bytes
filled : (class id low high : ℕ) (tail : List ℕ) → list_all is_byte (class ∷ id ∷ low ∷ high ∷ tail) ≡ true
    → low + 256 * high ≤ 2048 → length tail ≡ low + 256 * high + 2 → IsShape (0xb5 ∷ 0x62 ∷ class ∷ id ∷ low ∷ high ∷ tail)
filled class id low high tail all short long =
    let narrow : low < 256 = low_is_byte class id low high tail all in
    let (b, whole) = last_two (low + 256 * high) tail long in (
      parts_of class id b,
      are_parts class id low high tail all short b,
      spelled class id low high tail narrow b ∙ ap (λ xs. spelling (parts_of class id b) ++ xs) whole ∙ append-nil (spelling (parts_of class id b)),
    )

zeros_after : (class id low high : ℕ) (tail zeros : List ℕ) → list_all is_byte (class ∷ id ∷ low ∷ high ∷ tail) ≡ true → list_all is_byte zeros ≡ true
    → low + 256 * high ≤ 2048 → 0 < length zeros → length tail + length zeros ≡ low + 256 * high + 2
    → IsProperPrefix (0xb5 ∷ 0x62 ∷ class ∷ id ∷ low ∷ high ∷ tail)
zeros_after class id low high tail zeros all zeros_all short some long =
    let all_filled : list_all is_byte (class ∷ id ∷ low ∷ high ∷ (tail ++ zeros)) ≡ true =
    list_all-append is_byte (class ∷ id ∷ low ∷ high ∷ tail) zeros ∙ and_from _ _ all zeros_all in
    (zeros, some, filled class id low high (tail ++ zeros) all_filled short (length-append tail zeros ∙ long))

zeros_behind : (class id low high : ℕ) (tail : List ℕ) → list_all is_byte (class ∷ id ∷ low ∷ high ∷ tail) ≡ true
    → low + 256 * high ≤ 2048 → length tail < low + 256 * high + 2 → IsProperPrefix (0xb5 ∷ 0x62 ∷ class ∷ id ∷ low ∷ high ∷ tail)
zeros_behind class id low high tail all short cut =
    let count : length (zeros (low + 256 * high + 2 - length tail)) ≡ low + 256 * high + 2 - length tail = length-zeros (low + 256 * high + 2 - length tail) in
    zeros_after class id low high tail (zeros (low + 256 * high + 2 - length tail)) all (zeros_are_bytes (low + 256 * high + 2 - length tail)) short (omega arith) (omega arith)

shorter : (xs ys : List ℕ) → IsProperPrefix (xs ++ ys) → IsProperPrefix xs
shorter xs ys (more, some, shape) =
    (ys ++ more, omega (arith, length-append ys more), subst IsShape (append_assoc xs ys more) shape)

pending_tests : (len : ℕ) (rest : List ℕ) (wide cut right : Bool) → nat_lt 2048 len ≡ wide → nat_lt (length rest) (len + 6) ≡ cut
    → cond wide No (cond cut Pending (cond right (Whole (len + 8)) No)) ≡ Pending → (len ≤ 2048) × (length rest < len + 6)
pending_tests len rest true cut right is_wide is_cut is = cc
pending_tests len rest false true right is_wide is_cut is = (ltb-false 2048 len is_wide, ltb-true (length rest) (len + 6) is_cut)
pending_tests len rest false false true is_wide is_cut is = cc
pending_tests len rest false false false is_wide is_cut is = cc

pending_length : (len : ℕ) (rest : List ℕ) → shape_of_length len rest ≡ Pending → (len ≤ 2048) × (length rest < len + 6)
unfolding shape_of_length
pending_length len rest is =
    pending_tests len rest (nat_lt 2048 len) (nat_lt (length rest) (len + 6)) (is_right (take (len + 4) rest) (drop (len + 4) rest)) refl refl is

-- the shapes that are cut before their length is known
zeros_behind_sync : (rest : List ℕ) → list_all is_byte rest ≡ true → shape_behind_sync rest ≡ Pending → IsProperPrefix (0xb5 ∷ 0x62 ∷ rest)
unfolding shape_behind_sync
zeros_behind_sync [] all is = shorter (0xb5 ∷ 0x62 ∷ []) (0 ∷ 0 ∷ 0 ∷ 0 ∷ []) (zeros_behind 0 0 0 0 [] refl (omega arith) (omega arith))
zeros_behind_sync (class ∷ []) all is =
    shorter (0xb5 ∷ 0x62 ∷ class ∷ []) (0 ∷ 0 ∷ 0 ∷ []) (zeros_behind class 0 0 0 [] all (omega arith) (omega arith))
zeros_behind_sync (class ∷ id ∷ []) all is =
    shorter (0xb5 ∷ 0x62 ∷ class ∷ id ∷ []) (0 ∷ 0 ∷ []) (zeros_behind class id 0 0 [] all (omega arith) (omega arith))
zeros_behind_sync (class ∷ id ∷ low ∷ []) all is =
    let narrow : low < 256 = low_is_byte class id low 0 [] all in
    shorter (0xb5 ∷ 0x62 ∷ class ∷ id ∷ low ∷ []) (0 ∷ []) (zeros_behind class id low 0 [] all (omega arith) (omega arith))
zeros_behind_sync (class ∷ id ∷ low ∷ high ∷ tail) all is =
    let cut = pending_length (low + 256 * high) (class ∷ id ∷ low ∷ high ∷ tail) is in
    zeros_behind class id low high tail all (cut.0) (omega (arith, cut.1))

sync_begins : IsProperPrefix (0xb5 ∷ 0x62 ∷ [])
unfolding shape_behind_sync
sync_begins = zeros_behind_sync [] refl refl

pub pending_only_if : (bytes : List ℕ) → list_all is_byte bytes ≡ true → shape_of bytes ≡ Pending → IsProperPrefix bytes
unfolding shape_of shape_behind_first
pending_only_if [] all is = shorter [] (0xb5 ∷ 0x62 ∷ []) sync_begins
pending_only_if (first ∷ []) all is =
    let h = is_not_no (first == 0xb5) Pending Pending is (λ e. cc) in
    let one : 0xb5 ≡ first = sym (eqb-true first 0xb5 (h.0)) in
    subst (λ x. IsProperPrefix (x ∷ [])) one (shorter (0xb5 ∷ []) (0x62 ∷ []) sync_begins)
pending_only_if (first ∷ second ∷ rest) all is =
    let h = is_not_no (first == 0xb5) _ Pending is (λ e. cc) in
    let k = is_not_no (second == 0x62) _ Pending (h.1) (λ e. cc) in
    let one : first ≡ 0xb5 = eqb-true first 0xb5 (h.0) in
    let two : second ≡ 0x62 = eqb-true second 0x62 (k.0) in
    let rest_all = (and_parts (is_byte second) _ (and_parts (is_byte first) _ all).1).1 in
    subst IsProperPrefix (sym (under_sync first second rest _ one two refl)) (zeros_behind_sync rest rest_all (k.1))

-- ---- a proper prefix of a frame shape is Pending
cut_length : (len : ℕ) (rest : List ℕ) → len ≤ 2048 → length rest < len + 6 → shape_of_length len rest ≡ Pending
unfolding shape_of_length
cut_length len rest short cut =
    let narrow : nat_lt 2048 len ≡ false = le-ltb 2048 len short in
    let missing : nat_lt (length rest) (len + 6) ≡ true = lt-ltb (length rest) (len + 6) cut in
    rw (narrow, missing) refl

cut_behind_sync : (rest more : List ℕ) (p : Parts) → length p.payload ≤ 2048 → 0 < length more
    → rest ++ more ≡ covered p ++ p.ck_a ∷ p.ck_b ∷ [] → shape_behind_sync rest ≡ Pending
unfolding shape_behind_sync
cut_behind_sync [] more p short some is = refl
cut_behind_sync (class ∷ []) more p short some is = refl
cut_behind_sync (class ∷ id ∷ []) more p short some is = refl
cut_behind_sync (class ∷ id ∷ low ∷ []) more p short some is = refl
cut_behind_sync (class ∷ id ∷ low ∷ high ∷ tail) more p short some is =
    let low_is : low ≡ length p.payload % 256 = cc in
    let high_is : high ≡ length p.payload / 256 = cc in
    let len : low + 256 * high ≡ length p.payload = omega arith in
    cut_length (low + 256 * high) (class ∷ id ∷ low ∷ high ∷ tail) (omega arith)
    (omega (arith, ap length is, length-append tail more, length-append p.payload (p.ck_a ∷ p.ck_b ∷ [])))

pub pending_if : (bytes : List ℕ) → IsProperPrefix bytes → shape_of bytes ≡ Pending
unfolding shape_of shape_behind_first
pending_if [] (more, some, (p, parts, is)) = refl
pending_if (first ∷ []) (more, some, (p, parts, is)) =
    let one : first ≡ 0xb5 = cc in
    rw (eq-eqb first 0xb5 one) refl
pending_if (first ∷ second ∷ rest) (more, some, (p, parts, is)) =
    let one : first ≡ 0xb5 = cc in
    let two : second ≡ 0x62 = cc in
    let behind : rest ++ more ≡ covered p ++ p.ck_a ∷ p.ck_b ∷ [] = cc in
    rw (eq-eqb first 0xb5 one, eq-eqb second 0x62 two) (cut_behind_sync rest more p parts.short some behind)

pub payload_read : (p : Parts) → payload_of (spelling p) ≡ p.payload
payload_read p =
    let count : length (spelling p) - 8 ≡ length p.payload = omega (arith, length_spelling p) in
    ap (λ n. take n (p.payload ++ p.ck_a ∷ p.ck_b ∷ [])) count ∙ take-append_seam p.payload (p.ck_a ∷ p.ck_b ∷ [])
