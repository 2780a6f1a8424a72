-- The sums of a part of a list that moves over it; and when a list has all the bytes of a frame.
use Rattle.std.proofs.Common.{◌≡◌, ℕ, suc, ◌+◌, ◌-◌, ◌*◌, ◌%◌, ◌<◌, ◌≤◌, Bool, false, cond, List, [], ◌∷◌, length, take, drop, get_or, fold, refl, sym, ap, ◌∙◌, take-add, arith}
use Rattle.std.specs.Prelude.{nat_lt}
use Rattle.std.proofs.lemmas.Bool.{le-ltb}
use Rattle.std.proofs.lemmas.List.{drop-drop}
use Rattle.std.proofs.lemmas.List.Sums.{fold-append}
use Rattle.std.proofs.lemmas.Nat.{mul-mod}
use Rattle.std.specs.Simd.Lanes.{sum_l}
use Rattle.ubx_frame.specs.declared.checksum.Sums.{Sums}
use Rattle.ubx_frame.specs.declared.frame.Shape.TheVariants.{Whole, No}
use Rattle.ubx_frame.specs.declared.window.Window.{Window}
use Rattle.ubx_frame.specs.Checksum.{after_byte, sums_of, weighted}
use Rattle.ubx_frame.specs.Scan.{is_right, shape_of_length, shape_behind_sync, shape_behind_first, shape_of}
use Rattle.ubx_frame.specs.Window.{IsWindow, IsDecided}
use Rattle.ubx_frame.proofs.Rows.{pair, pair_is, plain, sums_are}

-- ---- sums that go on
-- a factor counts modulo 256 only
pub product : (count byte : ℕ) → byte < 256 → count % 256 * byte % 256 ≡ count * byte % 256
product count byte small =
    let same : byte % 256 ≡ byte = omega (arith, small) in
    sym (mul-mod count byte 256 ∙ ap (λ b. count % 256 * b % 256) same)

a_more : (a o s : ℕ) → o ≡ s % 256 → (a + o) % 256 ≡ (a + s) % 256
a_more a o s is = omega arith

b_more : (b c o m w : ℕ) → c ≡ m % 256 → o ≡ w % 256 → ((b + c) % 256 + o) % 256 ≡ (b + m + w) % 256
b_more b c o m w is is' = omega arith

-- the sums after further bytes, from the sums of those bytes
pub gone_on : (sums own : Sums) (more : List ℕ) (counted : ℕ) → sums.a < 256 → sums.b < 256 → own ≡ sums_of more → counted ≡ length more * sums.a % 256
    → record { a = (sums.a + own.a) % 256; b = ((sums.b + counted) % 256 + own.b) % 256 } ≡ fold after_byte sums more
unfolding pair
gone_on sums own more counted small small_too is times =
    let own_is : own ≡ pair (sum_l more % 256) (weighted more % 256) = is ∙ sums_are more in
    pair_is _ _ _ _ (a_more sums.a own.a (sum_l more) (ap (λ s. s.a) own_is))
    (b_more sums.b counted own.b (length more * sums.a) (weighted more) times (ap (λ s. s.b) own_is))
    ∙ sym (plain sums.a sums.b more small small_too)

a_less : (a o s : ℕ) → a < 256 → o ≡ (a + s) % 256 → (o + (256 - a)) % 256 ≡ s % 256
a_less a o s small is = omega arith

b_less : (b c o m w : ℕ) → b < 256 → c ≡ m % 256 → o ≡ (b + m + w) % 256 → ((o + (256 - b)) % 256 + (256 - c)) % 256 ≡ w % 256
b_less b c o m w small is is' = omega arith

-- the sums of the last bytes, from the sums before and after them
pub since : (before after : Sums) (more : List ℕ) (counted : ℕ) → before.a < 256 → before.b < 256 → counted ≡ length more * before.a % 256
    → after ≡ fold after_byte before more
    → record { a = (after.a + (256 - before.a)) % 256; b = ((after.b + (256 - before.b)) % 256 + (256 - counted)) % 256 } ≡ sums_of more
unfolding pair
since before after more counted small small_too times is =
    let all : after ≡ pair ((before.a + sum_l more) % 256) ((before.b + length more * before.a + weighted more) % 256) =
    is ∙ plain before.a before.b more small small_too in
    pair_is _ _ _ _ (a_less before.a after.a (sum_l more) small (ap (λ s. s.a) all))
    (b_less before.b counted after.b (length more * before.a) (weighted more) small_too times (ap (λ s. s.b) all))
    ∙ sym (sums_are more)

-- ---- a part that moves
pub nothing_yet : (bytes : List ℕ) (place : ℕ) (sums : Sums) → place ≤ length bytes
    → IsWindow (record { from = place; to = place; before = sums; after = sums }) bytes
nothing_yet bytes place sums within =
    let none : place - place ≡ 0 = omega arith in
    record { order = omega arith; inside = within; sums = rw none refl }

-- two parts that follow one another
parts : (sums : Sums) (bytes : List ℕ) (from mid to : ℕ) → from ≤ mid → mid ≤ to
    → fold after_byte sums (take (to - from) (drop from bytes))
    ≡ fold after_byte (fold after_byte sums (take (mid - from) (drop from bytes))) (take (to - mid) (drop mid bytes))
parts sums bytes from mid to first second =
    let whole : to - from ≡ (mid - from) + (to - mid) = omega (arith, first, second) in
    let behind : drop (mid - from) (drop from bytes) ≡ drop mid bytes =
    drop-drop (mid - from) from bytes ∙ ap (λ n. drop n bytes) (omega (arith, first)) in
    ap (λ n. fold after_byte sums (take n (drop from bytes))) whole
    ∙ ap (fold after_byte sums) (take-add (mid - from) (to - mid) (drop from bytes))
    ∙ fold-append after_byte sums (take (mid - from) (drop from bytes)) (take (to - mid) (drop (mid - from) (drop from bytes)))
    ∙ ap (λ t. fold after_byte (fold after_byte sums (take (mid - from) (drop from bytes))) (take (to - mid) t)) behind

pub begins_later : (window : Window) (bytes : List ℕ) (from : ℕ) (before : Sums) → IsWindow window bytes → window.from ≤ from → from ≤ window.to
    → before ≡ fold after_byte window.before (take (from - window.from) (drop window.from bytes))
    → IsWindow (record { from = from; to = window.to; before = before; after = window.after }) bytes
begins_later window bytes from before is first second known = record {
  order = second;
  inside = is.inside;
  sums = is.sums ∙ parts window.before bytes window.from from window.to first second
      ∙ ap (λ s. fold after_byte s (take (window.to - from) (drop from bytes))) (sym known);
}

pub ends_later : (window : Window) (bytes : List ℕ) (to : ℕ) (after : Sums) → IsWindow window bytes → window.to ≤ to → to ≤ length bytes
    → after ≡ fold after_byte window.after (take (to - window.to) (drop window.to bytes))
    → IsWindow (record { from = window.from; to = to; before = window.before; after = after }) bytes
ends_later window bytes to after is further within known = record {
  order = omega (arith, is.order, further);
  inside = within;
  sums = known ∙ ap (λ s. fold after_byte s (take (to - window.to) (drop window.to bytes))) is.sums
      ∙ sym (parts window.before bytes window.from window.to to is.order further);
}

-- ---- all the bytes of a frame
decided : (class id low high : ℕ) (tail : List ℕ) → low + 256 * high ≤ 2048
    → low + 256 * high + 8 ≤ length (0xb5 ∷ 0x62 ∷ class ∷ id ∷ low ∷ high ∷ tail)
    → IsDecided (low + 256 * high) (0xb5 ∷ 0x62 ∷ class ∷ id ∷ low ∷ high ∷ tail)
unfolding shape_of shape_behind_first shape_behind_sync shape_of_length
decided class id low high tail short long =
    let narrow : nat_lt 2048 (low + 256 * high) ≡ false = le-ltb 2048 (low + 256 * high) short in
    let full : nat_lt (length (class ∷ id ∷ low ∷ high ∷ tail)) (low + 256 * high + 6) ≡ false =
    le-ltb (length (class ∷ id ∷ low ∷ high ∷ tail)) (low + 256 * high + 6) (omega arith) in
    let back : drop (low + 256 * high + 6) (0xb5 ∷ 0x62 ∷ class ∷ id ∷ low ∷ high ∷ tail) ≡ drop (low + 256 * high + 4) (class ∷ id ∷ low ∷ high ∷ tail) =
    drop_two (low + 256 * high) class id low high tail in
    record { inside = long; shape = rw (narrow, full, back) refl }
  where
    drop_two : (len : ℕ) (class id low high : ℕ) (tail : List ℕ) → drop (len + 6) (0xb5 ∷ 0x62 ∷ class ∷ id ∷ low ∷ high ∷ tail) ≡ drop (len + 4) (class ∷ id ∷ low ∷ high ∷ tail)
    drop_two len class id low high tail = let e : len + 6 ≡ suc (suc (len + 4)) = omega arith in rw e refl

pub decided_at : (bytes : List ℕ) (first second low high : ℕ) → 6 ≤ length bytes → first ≡ get_or bytes 0 0 → second ≡ get_or bytes 1 0
    → low ≡ get_or bytes 4 0 → high ≡ get_or bytes 5 0 → first ≡ 0xb5 → second ≡ 0x62 → low + 256 * high ≤ 2048
    → low + 256 * high + 8 ≤ length bytes → IsDecided (low + 256 * high) bytes
decided_at [] first second low high six is_first is_second is_low is_high b5 x62 short long = absurd (omega arith)
decided_at (a ∷ []) first second low high six is_first is_second is_low is_high b5 x62 short long = absurd (omega arith)
decided_at (a ∷ b ∷ []) first second low high six is_first is_second is_low is_high b5 x62 short long = absurd (omega arith)
decided_at (a ∷ b ∷ c ∷ []) first second low high six is_first is_second is_low is_high b5 x62 short long = absurd (omega arith)
decided_at (a ∷ b ∷ c ∷ d ∷ []) first second low high six is_first is_second is_low is_high b5 x62 short long = absurd (omega arith)
decided_at (a ∷ b ∷ c ∷ d ∷ e ∷ []) first second low high six is_first is_second is_low is_high b5 x62 short long = absurd (omega arith)
decided_at (a ∷ b ∷ c ∷ d ∷ e ∷ f ∷ tail) first second low high six is_first is_second is_low is_high b5 x62 short long =
    let a_is : a ≡ 0xb5 = sym is_first ∙ b5 in
    let b_is : b ≡ 0x62 = sym is_second ∙ x62 in
    rw (a_is, b_is, is_low, is_high) (decided c d e f tail (rw (is_low, is_high) at short) (rw (is_low, is_high) at long))

-- what the checksum decides, with both places in the whole list
pub told : (bytes : List ℕ) (place len from to : ℕ) (right : Bool) → IsDecided len (drop place bytes) → from ≡ place + 2 → to ≡ place + len + 6
    → right ≡ is_right (take (to - from) (drop from bytes)) (drop to bytes) → cond right (Whole (len + 8)) No ≡ shape_of (drop place bytes)
told bytes place len from to right decided is_from is_to is =
    let count : to - from ≡ len + 4 = omega (arith, is_from, is_to) in
    let front : drop from bytes ≡ drop 2 (drop place bytes) = ap (λ n. drop n bytes) is_from ∙ sym (drop-drop 2 place bytes) in
    let back : drop to bytes ≡ drop (len + 6) (drop place bytes) = ap (λ n. drop n bytes) (omega (arith, is_to)) ∙ sym (drop-drop (len + 6) place bytes) in
    ap (λ r. cond r (Whole (len + 8)) No)
    (is ∙ ap (λ n. is_right (take n (drop from bytes)) (drop to bytes)) count
    ∙ ap (λ t. is_right (take (len + 4) t) (drop to bytes)) front
    ∙ ap (is_right (take (len + 4) (drop 2 (drop place bytes)))) back)
    ∙ sym decided.shape
