-- Whole numbers are read exactly.
use Rattle.std.proofs.Common.{◌≡◌, ℕ, zero, suc, ◌+◌, ◌^◌, ◌<◌, ◌≤◌, Bool, true, false, cond, not, ◌&&◌, ◌||◌, nat_le, nat_lt, List, [], ◌∷◌, ◌++◌, Option, Some, None, refl, sym, ap, ◌∙◌, subst, length, take, drop, take-append-drop, arith, codes, ℤ, pos, negsuc, neg_ℤ, unsigned_abs}
use Rattle.std.specs.Prelude.{◌==◌, if◌then◌else◌}
use Rattle.std.specs.List.{list_all, prefix_len}
use Rattle.std.specs.Char.{is_ascii_digit}
use Rattle.std.specs.Fmt.{decimal}
use Rattle.std.proofs.lemmas.List.{take_at, drop_at}
use Rattle.std.proofs.lemmas.Bool.{and_parts, and_from, cond-true}
use Rattle.std.proofs.lemmas.Bool.Decides.{nat_tests}
use Rattle.std.proofs.lemmas.Int.{ints}
use Rattle.gps_fixed.specs.Numeral.{number}
use Rattle.json_line.specs.Json.{signed}
use Rattle.gps_client.specs.Ranges.{IsI32}
use Rattle.gps_client.specs.Reading.{made, such, behind, is_number_byte, is_plain, whole_at, up_to, signed_at, negated_at}
use Rattle.gps_client.proofs.Decimals.{decimal_is, decimal_plain, decimal_of}
use Rattle.gps_client.proofs.Digits.{run_passes}
use Rattle.gps_client.proofs.Rows.{IsPart, After, is_end, pair_same, behind_sound, behind_full, part_made, part_such, part_as}

-- a run of bytes, up to one that does not pass
abbrev pub Stops : (ℕ → Bool) → List ℕ → Type 0
Stops p [] = Unit {0}
Stops p (c ∷ text) = p c ≡ false

pub run : (p : ℕ → Bool) (xs rest : List ℕ) → list_all p xs ≡ true → Stops p rest → prefix_len p (xs ++ rest) ≡ length xs
run p [] [] all stops = refl
run p [] (c ∷ rest) all stops = ap (λ b. cond b (1 + prefix_len p rest) 0) stops
run p (x ∷ xs) rest all stops =
    let parts = and_parts (p x) (list_all p xs) all in
    ap (λ b. cond b (1 + prefix_len p (xs ++ rest)) 0) parts.0 ∙ omega (arith, run p xs rest parts.1 stops)

pub end_stops : (rest : List ℕ) → is_end rest ≡ true → Stops is_number_byte rest × Stops is_ascii_digit rest
end_stops [] e = (tt, tt)
end_stops (c ∷ rest) e = by_tests (is_ascii_digit c) ((c == 45)) ((c == 46)) e
  where
    by_tests : (d m p : Bool) → not (d || m || p) ≡ true → ((d || m || p) ≡ false) × (d ≡ false)
    by_tests true m p e = absurd cc
    by_tests false true p e = absurd cc
    by_tests false false true e = absurd cc
    by_tests false false false e = (refl, refl)

-- what a test chose
pub chosen : {X : Type 0} (b : Bool) (x y : X) (a c : List ℕ) → Path (Option (X × List ℕ)) (cond b (Some (x, a)) None) (Some (y, c)) → (b ≡ true) × (x ≡ y) × (a ≡ c)
chosen true x y a c e = let same = pair_same x y a c e in (refl, same.0, same.1)
chosen false x y a c e = absurd cc

digits_at : (ds rest : List ℕ) → list_all is_ascii_digit ds ≡ true → is_plain ds ≡ true → is_end rest ≡ true → whole_at (ds ++ rest) ≡ Some (number ds, rest)
unfolding whole_at
digits_at ds rest all plain end =
    let stop = (end_stops rest end).1 in
    let t : take (length ds) (ds ++ rest) ≡ ds = take_at ds rest (length ds) refl in
    let d : drop (length ds) (ds ++ rest) ≡ rest = drop_at ds rest (length ds) refl in
    ap (λ (k : ℕ). if is_plain (take k (ds ++ rest)) then Some (number (take k (ds ++ rest)), drop k (ds ++ rest)) else None) (run is_ascii_digit ds rest all stop)
    ∙ (ap (λ (x : List ℕ). if is_plain x then Some (number x, drop (length ds) (ds ++ rest)) else None) t
    ∙ (ap (λ (x : List ℕ). if is_plain ds then Some (number ds, x) else None) d
    ∙ cond-true (is_plain ds) (Some (number ds, rest)) None plain))

abbrev pub IsSmall : ℕ → Type 0
IsSmall n = n < 10 ^ 19

whole_sound : (b : List ℕ) (n : ℕ) (rest : List ℕ) → whole_at b ≡ Some (n, rest) → IsSmall n × (b ≡ decimal n ++ rest)
unfolding whole_at
whole_sound b n rest e =
    let len = prefix_len is_ascii_digit b in
    let c = chosen (is_plain (take len b)) (number (take len b)) n (drop len b) rest e in
    let d = decimal_of (take len b) (run_passes b) c.0 in
    (subst IsSmall c.1 d.1, sym (take-append-drop len b) ∙ (ap (λ t. t ++ drop len b) (sym d.0 ∙ ap decimal c.1) ∙ ap (λ t. decimal n ++ t) c.2))

pub whole_value : IsPart [] IsSmall decimal whole_at
whole_value = record {
  sound = whole_sound;
  full = λ n rest small after.
      let is = decimal_is n (omega (arith, small)) in
      digits_at (decimal n) rest is.all (decimal_plain n small) after.0 ∙ ap (λ m. Some (m, rest)) is.value;
}

pub up_to_value : (most : ℕ) → most < 10 ^ 19 → IsPart [] (λ n. n ≤ most) decimal (up_to most)
up_to_value most h = part_as (λ n is. grind (arith, nat_tests, is.1)) (λ n is. (omega (arith, is, h), grind (arith, nat_tests, is))) (λ n. refl) (part_such (λ n. nat_le n most) whole_value)

-- numbers with a sign
abbrev IsBelow : ℤ → Type 0
IsBelow (pos n) = ⊥
IsBelow (negsuc n) = n < 2_147_483_648

abbrev IsAbove : ℤ → Type 0
IsAbove (pos n) = n ≤ 2_147_483_647
IsAbove (negsuc n) = ⊥

below_value : IsPart [] IsBelow (λ z. decimal (unsigned_abs z)) (made (λ n. neg_ℤ (pos n)) (such (λ n. nat_lt 0 n && nat_le n 2_147_483_648) whole_at))
below_value = part_made (record { back = unsigned_abs; again = again; to = to; from = from; same = same }) (part_such (λ n. nat_lt 0 n && nat_le n 2_147_483_648) whole_value)
  where
    Range : ℕ → Type 0
    Range n = IsSmall n × ((nat_lt 0 n && nat_le n 2_147_483_648) ≡ true)

    again : (z : ℤ) → IsBelow z → neg_ℤ (pos (unsigned_abs z)) ≡ z
    again (pos n) s = absurd s
    again (negsuc n) s = refl

    to : (n : ℕ) → Range n → IsBelow (neg_ℤ (pos n))
    to zero r = absurd (let none = (and_parts (nat_lt 0 0) (nat_le 0 2_147_483_648) r.1).0 in cc)
    to (suc n) r = grind (arith, nat_tests, (and_parts (nat_lt 0 (suc n)) (nat_le (suc n) 2_147_483_648) r.1).1)

    from : (z : ℤ) → IsBelow z → Range (unsigned_abs z)
    from (pos n) s = absurd s
    from (negsuc n) s = (omega (arith, s), and_from (nat_lt 0 (suc n)) (nat_le (suc n) 2_147_483_648) (grind (arith, nat_tests)) (grind (arith, nat_tests, s)))

    same : (n : ℕ) → Range n → decimal n ≡ decimal (unsigned_abs (neg_ℤ (pos n)))
    same zero r = refl
    same (suc n) r = refl

above_value : IsPart [] IsAbove (λ z. decimal (unsigned_abs z)) (made (λ n. pos n) (up_to 2_147_483_647))
above_value = part_made (record { back = unsigned_abs; again = again; to = λ n r. r; from = from; same = λ n r. refl }) (up_to_value 2_147_483_647 (omega arith))
  where
    again : (z : ℤ) → IsAbove z → pos (unsigned_abs z) ≡ z
    again (pos n) s = refl
    again (negsuc n) s = absurd s

    from : (z : ℤ) → IsAbove z → unsigned_abs z ≤ 2_147_483_647
    from (pos n) s = s
    from (negsuc n) s = absurd s

in_below : (z : ℤ) → IsBelow z → IsI32 z
in_below (pos n) s = absurd s
in_below (negsuc n) s = (omega (arith, ints, s), omega (arith, ints))

in_above : (z : ℤ) → IsAbove z → IsI32 z
in_above (pos n) s = (omega (arith, ints), omega (arith, ints, s))
in_above (negsuc n) s = absurd s

pub no_minus : (ds rest : List ℕ) → list_all is_ascii_digit ds ≡ true → 0 < length ds → behind (codes "-") (ds ++ rest) ≡ None
unfolding behind
no_minus [] rest all some = absurd (omega (arith, some))
no_minus (c ∷ ds) rest all some =
    let digit = (and_parts (is_ascii_digit c) (list_all is_ascii_digit ds) all).0 in
    let other : (c == 45) ≡ false = grind (arith, nat_tests, digit) in
    ap (λ (b : Bool). cond (b && true) (Some (drop 1 (c ∷ ds ++ rest))) None) other

signed_is : (z : ℤ) → IsBelow z → codes "-" ++ decimal (unsigned_abs z) ≡ signed z
unfolding signed
signed_is (pos n) s = absurd s
signed_is (negsuc n) s = refl

plain_is : (z : ℤ) → IsAbove z → decimal (unsigned_abs z) ≡ signed z
unfolding signed
plain_is (pos n) s = refl
plain_is (negsuc n) s = absurd s

pub signed_value : IsPart [] IsI32 signed signed_at
unfolding signed_at
signed_value = record { sound = λ b z rest e. sound b z rest (behind (codes "-") b) refl (opened b z rest e); full = full }
  where
    opened : (b : List ℕ) (z : ℤ) (rest : List ℕ) → signed_at b ≡ Some (z, rest) → negated_at (behind (codes "-") b) b ≡ Some (z, rest)
    opened b z rest e = e

    sound : (b : List ℕ) (z : ℤ) (rest : List ℕ) (o : Option (List ℕ)) → behind (codes "-") b ≡ o → negated_at o b ≡ Some (z, rest) → IsI32 z × (b ≡ signed z ++ rest)
    sound b z rest (Some after) head e =
        let g = below_value.sound after z rest e in
        (in_below z g.0, behind_sound (codes "-") b after head ∙ (ap (λ t. codes "-" ++ t) g.1 ∙ ap (λ t. t ++ rest) (signed_is z g.0)))
    sound b z rest None head e =
        let g = above_value.sound b z rest e in
        (in_above z g.0, g.1 ∙ ap (λ t. t ++ rest) (plain_is z g.0))

    full : (z : ℤ) (rest : List ℕ) → IsI32 z → After [] rest → signed_at (signed z ++ rest) ≡ Some (z, rest)
    full (pos n) rest r after =
        let few : n ≤ 2_147_483_647 = omega (arith, ints, r.1) in
        let is = decimal_is n (omega (arith, few)) in
        ap (λ t. negated_at (behind (codes "-") (t ++ rest)) (t ++ rest)) (sym (plain_is (pos n) few))
        ∙ (ap (λ o. negated_at o (decimal n ++ rest)) (no_minus (decimal n) rest is.all is.some) ∙ above_value.full (pos n) rest few after)
    full (negsuc n) rest r after =
        let few : n < 2_147_483_648 = omega (arith, ints, r.0) in
        ap (λ t. negated_at (behind (codes "-") (t ++ rest)) (t ++ rest)) (sym (signed_is (negsuc n) few))
        ∙ (ap (λ o. negated_at o (codes "-" ++ decimal (suc n) ++ rest)) (behind_full (codes "-") (decimal (suc n) ++ rest)) ∙ below_value.full (negsuc n) rest few after)
