-- Each field of the two sentences is read back by the decoder.
use Rattle.std.proofs.Common.{◌≡◌, ℕ, ◌+◌, ◌*◌, ◌/◌, ◌%◌, ◌^◌, ◌<◌, ◌≤◌, true, List, [], ◌++◌, length, refl, ap, ◌∙◌, arith, append_assoc, Some, None, ℤ, pos, negsuc, unsigned_abs}
use Rattle.std.specs.Prelude.{codes, nat_le, nat_lt, int_le, ◌==◌}
use Rattle.std.specs.Option.{option_map, option_and_then}
use Rattle.std.specs.List.{list_all}
use Rattle.std.specs.Char.{is_ascii_digit}
use Rattle.std.proofs.lemmas.Bool.{and_parts, and_from, cond-true}
use Rattle.std.proofs.lemmas.Bool.Decides.{nat_tests}
use Rattle.std.proofs.lemmas.Int.{ints}
use Rattle.gps_fixed.specs.declared.numeral.Numeral.{Numeral}
use Rattle.gps_fixed.specs.Numeral.{Parts, AreParts, spelling, reading, number, scaled_magnitude, numeral}
use Rattle.gps_fixed.specs.Ratio.{nearest}
use Rattle.gps_fixed.specs.Scaled.{scaled, digits_of, has_whole, magnitude_if}
use Rattle.gps_fixed.specs.Text.{digits_in, scaled_text}
use Rattle.gps_fixed.proofs.NumeralTheorem.{numeral_exact}
use Rattle.nmea_decode.specs.Readings.{up_to, number_up_to, height_of, track_of, speed_of}
use Rattle.pseudo_nmea.specs.Fields.{knots, course, metres, is_speed, is_course, is_height}
use Rattle.pseudo_nmea.proofs.Digits.{length_digits, digits_pass, digits_value, first_all}
use Rattle.pseudo_nmea.proofs.Numbers.{number_back}

-- heights
pub height_back : (h : ℤ) → is_height h ≡ true → height_of (metres (Some h)) ≡ Some h
unfolding metres
height_back h fits =
    let small : unsigned_abs h < 10 ^ 12 = grind (arith, nat_tests) in
    ap (scaled 3) (cond-true (is_height h) (scaled_text 3 h) [] fits) ∙ number_back 3 h (omega arith) (omega arith)

-- a number from zero to a given greatest one
up_to_is : (most n : ℕ) → n ≤ most → up_to most (pos n) ≡ Some n
up_to_is most n h = cond-true (nat_le n most) (Some n) None (grind (arith, nat_tests))

number_up_to_back : (most k n : ℕ) → 0 < 10 ^ k → n / 10 ^ k < 10 ^ 9 → n ≤ most → number_up_to most k (scaled_text k (pos n)) ≡ Some n
unfolding number_up_to
number_up_to_back most k n some small h = ap (option_and_then (up_to most)) (number_back k (pos n) some small) ∙ up_to_is most n h

-- tracks
pub track_back : (t : ℤ) → is_course t ≡ true → track_of (course (Some t)) ≡ Some t
unfolding course track_of
track_back (pos n) fits =
    let small : n ≤ 3_600_000 = grind (arith, nat_tests) in
    ap (λ (text : List ℕ). option_map (λ m. pos m) (number_up_to 3_600_000 4 text)) (cond-true (is_course (pos n)) (scaled_text 4 (pos n)) [] fits)
    ∙ ap (option_map (λ (m : ℕ). pos m)) (number_up_to_back 3_600_000 4 n (omega arith) (omega arith) small)
track_back (negsuc n) fits = absurd (let none : int_le (pos 0) (negsuc n) ≡ true = (and_parts (int_le (pos 0) (negsuc n)) (int_le (negsuc n) (pos 3_600_000)) fits).0 in grind (arith, nat_tests))

-- speeds: a knot and back
pub to_knots : (n : ℕ) → nearest (pos n) (pos 900) (pos 463) ≡ pos ((1800 * n + 463) / 926)
to_knots n = omega (arith, ints)

from_knots : (k : ℕ) → nearest (pos k) (pos 463) (pos 900) ≡ pos ((926 * k + 900) / 1800)
from_knots k = omega (arith, ints)

pub speed_back : (v : ℤ) → is_speed v ≡ true → speed_of (knots (Some v)) ≡ Some v
unfolding knots speed_of
speed_back (pos n) fits =
    let small : n ≤ 514_444_444 = grind (arith, nat_tests) in
    let k : ℕ = (1800 * n + 463) / 926 in
    let few : k ≤ 10 ^ 9 = omega arith in
    let again : (926 * k + 900) / 1800 ≡ n = omega arith in
    ap (λ (text : List ℕ). option_map (λ m. nearest (pos m) (pos 463) (pos 900)) (number_up_to (10 ^ 9) 3 text)) (cond-true (is_speed (pos n)) (scaled_text 3 (nearest (pos n) (pos 900) (pos 463))) [] fits ∙ ap (scaled_text 3) (to_knots n))
    ∙ ap (option_map (λ (m : ℕ). nearest (pos m) (pos 463) (pos 900))) (number_up_to_back (10 ^ 9) 3 k (omega arith) (omega arith) few)
    ∙ ap Some (from_knots k) ∙ ap (λ (m : ℕ). Some (pos m)) again
speed_back (negsuc n) fits = absurd (let none : int_le (pos 0) (negsuc n) ≡ true = (and_parts (int_le (pos 0) (negsuc n)) (int_le (negsuc n) (pos 514_444_444)) fits).0 in grind (arith, nat_tests))

-- digits, a point, and decimals
pub point_back : (count k : ℕ) (whole : List ℕ) (n : ℕ) → list_all is_ascii_digit whole ≡ true → length whole ≡ count → count ≤ 9 → 0 < k
    → digits_of count k (whole ++ codes "." ++ digits_in k n) ≡ Some (number whole * 10 ^ k + n % 10 ^ k)
unfolding digits_of
point_back count k whole n all long few some =
    let p : Parts = record { whole = whole; behind = Some (digits_in k n) } in
    let are : AreParts p = record { whole = all; behind = digits_pass k n; few = omega arith } in
    let text : (whole ++ codes ".") ++ digits_in k n ≡ spelling p = append_assoc whole (codes ".") (digits_in k n) in
    let is : numeral k (spelling p) ≡ Some (reading k p) = (numeral_exact k (spelling p) (reading k p)).1 (p, are, refl, refl) in
    let count_is : (length whole == count) ≡ true = grind (arith, nat_tests) in
    let behind : nat_lt 0 (length (digits_in k n)) ≡ true = (let l = length_digits k n in grind (arith, nat_tests)) in
    let test : has_whole count (reading k p) ≡ true = and_from (length whole == count) (nat_lt 0 (length (digits_in k n))) count_is behind in
    let value : scaled_magnitude k p ≡ number whole * 10 ^ k + n % 10 ^ k = ap (λ (m : ℕ). number whole * 10 ^ k + m) (ap number (first_all k (digits_in k n) (length_digits k n)) ∙ digits_value k n) in
    ap (λ (t : List ℕ). option_and_then (λ m. magnitude_if (has_whole count m) m) (numeral k t)) text
    ∙ ap (option_and_then (λ (m : Numeral). magnitude_if (has_whole count m) m)) is
    ∙ cond-true (has_whole count (reading k p)) (Some (scaled_magnitude k p)) None test
    ∙ ap Some value
