-- A time and a date that were written are read back.
use Rattle.std.proofs.Common.{◌≡◌, ℕ, ◌+◌, ◌*◌, ◌/◌, ◌%◌, ◌^◌, ◌<◌, ◌≤◌, Bool, true, false, cond, ◌&&◌, List, [], ◌++◌, length, refl, sym, ap, ◌∙◌, arith, append-nil, Some, None, pos, unsigned_abs}
use Rattle.std.specs.Prelude.{nat_le, ◌==◌}
use Rattle.std.specs.Option.{option_and_then}
use Rattle.std.specs.List.{list_all}
use Rattle.std.specs.Char.{is_ascii_digit}
use Rattle.std.proofs.lemmas.Bool.{and_from, cond-true}
use Rattle.std.proofs.lemmas.Bool.Decides.{nat_tests}
use Rattle.jiff_core.proofs.SignedLemmas.{signed_arith}
use Rattle.gps_fixed.specs.Civil.{CivilDate, civil_of, day_number, month_length}
use Rattle.gps_fixed.specs.Moment.{Moment}
use Rattle.gps_fixed.specs.declared.numeral.Numeral.{Numeral}
use Rattle.gps_fixed.specs.Numeral.{Parts, AreParts, spelling, reading, number, first_digits, numeral}
use Rattle.gps_fixed.specs.Scaled.{digits_of, has_whole, magnitude_if}
use Rattle.gps_fixed.specs.Text.{digits_in}
use Rattle.gps_fixed.proofs.CivilLaws.{IsAt, is_at, day_number_some}
use Rattle.gps_fixed.proofs.NumeralTheorem.{numeral_exact}
use Rattle.nmea_decode.specs.Readings.{clock as clock_read, time_of, plain_number, full_year, dated, date_of}
use Rattle.pseudo_nmea.specs.Fields.{clock, clock_digits, date, date_digits, is_short_year}
use Rattle.pseudo_nmea.specs.Fitting.{is_dated}
use Rattle.pseudo_nmea.proofs.Back.{point_back}
use Rattle.pseudo_nmea.proofs.Digits.{digits_pass, digits_value, both_pass, number_behind}

-- six digits in three pairs
abbrev pairs : ℕ → ℕ → ℕ → List ℕ
pairs a b c = digits_in 2 a ++ digits_in 2 b ++ digits_in 2 c

pairs_pass : (a b c : ℕ) → list_all is_ascii_digit (pairs a b c) ≡ true
pairs_pass a b c = both_pass (digits_in 2 a ++ digits_in 2 b) (digits_in 2 c) (both_pass (digits_in 2 a) (digits_in 2 b) (digits_pass 2 a) (digits_pass 2 b)) (digits_pass 2 c)

pairs_value : (a b c : ℕ) → a < 100 → b < 100 → c < 100 → number (pairs a b c) ≡ 10_000 * a + 100 * b + c
pairs_value a b c h k l =
    let front = number_behind (digits_in 2 a) 2 b in
    let first = digits_value 2 a in
    let all = number_behind (digits_in 2 a ++ digits_in 2 b) 2 c in
    all ∙ (let e : number (digits_in 2 a ++ digits_in 2 b) * 10 ^ 2 + c % 10 ^ 2 ≡ 10_000 * a + 100 * b + c = omega (arith, front, first) in e)

-- the clock
clock_back : (s f : ℕ) → s < 86_400 → f < 10 ^ 9 → clock_read ((10_000 * (s / 3_600) + 100 * (s / 60 % 60) + s % 60) * 10 ^ 9 + f) ≡ Some (s * 10 ^ 9 + f)
clock_back s f h k =
    let c : ℕ = 10_000 * (s / 3_600) + 100 * (s / 60 % 60) + s % 60 in
    let n : ℕ = c * 10 ^ 9 + f in
    let seconds : n / 10 ^ 9 ≡ c = omega arith in
    let rest : n % 10 ^ 9 ≡ f = omega arith in
    let hour : n / 10 ^ 9 / 10_000 ≡ s / 3_600 = omega arith in
    let minute : n / 10 ^ 9 / 100 % 100 ≡ s / 60 % 60 = omega arith in
    let second : n / 10 ^ 9 % 100 ≡ s % 60 = omega arith in
    let sum : ((s / 3_600) * 3600 + (s / 60 % 60) * 60 + s % 60) * 10 ^ 9 + f ≡ s * 10 ^ 9 + f = omega arith in
    let test : (nat_le (s / 3_600) 23 && nat_le (s / 60 % 60) 59 && nat_le (s % 60) 60) ≡ true = (let a : s / 3_600 ≤ 23 = omega arith in let b : s / 60 % 60 ≤ 59 = omega arith in let d : s % 60 ≤ 60 = omega arith in grind (arith, nat_tests)) in
    (λ i. cond (nat_le (hour i) 23 && nat_le (minute i) 59 && nat_le (second i) 60) (Some ((hour i * 3600 + minute i * 60 + second i) * 10 ^ 9 + rest i)) None)
    ∙ cond-true (nat_le (s / 3_600) 23 && nat_le (s / 60 % 60) 59 && nat_le (s % 60) 60) (Some (((s / 3_600) * 3600 + (s / 60 % 60) * 60 + s % 60) * 10 ^ 9 + f)) None test
    ∙ ap (λ (m : ℕ). Some m) sum

pub time_back : (at : Moment) → at.nsec < 10 ^ 9 → time_of (clock (Some at)) ≡ Some (unsigned_abs at.sec % 86_400 * 10 ^ 9 + at.nsec)
unfolding time_of clock clock_digits
time_back at small =
    let s : ℕ = unsigned_abs at.sec % 86_400 in
    let whole = pairs (s / 3_600) (s / 60 % 60) (s % 60) in
    let day : s < 86_400 = omega arith in
    let long : length whole ≡ 6 = refl in
    let value : number whole * 10 ^ 9 + at.nsec % 10 ^ 9 ≡ (10_000 * (s / 3_600) + 100 * (s / 60 % 60) + s % 60) * 10 ^ 9 + at.nsec = omega (arith, pairs_value (s / 3_600) (s / 60 % 60) (s % 60) (omega arith) (omega arith) (omega arith)) in
    ap (option_and_then clock_read) (point_back 6 9 whole at.nsec (pairs_pass (s / 3_600) (s / 60 % 60) (s % 60)) long (omega arith) (omega arith) ∙ ap (λ (m : ℕ). Some m) value)
    ∙ clock_back s at.nsec day small

-- digits alone
plain_back : (whole : List ℕ) (n : ℕ) → list_all is_ascii_digit whole ≡ true → length whole ≡ 6 → number whole ≡ n → plain_number 6 whole ≡ Some n
unfolding plain_number digits_of
plain_back whole n all long value =
    let p : Parts = record { whole = whole; behind = None } in
    let are : AreParts p = record { whole = all; behind = refl; few = omega arith } in
    let text : whole ≡ spelling p = sym (append-nil whole) in
    let is : numeral 0 (spelling p) ≡ Some (reading 0 p) = (numeral_exact 0 (spelling p) (reading 0 p)).1 (p, are, refl, refl) in
    let six : (length whole == 6) ≡ true = grind (arith, nat_tests) in
    let test : has_whole 6 (reading 0 p) ≡ true = and_from (length whole == 6) true six refl in
    cond-true (length whole == 6) _ None six
    ∙ ap (λ (t : List ℕ). option_and_then (λ m. magnitude_if (has_whole 6 m) m) (numeral 0 t)) text
    ∙ ap (option_and_then (λ (m : Numeral). magnitude_if (has_whole 6 m) m)) is
    ∙ cond-true (has_whole 6 (reading 0 p)) (Some (reading 0 p).magnitude) None test
    ∙ ap (λ (m : ℕ). Some m) (let e : number whole * 10 ^ 0 + number (first_digits 0 []) ≡ n = omega arith in e)

month_short : (y m : ℕ) → month_length y m ≤ 31
month_short y m = grind arith

full_back : (y : ℕ) → 1980 ≤ y → y ≤ 2079 → full_year (y % 100) ≡ y
full_back y low high = by_test (nat_le 80 (y % 100)) refl
  where
    by_test : (b : Bool) → nat_le 80 (y % 100) ≡ b → cond b (1900 + y % 100) (2000 + y % 100) ≡ y
    by_test true test = let late : 80 ≤ y % 100 = grind (arith, nat_tests) in omega arith
    by_test false test = let early : y % 100 < 80 = grind (arith, nat_tests) in omega arith

civil_back : (n : ℕ) (c : CivilDate) → civil_of n ≡ c → IsAt n c → is_short_year c ≡ true → date_of (date_digits c) ≡ Some (pos n)
unfolding date_of date_digits
civil_back n c is at short =
    let low : 1980 ≤ c.year = grind (arith, nat_tests) in
    let high : c.year ≤ 2079 = grind (arith, nat_tests) in
    let month = at.to_month in
    let day : c.day ≤ 31 = (let bound = month_short c.year c.month in let to = at.to_day in omega arith) in
    let whole = pairs c.day c.month (c.year % 100) in
    let value : number whole ≡ 10_000 * c.day + 100 * c.month + c.year % 100 = pairs_value c.day c.month (c.year % 100) (omega arith) (omega arith) (omega arith) in
    let m : ℕ = 10_000 * c.day + 100 * c.month + c.year % 100 in
    let years : m % 100 ≡ c.year % 100 = omega arith in
    let months : m / 100 % 100 ≡ c.month = omega arith in
    let days : m / 10_000 ≡ c.day = omega arith in
    let full = ap full_year years ∙ full_back c.year low high in
    let number_is : day_number (pos c.year) c.month c.day ≡ Some (pos n) = (day_number_some (pos c.year) c.month c.day n).1 (record { from = omega (arith, signed_arith); to = omega (arith, signed_arith); date = is }) in
    ap (λ (t : List ℕ). option_and_then dated (plain_number 6 t)) (cond-true (is_short_year c) whole [] short)
    ∙ ap (option_and_then dated) (plain_back whole m (pairs_pass c.day c.month (c.year % 100)) refl value)
    ∙ (λ i. day_number (pos (full i)) (months i) (days i))
    ∙ number_is

pub date_back : (at : Moment) → is_dated at ≡ true → date_of (date (Some at)) ≡ Some (pos (unsigned_abs at.sec / 86_400))
unfolding date
date_back at short =
    let n : ℕ = unsigned_abs at.sec / 86_400 in
    civil_back n (civil_of n) refl (is_at n) short
