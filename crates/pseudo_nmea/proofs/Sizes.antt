-- The fields of the two sentences are short.
use Rattle.std.proofs.Common.{◌≡◌, ℕ, suc, ◌+◌, ◌*◌, ◌/◌, ◌%◌, ◌^◌, ◌<◌, ◌≤◌, Bool, true, false, cond, List, [], ◌∷◌, ◌++◌, length, refl, subst, sym, arith, length-append, Option, Some, None, ℤ, pos, negsuc, unsigned_abs}
use Rattle.std.specs.Prelude.{codes, int_le, ◌==◌}
use Rattle.std.specs.Fmt.{decimal}
use Rattle.std.proofs.lemmas.Bool.{and_parts}
use Rattle.std.proofs.lemmas.Bool.Decides.{nat_tests}
use Rattle.std.proofs.lemmas.Fmt.{length-decimal-le}
use Rattle.gps_fixed.specs.Civil.{CivilDate, civil_of}
use Rattle.gps_fixed.specs.Moment.{Moment}
use Rattle.gps_fixed.specs.Ratio.{nearest}
use Rattle.gps_fixed.specs.Text.{digits_in, scaled_text, unsigned_text}
use Rattle.gps_report.specs.declared.fix.Fix.{Fix}
use Rattle.gps_report.specs.declared.note.Position.{Position}
use Rattle.pseudo_nmea.specs.Fields.{clock, clock_digits, date, date_digits, is_short_year, angle, minutes, latitude, north, longitude, east, side, knots, course, metres, is_speed, is_course, is_height}
use Rattle.pseudo_nmea.specs.Sentences.{by_fix}
use Rattle.pseudo_nmea.proofs.Back.{to_knots}
use Rattle.pseudo_nmea.proofs.Digits.{length_digits}
use Rattle.pseudo_nmea.proofs.Rows.{rows}

either : (n : ℕ) (b : Bool) (xs ys : List ℕ) → (b ≡ true → length xs ≤ n) → length ys ≤ n → length (cond b xs ys) ≤ n
either n true xs ys h k = h refl
either n false xs ys h k = k

unsigned_size : (k n : ℕ) → n / 10 ^ k < 10 ^ 9 → length (unsigned_text k n) ≤ 10 + k
unsigned_size k n h =
    let whole = length-decimal-le 9 (n / 10 ^ k) (omega arith) h (omega arith) in
    let front = length-append (decimal (n / 10 ^ k)) (codes ".") in
    let all = length-append (decimal (n / 10 ^ k) ++ codes ".") (digits_in k (n % 10 ^ k)) in
    let point : length (codes ".") ≡ 1 = refl in
    let digits = length_digits k (n % 10 ^ k) in
    omega arith

scaled_size : (k : ℕ) (z : ℤ) → unsigned_abs z / 10 ^ k < 10 ^ 9 → length (scaled_text k z) ≤ 11 + k
scaled_size k (pos n) h = let few = unsigned_size k n h in omega arith
scaled_size k (negsuc n) h =
    let few = unsigned_size k (suc n) h in
    let all = length-append (codes "-") (unsigned_text k (suc n)) in
    let minus : length (codes "-") ≡ 1 = refl in
    omega arith

pub clock_size : (time : Option Moment) → length (clock time) ≤ 16
unfolding clock clock_digits
clock_size None = omega arith
clock_size (Some at) = omega arith

pub by_fix_size : (fix : Fix) (xs ys : List ℕ) → length xs ≤ 1 → length ys ≤ 1 → length (by_fix fix xs ys) ≤ 1
unfolding by_fix
by_fix_size fix xs ys h k = either 1 (fix.mode == 1) xs ys (λ _. h) k

pub latitude_size : (place : Option Position) → length (latitude place) ≤ 12
unfolding latitude angle minutes
latitude_size None = omega arith
latitude_size (Some p) = omega arith

pub longitude_size : (place : Option Position) → length (longitude place) ≤ 13
unfolding longitude angle minutes
longitude_size None = omega arith
longitude_size (Some p) = omega arith

side_size : (plus minus : List ℕ) (z : ℤ) → length plus ≤ 1 → length minus ≤ 1 → length (side plus minus z) ≤ 1
side_size plus minus (pos n) h k = h
side_size plus minus (negsuc n) h k = k

pub north_size : (place : Option Position) → length (north place) ≤ 1
unfolding north
north_size None = omega arith
north_size (Some p) = side_size (codes "N") (codes "S") p.lat (omega arith) (omega arith)

pub east_size : (place : Option Position) → length (east place) ≤ 1
unfolding east
east_size None = omega arith
east_size (Some p) = side_size (codes "E") (codes "W") p.lon (omega arith) (omega arith)

pub knots_size : (speed : Option ℤ) → length (knots speed) ≤ 14
unfolding knots
knots_size None = omega arith
knots_size (Some (pos n)) =
    either 14 (is_speed (pos n)) (scaled_text 3 (nearest (pos n) (pos 900) (pos 463))) []
    (λ fits.
    let small : n ≤ 514_444_444 = grind (arith, nat_tests) in
    subst (λ z. length (scaled_text 3 z) ≤ 14) (sym (to_knots n)) (scaled_size 3 (pos ((1800 * n + 463) / 926)) (omega arith))) (omega arith)
knots_size (Some (negsuc n)) =
    either 14 (is_speed (negsuc n)) (scaled_text 3 (nearest (negsuc n) (pos 900) (pos 463))) []
    (λ fits. absurd (let none : int_le (pos 0) (negsuc n) ≡ true = (and_parts (int_le (pos 0) (negsuc n)) (int_le (negsuc n) (pos 514_444_444)) fits).0 in grind (arith, nat_tests))) (omega arith)

pub course_size : (track : Option ℤ) → length (course track) ≤ 15
unfolding course
course_size None = omega arith
course_size (Some (pos n)) =
    either 15 (is_course (pos n)) (scaled_text 4 (pos n)) []
    (λ fits. let small : n ≤ 3_600_000 = grind (arith, nat_tests) in scaled_size 4 (pos n) (omega arith)) (omega arith)
course_size (Some (negsuc n)) =
    either 15 (is_course (negsuc n)) (scaled_text 4 (negsuc n)) []
    (λ fits. absurd (let none : int_le (pos 0) (negsuc n) ≡ true = (and_parts (int_le (pos 0) (negsuc n)) (int_le (negsuc n) (pos 3_600_000)) fits).0 in grind (arith, nat_tests))) (omega arith)

pub metres_size : (height : Option ℤ) → length (metres height) ≤ 14
unfolding metres
metres_size None = omega arith
metres_size (Some h) =
    either 14 (is_height h) (scaled_text 3 h) [] (λ fits. let small : unsigned_abs h < 10 ^ 12 = grind (arith, nat_tests) in scaled_size 3 h (omega arith)) (omega arith)

pub date_size : (time : Option Moment) → length (date time) ≤ 6
unfolding date date_digits
date_size None = omega arith
date_size (Some at) =
    let c : CivilDate = civil_of (unsigned_abs at.sec / 86_400) in
    either 6 (is_short_year c) (digits_in 2 c.day ++ digits_in 2 c.month ++ digits_in 2 (c.year % 100)) [] (λ _. omega arith) (omega arith)

-- the bytes of fields with their commas
abbrev pub total : List (List ℕ) → ℕ
total [] = 0
total (f ∷ fs) = 1 + (length f + total fs)

pub rows_size : (fs : List (List ℕ)) → length (rows fs) ≡ total fs
rows_size [] = refl
rows_size (f ∷ fs) = let rest = rows_size fs in let all = length-append f (rows fs) in omega arith
