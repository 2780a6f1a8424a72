-- The fields of the two sentences have neither commas nor stars.
use Rattle.std.proofs.Common.{◌≡◌, ℕ, suc, ◌+◌, ◌*◌, ◌/◌, ◌%◌, ◌^◌, ◌<◌, ◌≤◌, Bool, true, false, cond, not, List, [], ◌∷◌, ◌++◌, length, take, refl, ap, ◌∙◌, arith, Option, Some, None, ℤ, pos, negsuc, unsigned_abs}
use Rattle.std.specs.Prelude.{codes, int_le, ◌==◌}
use Rattle.std.specs.List.{list_all, prefix_len, before_first}
use Rattle.std.specs.Char.{is_ascii_digit}
use Rattle.std.specs.Fmt.{decimal}
use Rattle.std.proofs.lemmas.Bool.{and_parts, and_from, cond-true}
use Rattle.std.proofs.lemmas.Bool.Decides.{nat_tests}
use Rattle.std.proofs.lemmas.List.Folds.{list_all-append}
use Rattle.std.proofs.Math.Seq.{take-append_seam}
use Rattle.gps_fixed.specs.Civil.{CivilDate, civil_of}
use Rattle.gps_fixed.specs.Moment.{Moment}
use Rattle.gps_fixed.specs.Ratio.{nearest}
use Rattle.gps_fixed.specs.Text.{digits_in, scaled_text, unsigned_text}
use Rattle.gps_report.specs.declared.fix.Fix.{Fix}
use Rattle.gps_report.specs.declared.note.Position.{Position}
use Rattle.pseudo_nmea.specs.Fields.{clock, clock_digits, date, date_digits, is_short_year, angle, minutes, latitude, north, longitude, east, side, knots, course, metres, is_speed, is_course, is_height}
use Rattle.pseudo_nmea.specs.Sentences.{by_fix}
use Rattle.pseudo_nmea.proofs.Back.{to_knots}
use Rattle.pseudo_nmea.proofs.Digits.{digits_pass, decimal_is}
use Rattle.pseudo_nmea.proofs.Rows.{is_plain, rows, all_plain}

abbrev pub IsPlain : List ℕ → Type 0
IsPlain text = list_all is_plain text ≡ true

digits_plain : (ds : List ℕ) → list_all is_ascii_digit ds ≡ true → IsPlain ds
digits_plain [] all = refl
digits_plain (c ∷ ds) all =
    let parts = and_parts (is_ascii_digit c) (list_all is_ascii_digit ds) all in
    and_from (is_plain c) (list_all is_plain ds) (let digit = parts.0 in grind (arith, nat_tests)) (digits_plain ds parts.1)

some_digits : (k n : ℕ) → IsPlain (digits_in k n)
some_digits k n = digits_plain (digits_in k n) (digits_pass k n)

together : (xs ys : List ℕ) → IsPlain xs → IsPlain ys → IsPlain (xs ++ ys)
together xs ys a b = list_all-append is_plain xs ys ∙ and_from (list_all is_plain xs) (list_all is_plain ys) a b

unsigned_plain : (k n : ℕ) → n / 10 ^ k < 2 ^ 64 → IsPlain (unsigned_text k n)
unsigned_plain k n h =
    together (decimal (n / 10 ^ k) ++ codes ".") (digits_in k (n % 10 ^ k)) (together (decimal (n / 10 ^ k)) (codes ".") (digits_plain (decimal (n / 10 ^ k)) (decimal_is (n / 10 ^ k) h).0) refl) (some_digits k (n % 10 ^ k))

scaled_plain : (k : ℕ) (z : ℤ) → unsigned_abs z / 10 ^ k < 2 ^ 64 → IsPlain (scaled_text k z)
scaled_plain k (pos n) h = unsigned_plain k n h
scaled_plain k (negsuc n) h = together (codes "-") (unsigned_text k (suc n)) refl (unsigned_plain k (suc n) h)

either : (b : Bool) (xs ys : List ℕ) → (b ≡ true → IsPlain xs) → IsPlain ys → IsPlain (cond b xs ys)
either true xs ys h k = h refl
either false xs ys h k = k

pub clock_plain : (time : Option Moment) → IsPlain (clock time)
unfolding clock clock_digits
clock_plain None = refl
clock_plain (Some at) =
    let s : ℕ = unsigned_abs at.sec % 86_400 in
    together (clock_digits s ++ codes ".") (digits_in 9 at.nsec)
    (together (clock_digits s) (codes ".") (together (digits_in 2 (s / 3_600) ++ digits_in 2 (s / 60 % 60)) (digits_in 2 (s % 60)) (together (digits_in 2 (s / 3_600)) (digits_in 2 (s / 60 % 60)) (some_digits 2 (s / 3_600)) (some_digits 2 (s / 60 % 60))) (some_digits 2 (s % 60))) refl)
    (some_digits 9 at.nsec)

pub by_fix_plain : (fix : Fix) (xs ys : List ℕ) → IsPlain xs → IsPlain ys → IsPlain (by_fix fix xs ys)
unfolding by_fix
by_fix_plain fix xs ys h k = either (fix.mode == 1) xs ys (λ _. h) k

angle_plain : (count : ℕ) (value : ℤ) → IsPlain (angle count value)
unfolding angle minutes
angle_plain count value =
    let u : ℕ = (6 * (unsigned_abs value % 10 ^ 9) + 5) / 10 in
    together (digits_in count (unsigned_abs value / 10 ^ 9)) (minutes (unsigned_abs value % 10 ^ 9)) (some_digits count (unsigned_abs value / 10 ^ 9))
    (together (digits_in 2 (u / 10 ^ 7) ++ codes ".") (digits_in 7 (u % 10 ^ 7)) (together (digits_in 2 (u / 10 ^ 7)) (codes ".") (some_digits 2 (u / 10 ^ 7)) refl) (some_digits 7 (u % 10 ^ 7)))

pub latitude_plain : (place : Option Position) → IsPlain (latitude place)
unfolding latitude
latitude_plain None = refl
latitude_plain (Some p) = angle_plain 2 p.lat

pub longitude_plain : (place : Option Position) → IsPlain (longitude place)
unfolding longitude
longitude_plain None = refl
longitude_plain (Some p) = angle_plain 3 p.lon

side_plain : (plus minus : List ℕ) (z : ℤ) → IsPlain plus → IsPlain minus → IsPlain (side plus minus z)
side_plain plus minus (pos n) h k = h
side_plain plus minus (negsuc n) h k = k

pub north_plain : (place : Option Position) → IsPlain (north place)
unfolding north
north_plain None = refl
north_plain (Some p) = side_plain (codes "N") (codes "S") p.lat refl refl

pub east_plain : (place : Option Position) → IsPlain (east place)
unfolding east
east_plain None = refl
east_plain (Some p) = side_plain (codes "E") (codes "W") p.lon refl refl

pub knots_plain : (speed : Option ℤ) → IsPlain (knots speed)
unfolding knots
knots_plain None = refl
knots_plain (Some (pos n)) =
    either (is_speed (pos n)) (scaled_text 3 (nearest (pos n) (pos 900) (pos 463))) []
    (λ fits.
    let small : n ≤ 514_444_444 = grind (arith, nat_tests) in
    ap (λ z. list_all is_plain (scaled_text 3 z)) (to_knots n) ∙ scaled_plain 3 (pos ((1800 * n + 463) / 926)) (omega arith)) refl
knots_plain (Some (negsuc n)) =
    either (is_speed (negsuc n)) (scaled_text 3 (nearest (negsuc n) (pos 900) (pos 463))) []
    (λ fits. absurd (let none : int_le (pos 0) (negsuc n) ≡ true = (and_parts (int_le (pos 0) (negsuc n)) (int_le (negsuc n) (pos 514_444_444)) fits).0 in grind (arith, nat_tests))) refl

pub course_plain : (track : Option ℤ) → IsPlain (course track)
unfolding course
course_plain None = refl
course_plain (Some (pos n)) =
    either (is_course (pos n)) (scaled_text 4 (pos n)) []
    (λ fits. let small : n ≤ 3_600_000 = grind (arith, nat_tests) in scaled_plain 4 (pos n) (omega arith)) refl
course_plain (Some (negsuc n)) =
    either (is_course (negsuc n)) (scaled_text 4 (negsuc n)) []
    (λ fits. absurd (let none : int_le (pos 0) (negsuc n) ≡ true = (and_parts (int_le (pos 0) (negsuc n)) (int_le (negsuc n) (pos 3_600_000)) fits).0 in grind (arith, nat_tests))) refl

pub metres_plain : (height : Option ℤ) → IsPlain (metres height)
unfolding metres
metres_plain None = refl
metres_plain (Some h) =
    either (is_height h) (scaled_text 3 h) [] (λ fits. let small : unsigned_abs h < 10 ^ 12 = grind (arith, nat_tests) in scaled_plain 3 h (omega arith)) refl

pub date_plain : (time : Option Moment) → IsPlain (date time)
unfolding date date_digits
date_plain None = refl
date_plain (Some at) =
    let c : CivilDate = civil_of (unsigned_abs at.sec / 86_400) in
    either (is_short_year c) (digits_in 2 c.day ++ digits_in 2 c.month ++ digits_in 2 (c.year % 100)) []
    (λ _. together (digits_in 2 c.day ++ digits_in 2 c.month) (digits_in 2 (c.year % 100)) (together (digits_in 2 c.day) (digits_in 2 c.month) (some_digits 2 c.day) (some_digits 2 c.month)) (some_digits 2 (c.year % 100))) refl

-- a body has no star before its end
abbrev is_no_star : ℕ → Bool
is_no_star c = not (c == 42)

plain_starless : (xs : List ℕ) → IsPlain xs → list_all is_no_star xs ≡ true
plain_starless [] all = refl
plain_starless (c ∷ xs) all =
    let parts = and_parts (is_plain c) (list_all is_plain xs) all in
    and_from (is_no_star c) (list_all is_no_star xs) (let plain = parts.0 in grind (arith, nat_tests)) (plain_starless xs parts.1)

pub rows_starless : (fs : List (List ℕ)) → all_plain fs ≡ true → list_all is_no_star (rows fs) ≡ true
rows_starless [] all = refl
rows_starless (f ∷ fs) all =
    let parts = and_parts (list_all is_plain f) (all_plain fs) all in
    list_all-append is_no_star f (rows fs) ∙ and_from (list_all is_no_star f) (list_all is_no_star (rows fs)) (plain_starless f parts.0) (rows_starless fs parts.1)

star_at : (body rest : List ℕ) → list_all is_no_star body ≡ true → prefix_len is_no_star (body ++ 42 ∷ rest) ≡ length body
star_at [] rest all = refl
star_at (c ∷ body) rest all =
    let parts = and_parts (is_no_star c) (list_all is_no_star body) all in
    let more = star_at body rest parts.1 in
    cond-true (is_no_star c) (1 + prefix_len is_no_star (body ++ 42 ∷ rest)) 0 parts.0 ∙ omega arith

pub before_star : (body rest : List ℕ) → list_all is_no_star body ≡ true → before_first (λ c. c == 42) (body ++ 42 ∷ rest) ≡ body
before_star body rest all = ap (λ n. take n (body ++ 42 ∷ rest)) (star_at body rest all) ∙ take-append_seam body (42 ∷ rest)
