-- The ranges of a NAV-PVT's quantities.
use Rattle.std.proofs.Common.{◌≡◌, ℕ, zero, suc, ◌+◌, ◌-◌, ◌*◌, ◌/◌, ◌%◌, ◌^◌, ◌<◌, ◌≤◌, Bool, true, false, cond, ◌&&◌, List, [], ◌∷◌, get_or, refl, ap, ◌∙◌, arith, Some, None, ℤ, pos, negsuc, ◌+ℤ◌, ◌-ℤ◌, ◌*ℤ◌, unsigned_abs}
use Rattle.std.specs.Prelude.{nat_le, int_le}
use Rattle.std.specs.List.{list_all}
use Rattle.std.specs.Int.{w32, cast_signed}
use Rattle.std.proofs.lemmas.Bool.{and_parts, and_from, ltb-true}
use Rattle.std.proofs.lemmas.Bool.Decides.{nat_tests}
use Rattle.std.proofs.lemmas.Int.{ints, unsigned_abs-mul}
use Rattle.gps_fixed.specs.Fields.{u4_at, i4_at}
use Rattle.gps_fixed.specs.Ratio.{nearest}
use Rattle.gps_report.specs.Fits.{where_given}
use Rattle.ubx_frame.specs.Frame.{is_byte}
use Rattle.ubx_decode.specs.Motion.{position_of, speed_of, track_of}
use Rattle.pseudo_nmea.specs.Fields.{is_place, is_speed, is_course, is_height}
use Rattle.pseudo_nmea.specs.Fitting.{is_coarse}

byte_at : (xs : List ℕ) (k : ℕ) → list_all is_byte xs ≡ true → get_or xs k 0 < 256
byte_at [] k all = omega arith
byte_at (x ∷ xs) zero all = ltb-true x 256 (and_parts (is_byte x) (list_all is_byte xs) all).0
byte_at (x ∷ xs) (suc k) all = byte_at xs k (and_parts (is_byte x) (list_all is_byte xs) all).1

signed_small : (n : ℕ) → n < 2 ^ 32 → unsigned_abs (cast_signed w32 n) ≤ 2 ^ 31
signed_small n h = omega (arith, ints)

-- four bytes with a sign
pub four_bytes : (xs : List ℕ) (k : ℕ) → list_all is_byte xs ≡ true → unsigned_abs (i4_at xs k) ≤ 2 ^ 31
four_bytes xs k all =
    let a = byte_at xs k all in
    let b = byte_at xs (k + 1) all in
    let c = byte_at xs (k + 2) all in
    let d = byte_at xs (k + 3) all in
    let small : u4_at xs k < 2 ^ 32 = omega arith in
    signed_small (u4_at xs k) small

pub height_fits : (z : ℤ) → unsigned_abs z ≤ 2 ^ 31 → is_height z ≡ true
height_fits z h = grind (arith, nat_tests)

pub separation_fits : (a b : ℤ) → unsigned_abs a ≤ 2 ^ 31 → unsigned_abs b ≤ 2 ^ 31 → is_height (a -ℤ b) ≡ true
separation_fits a b h k =
    let small : unsigned_abs (a -ℤ b) ≤ 2 ^ 32 = omega (arith, ints) in
    grind (arith, nat_tests)

-- a position in units of 1e-7 degree

hundred : (z : ℤ) → unsigned_abs (pos 100 *ℤ z) ≡ 100 * unsigned_abs z
hundred z = unsigned_abs-mul (pos 100) z

pub position_fits : (lat lon : ℤ) → (where_given is_place (position_of lat lon) ≡ true) × (where_given is_coarse (position_of lat lon) ≡ true)
unfolding position_of
position_fits lat lon = by_test lat lon (nat_le (unsigned_abs lat) 900_000_000 && nat_le (unsigned_abs lon) 1_800_000_000) refl
  where
    by_test : (lat lon : ℤ) (b : Bool) → (nat_le (unsigned_abs lat) 900_000_000 && nat_le (unsigned_abs lon) 1_800_000_000) ≡ b
        → (where_given is_place (cond b (Some (record { lat = pos 100 *ℤ lat; lon = pos 100 *ℤ lon })) None) ≡ true)
        × (where_given is_coarse (cond b (Some (record { lat = pos 100 *ℤ lat; lon = pos 100 *ℤ lon })) None) ≡ true)
    by_test lat lon false test = (refl, refl)
    by_test lat lon true test =
        let low : unsigned_abs lat ≤ 900_000_000 = grind (arith, nat_tests) in
        let high : unsigned_abs lon ≤ 1_800_000_000 = grind (arith, nat_tests) in
        let a = hundred lat in
        let b = hundred lon in
        let place_lat : unsigned_abs (pos 100 *ℤ lat) ≤ 90 * 10 ^ 9 = omega arith in
        let place_lon : unsigned_abs (pos 100 *ℤ lon) ≤ 180 * 10 ^ 9 = omega arith in
        let coarse_lat : unsigned_abs (pos 100 *ℤ lat) % 100 ≡ 0 = omega arith in
        let coarse_lon : unsigned_abs (pos 100 *ℤ lon) % 100 ≡ 0 = omega arith in
        (grind (arith, nat_tests), grind (arith, nat_tests))

not_below : (n : ℕ) → int_le (pos 0) (pos n) ≡ true
not_below n = grind (arith, nat_tests)

-- a speed at most the greatest
pub speed_fits : (z : ℤ) → where_given (λ v. int_le v (pos 514_444_444)) (speed_of z) ≡ true → where_given is_speed (speed_of z) ≡ true
unfolding speed_of
speed_fits (pos n) h = and_from (int_le (pos 0) (pos n)) (int_le (pos n) (pos 514_444_444)) (not_below n) h
speed_fits (negsuc n) h = refl

-- tenths of a number
tenth : (n : ℕ) → nearest (pos n) (pos 1) (pos 10) ≡ pos ((2 * n + 10) / 20)
tenth n = omega (arith, ints)

tenth_fits : (n : ℕ) → n ≤ 36_000_000 → is_course (nearest (pos n) (pos 1) (pos 10)) ≡ true
tenth_fits n h =
    let small : (2 * n + 10) / 20 ≤ 3_600_000 = omega arith in
    ap is_course (tenth n) ∙ grind (arith, nat_tests)

pub track_fits : (z : ℤ) → where_given is_course (track_of z) ≡ true
unfolding track_of
track_fits (pos n) = by_test n (nat_le n 36_000_000) refl
  where
    by_test : (n : ℕ) (b : Bool) → nat_le n 36_000_000 ≡ b → where_given is_course (cond b (Some (nearest (pos n) (pos 1) (pos 10))) None) ≡ true
    by_test n false test = refl
    by_test n true test = tenth_fits n (grind (arith, nat_tests))
track_fits (negsuc n) = by_test n (nat_le (suc n) 18_000_000) refl
  where
    by_test : (n : ℕ) (b : Bool) → nat_le (suc n) 18_000_000 ≡ b → where_given is_course (cond b (Some (nearest (negsuc n +ℤ pos 36_000_000) (pos 1) (pos 10))) None) ≡ true
    by_test n false test = refl
    by_test n true test =
        let low : suc n ≤ 18_000_000 = grind (arith, nat_tests) in
        let around : negsuc n +ℤ pos 36_000_000 ≡ pos (36_000_000 - suc n) = omega (arith, ints) in
        ap (λ z. is_course (nearest z (pos 1) (pos 10))) around ∙ tenth_fits (36_000_000 - suc n) (omega arith)
