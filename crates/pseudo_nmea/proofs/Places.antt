-- A position that was written is read back.
use Rattle.std.proofs.Common.{◌≡◌, ℕ, ◌+◌, ◌*◌, ◌/◌, ◌%◌, ◌^◌, ◌<◌, ◌≤◌, true, false, ◌&&◌, List, ◌++◌, length, sym, ap, ◌∙◌, arith, append_assoc, length-append, Some, None, ℤ, pos, negsuc, unsigned_abs}
use Rattle.std.specs.Prelude.{codes, nat_le, nat_lt}
use Rattle.std.specs.Option.{option_and_then}
use Rattle.std.proofs.Math.Nat.{mod-eq_of_lt}
use Rattle.std.proofs.lemmas.Bool.{cond-true}
use Rattle.std.proofs.lemmas.Bool.Decides.{nat_tests}
use Rattle.gps_fixed.specs.Numeral.{number}
use Rattle.gps_fixed.specs.Scaled.{digits_of}
use Rattle.gps_fixed.specs.Text.{digits_in}
use Rattle.gps_report.specs.declared.note.Position.{Position}
use Rattle.nmea_decode.specs.Places.{nanodegrees, angle as angle_read, on_side, latitude_of, longitude_of, both, position_of}
use Rattle.pseudo_nmea.specs.Fields.{angle, minutes, is_place, latitude, north, longitude, east, side}
use Rattle.pseudo_nmea.specs.Fitting.{is_coarse}
use Rattle.pseudo_nmea.proofs.Back.{point_back}
use Rattle.pseudo_nmea.proofs.Digits.{length_digits, digits_pass, digits_value, both_pass, number_behind}

-- the digits of the degrees and of the minutes come before the point
angle_text : (count : ℕ) (value : ℤ)
    → angle count value ≡ ((digits_in count (unsigned_abs value / 10 ^ 9) ++ digits_in 2 ((6 * (unsigned_abs value % 10 ^ 9) + 5) / 10 / 10 ^ 7)) ++ codes ".") ++ digits_in 7 ((6 * (unsigned_abs value % 10 ^ 9) + 5) / 10 % 10 ^ 7)
unfolding angle minutes
angle_text count value =
    let u : ℕ = (6 * (unsigned_abs value % 10 ^ 9) + 5) / 10 in
    let degrees = digits_in count (unsigned_abs value / 10 ^ 9) in
    sym (append_assoc degrees (digits_in 2 (u / 10 ^ 7) ++ codes ".") (digits_in 7 (u % 10 ^ 7)))
    ∙ ap (λ (t : List ℕ). t ++ digits_in 7 (u % 10 ^ 7)) (sym (append_assoc degrees (digits_in 2 (u / 10 ^ 7)) (codes ".")))

angle_digits : (count : ℕ) (value : ℤ) → count ≤ 7 → unsigned_abs value / 10 ^ 9 < 10 ^ count
    → digits_of (count + 2) 7 (angle count value) ≡ Some (unsigned_abs value / 10 ^ 9 * 10 ^ 9 + (6 * (unsigned_abs value % 10 ^ 9) + 5) / 10)
angle_digits count value few small =
    let a : ℕ = unsigned_abs value in
    let u : ℕ = (6 * (a % 10 ^ 9) + 5) / 10 in
    let degrees = digits_in count (a / 10 ^ 9) in
    let mins = digits_in 2 (u / 10 ^ 7) in
    let long : length (degrees ++ mins) ≡ count + 2 = omega (arith, length-append degrees mins, length_digits count (a / 10 ^ 9), length_digits 2 (u / 10 ^ 7)) in
    let all = both_pass degrees mins (digits_pass count (a / 10 ^ 9)) (digits_pass 2 (u / 10 ^ 7)) in
    let whole : number (degrees ++ mins) ≡ a / 10 ^ 9 * 10 ^ 2 + u / 10 ^ 7 % 10 ^ 2 = number_behind degrees 2 (u / 10 ^ 7) ∙ ap (λ (m : ℕ). m * 10 ^ 2 + u / 10 ^ 7 % 10 ^ 2) (digits_value count (a / 10 ^ 9) ∙ mod-eq_of_lt small) in
    let sum : (a / 10 ^ 9 * 10 ^ 2 + u / 10 ^ 7 % 10 ^ 2) * 10 ^ 7 + u % 10 ^ 7 % 10 ^ 7 ≡ a / 10 ^ 9 * 10 ^ 9 + u = omega arith in
    ap (digits_of (count + 2) 7) (angle_text count value)
    ∙ point_back (count + 2) 7 (degrees ++ mins) (u % 10 ^ 7) all long (omega arith) (omega arith)
    ∙ ap (λ (m : ℕ). Some (m * 10 ^ 7 + u % 10 ^ 7 % 10 ^ 7)) whole ∙ ap (λ (m : ℕ). Some m) sum

-- the nanodegrees of multiples of a hundred come back
angle_back : (most a : ℕ) → a ≤ most * 10 ^ 9 → a % 100 ≡ 0 → angle_read most (a / 10 ^ 9 * 10 ^ 9 + (6 * (a % 10 ^ 9) + 5) / 10) ≡ Some a
angle_back most a high coarse =
    let d : ℕ = a / 10 ^ 9 in
    let r : ℕ = a % 10 ^ 9 in
    let u : ℕ = (6 * r + 5) / 10 in
    let n : ℕ = d * 10 ^ 9 + u in
    let hundreds : r % 100 ≡ 0 = omega arith in
    let low : n % 10 ^ 9 ≡ u = omega arith in
    let top : n / 10 ^ 9 ≡ d = omega arith in
    let less : u < 60 * 10 ^ 7 = omega arith in
    let back : (10 * u + 3) / 6 ≡ r = omega arith in
    let same : nanodegrees n ≡ a = (λ i. top i * 10 ^ 9 + (10 * low i + 3) / 6) ∙ ap (λ (m : ℕ). d * 10 ^ 9 + m) back ∙ (let e : d * 10 ^ 9 + r ≡ a = omega arith in e) in
    let test : (nat_lt (n % 10 ^ 9) (60 * 10 ^ 7) && nat_le (nanodegrees n) (most * 10 ^ 9)) ≡ true =
    (λ i. nat_lt (low i) (60 * 10 ^ 7) && nat_le (same i) (most * 10 ^ 9)) ∙ grind (arith, nat_tests) in
    cond-true (nat_lt (n % 10 ^ 9) (60 * 10 ^ 7) && nat_le (nanodegrees n) (most * 10 ^ 9)) (Some (nanodegrees n)) None test ∙ ap (λ (m : ℕ). Some m) same

half_back : (count most : ℕ) (value : ℤ) → count ≤ 7 → most < 10 ^ count → unsigned_abs value ≤ most * 10 ^ 9 → unsigned_abs value % 100 ≡ 0
    → option_and_then (angle_read most) (digits_of (count + 2) 7 (angle count value)) ≡ Some (unsigned_abs value)
half_back count most value few room high coarse =
    ap (option_and_then (angle_read most)) (angle_digits count value few (omega arith)) ∙ angle_back most (unsigned_abs value) high coarse

lat_back : (value : ℤ) → unsigned_abs value ≤ 90 * 10 ^ 9 → unsigned_abs value % 100 ≡ 0 → latitude_of (angle 2 value) (side (codes "N") (codes "S") value) ≡ Some value
unfolding latitude_of
lat_back (pos n) high coarse = ap (on_side (Some false)) (half_back 2 90 (pos n) (omega arith) (omega arith) high coarse)
lat_back (negsuc n) high coarse = ap (on_side (Some true)) (half_back 2 90 (negsuc n) (omega arith) (omega arith) high coarse)

lon_back : (value : ℤ) → unsigned_abs value ≤ 180 * 10 ^ 9 → unsigned_abs value % 100 ≡ 0 → longitude_of (angle 3 value) (side (codes "E") (codes "W") value) ≡ Some value
unfolding longitude_of
lon_back (pos n) high coarse = ap (on_side (Some false)) (half_back 3 180 (pos n) (omega arith) (omega arith) high coarse)
lon_back (negsuc n) high coarse = ap (on_side (Some true)) (half_back 3 180 (negsuc n) (omega arith) (omega arith) high coarse)

pub place_back : (p : Position) → is_place p ≡ true → is_coarse p ≡ true → position_of (latitude (Some p)) (north (Some p)) (longitude (Some p)) (east (Some p)) ≡ Some p
unfolding position_of latitude north longitude east
place_back p fits coarse =
    let lat : unsigned_abs p.lat ≤ 90 * 10 ^ 9 = grind (arith, nat_tests) in
    let lon : unsigned_abs p.lon ≤ 180 * 10 ^ 9 = grind (arith, nat_tests) in
    let lat_coarse : unsigned_abs p.lat % 100 ≡ 0 = grind (arith, nat_tests) in
    let lon_coarse : unsigned_abs p.lon % 100 ≡ 0 = grind (arith, nat_tests) in
    (λ i. both (lat_back p.lat lat lat_coarse i) (lon_back p.lon lon lon_coarse i))
