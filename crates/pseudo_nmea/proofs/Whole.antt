-- The two texts are sentences.
use Rattle.std.proofs.Common.{◌≡◌, ℕ, ◌+◌, ◌*◌, ◌/◌, ◌%◌, ◌^◌, ◌<◌, ◌≤◌, Bool, true, false, List, [], ◌∷◌, ◌++◌, length, refl, ap, ◌∙◌, subst, sym, arith, length-append, Option, Some, None}
use Rattle.std.specs.Prelude.{IsSome, codes, ◌==◌}
use Rattle.std.specs.List.{fold, list_all}
use Rattle.std.specs.Int.Bits.{bit_xor}
use Rattle.std.proofs.lemmas.Bool.{agree_below_at, and_parts, and_from}
use Rattle.std.proofs.lemmas.Bool.Decides.{nat_tests}
use Rattle.std.proofs.lemmas.List.Folds.{list_all-append}
use Rattle.std.proofs.lemmas.Nat.{xor_lt}
use Rattle.gps_report.specs.declared.fix.Fix.{Fix}
use Rattle.nmea_frame.specs.Sentence.{IsSentence, Parts, checksum, hex_value, is_body_byte, of_digits, read_sum}
use Rattle.pseudo_nmea.specs.Fields.{placed}
use Rattle.gps_fixed.specs.Hexadecimal.{upper_digit}
use Rattle.pseudo_nmea.specs.Sentences.{ending, gga_body, rmc_body, sentence}
use Rattle.pseudo_nmea.proofs.Notes.{gga_body_is, gga_list, gga_plain, rmc_body_is, rmc_list, rmc_plain}
use Rattle.pseudo_nmea.proofs.Rows.{all_plain, is_plain, rows}
use Rattle.pseudo_nmea.proofs.Sizes.{by_fix_size, clock_size, course_size, date_size, east_size, knots_size, latitude_size, longitude_size, metres_size, north_size, rows_size, total}

-- plain bytes and commas are bytes of a body
plain_printed : (xs : List ℕ) → list_all is_plain xs ≡ true → list_all is_body_byte xs ≡ true
plain_printed [] all = refl
plain_printed (c ∷ xs) all =
    let parts = and_parts (is_plain c) (list_all is_plain xs) all in
    and_from (is_body_byte c) (list_all is_body_byte xs) (let plain = parts.0 in grind (arith, nat_tests)) (plain_printed xs parts.1)

rows_printed : (fs : List (List ℕ)) → all_plain fs ≡ true → list_all is_body_byte (rows fs) ≡ true
rows_printed [] all = refl
rows_printed (f ∷ fs) all =
    let parts = and_parts (list_all is_plain f) (all_plain fs) all in
    list_all-append is_body_byte f (rows fs) ∙ and_from (list_all is_body_byte f) (list_all is_body_byte (rows fs)) (plain_printed f parts.0) (rows_printed fs parts.1)

-- the checksum of such bytes is one byte, and its digits write it
sum_small : (sum : ℕ) (body : List ℕ) → sum < 2 ^ 8 → list_all is_body_byte body ≡ true → fold bit_xor sum body < 2 ^ 8
sum_small sum [] small all = small
sum_small sum (c ∷ body) small all =
    let parts = and_parts (is_body_byte c) (list_all is_body_byte body) all in
    let low : c < 2 ^ 8 = (let printed = parts.0 in grind (arith, nat_tests)) in
    sum_small (bit_xor sum c) body (xor_lt 8 sum c small low) parts.1

abbrev is_this : Option ℕ → ℕ → Bool
is_this None n = false
is_this (Some m) n = m == n

this_is : (o : Option ℕ) (n : ℕ) → is_this o n ≡ true → o ≡ Some n
this_is None n e = absurd (cc)
this_is (Some m) n e = ap (λ k. Some k) (let same : m ≡ n = grind (arith, nat_tests) in same)

digit_back : (n : ℕ) → n < 16 → hex_value (upper_digit n) ≡ Some n
digit_back n h =
    this_is (hex_value (upper_digit n)) n (agree_below_at (λ k. is_this (hex_value (upper_digit k)) k) (λ k. true) 16 n refl h)

sum_back : (sum : ℕ) → sum < 2 ^ 8 → read_sum (upper_digit (sum / 16)) (upper_digit (sum % 16)) ≡ Some sum
sum_back sum small =
    ap (λ d. of_digits d (hex_value (upper_digit (sum % 16)))) (digit_back (sum / 16) (omega arith))
    ∙ ap (λ d. of_digits (Some (sum / 16)) d) (digit_back (sum % 16) (omega arith))
    ∙ ap (λ n. Some n) (let e : 16 * (sum / 16) + sum % 16 ≡ sum = omega arith in e)

abbrev parts_of : List ℕ → Parts
parts_of body = record { body = body; high = upper_digit (checksum body / 16); low = upper_digit (checksum body % 16); has_return = true }

is_sentence : (body : List ℕ) → 0 < length body → length body ≤ 122 → list_all is_body_byte body ≡ true → IsSentence (sentence body)
unfolding sentence
is_sentence body some short all =
    let right = sum_back (checksum body) (sum_small 0 body (omega arith) all) in
    let long = length-append body (ending body) in
    (parts_of body, (record { some = some; printable = all; digits = subst (λ o. IsSome o) (sym right) refl; short = omega arith }, right, refl))

bodied : (head : List ℕ) (fs : List (List ℕ)) → length head ≡ 5 → list_all is_body_byte head ≡ true → all_plain fs ≡ true → total fs ≤ 117
    → IsSentence (sentence (head ++ rows fs))
bodied head fs five printed plain few =
    let all = length-append head (rows fs) in
    let size = rows_size fs in
    is_sentence (head ++ rows fs) (omega arith) (omega arith)
    (list_all-append is_body_byte head (rows fs) ∙ and_from (list_all is_body_byte head) (list_all is_body_byte (rows fs)) printed (rows_printed fs plain))

pub rmc_is_sentence : (fix : Fix) → IsSentence (sentence (rmc_body fix))
rmc_is_sentence fix =
    subst (λ b. IsSentence (sentence b)) (sym (rmc_body_is fix)) (bodied (codes "GPRMC") (rmc_list fix) refl refl (rmc_plain fix)
    (let a = clock_size fix.time in
    let b = by_fix_size fix (codes "V") (codes "A") (omega arith) (omega arith) in
    let c = latitude_size (placed fix.position) in
    let d = north_size (placed fix.position) in
    let e = longitude_size (placed fix.position) in
    let f = east_size (placed fix.position) in
    let g = knots_size fix.speed in
    let h = course_size fix.track in
    let k = date_size fix.time in
    let l = by_fix_size fix (codes "N") (codes "A") (omega arith) (omega arith) in
    omega arith))

pub gga_is_sentence : (fix : Fix) → IsSentence (sentence (gga_body fix))
gga_is_sentence fix =
    subst (λ b. IsSentence (sentence b)) (sym (gga_body_is fix)) (bodied (codes "GPGGA") (gga_list fix) refl refl (gga_plain fix)
    (let a = clock_size fix.time in
    let b = by_fix_size fix (codes "0") (codes "1") (omega arith) (omega arith) in
    let c = latitude_size (placed fix.position) in
    let d = north_size (placed fix.position) in
    let e = longitude_size (placed fix.position) in
    let f = east_size (placed fix.position) in
    let g = metres_size fix.alt_msl in
    let h = metres_size fix.geoid_sep in
    omega arith))
