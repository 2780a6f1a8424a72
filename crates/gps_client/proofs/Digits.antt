-- Runs of digits: how long they are, and the number that they write, digit by digit.
use Rattle.std.proofs.Common.{◌≡◌, ℕ, ◌+◌, ◌-◌, ◌*◌, ◌^◌, ◌<◌, ◌≤◌, refl, ◌∙◌, Bool, true, false, arith, List, [], ◌∷◌, length, take, get_or, length-take, nat_le, not}
use Rattle.std.specs.Prelude.{◌==◌}
use Rattle.std.specs.List.{list_all, prefix_len}
use Rattle.std.specs.Char.{is_ascii_digit}
use Rattle.std.proofs.Math.Nat.{pow-le-pow_right}
use Rattle.std.proofs.lemmas.Bool.{and_parts, and_from}
use Rattle.std.proofs.lemmas.Bool.Decides.{nat_tests}
use Rattle.std.proofs.lemmas.List.Folds.{list_all_at, list_all_more}
use Rattle.std.proofs.lemmas.List.Sums.{fold_more}
use Rattle.gps_fixed.specs.Numeral.{number}
use Rattle.gps_fixed.proofs.NumeralLaws.{leading, number_below}
use Rattle.gps_client.specs.Reading.{is_plain}

pub run_passes : (text : List ℕ) → list_all is_ascii_digit (take (prefix_len is_ascii_digit text) text) ≡ true
run_passes text = (leading text).digits

pub plain_few : (digits : List ℕ) → is_plain digits ≡ true → length digits ≤ 19
plain_few [] h = omega arith
plain_few (c ∷ []) h = omega arith
plain_few (c ∷ d ∷ digits) h =
    let few = (and_parts (not (c == 48)) (nat_le (length digits) 17) h).1 in
    grind (arith, nat_tests, few)

-- one more digit of at most nineteen
pub record DigitStep (ds : List ℕ) (i value : ℕ) : Type 0 where
  pub small : value < 10 ^ 18
  pub from : 48 ≤ get_or ds i 0
  pub to : get_or ds i 0 ≤ 57
  pub digits : list_all is_ascii_digit (take (i + 1) ds) ≡ true
  pub next : 10 * value + (get_or ds i 0 - 48) ≡ number (take (i + 1) ds)

pub turn : (ds : List ℕ) (i value : ℕ) → list_all is_ascii_digit (take i ds) ≡ true → i ≤ 18 → i < length ds → is_ascii_digit (get_or ds i 0) ≡ true → value ≡ number (take i ds) → DigitStep ds i value
turn ds i value all few h d e =
    let below = number_below (take i ds) all in
    let within : length (take i ds) ≤ 18 = omega (arith, length-take i ds, few) in
    let power = pow-le-pow_right {n = 10} (omega arith) within in
    let more = fold_more (λ n c. n * 10 + (c - 48)) 0 ds i 0 h in
    record {
      small = omega (arith, e, below, power);
      from = grind (arith, nat_tests, d);
      to = grind (arith, nat_tests, d);
      digits = list_all_more is_ascii_digit ds i 0 h ∙ and_from (list_all is_ascii_digit (take i ds)) (is_ascii_digit (get_or ds i 0)) all d;
      next = omega (arith, e, more);
    }

pub digit_at : (ds : List ℕ) (i : ℕ) → list_all is_ascii_digit ds ≡ true → i < length ds → is_ascii_digit (get_or ds i 0) ≡ true
digit_at ds i all within = passes (is_ascii_digit (get_or ds i 0)) refl
  where
    passes : (b : Bool) → is_ascii_digit (get_or ds i 0) ≡ b → is_ascii_digit (get_or ds i 0) ≡ true
    passes true e = e
    passes false e = let f : list_all is_ascii_digit ds ≡ false = list_all_at is_ascii_digit ds i 0 within e in cc
