-- The reading of a fixed point number is what its spelling says.
use Rattle.std.proofs.Common.{◌≡◌, ℕ, ◌+◌, ◌<◌, refl, sym, ap, ◌∙◌, ◌↔◌, Bool, true, false, cond, ◌==◌, nat_lt, arith, List, [], ◌∷◌, ◌++◌, length, Option, Some, None, ℤ}
use Rattle.std.specs.Option.{option_map, option_and_then, unwrap_or}
use Rattle.std.proofs.lemmas.Bool.{and_parts, cond-true, cond-false}
use Rattle.std.proofs.lemmas.Bool.Decides.{nat_tests}
use Rattle.std.specs.List.{list_all}
use Rattle.std.specs.Char.{is_ascii_digit}
use Rattle.gps_fixed.specs.declared.numeral.Numeral.{Numeral}
use Rattle.gps_fixed.specs.Numeral.{Parts, AreParts, spelling, fraction, behind_text, reading, scaled_magnitude, numeral}
use Rattle.gps_fixed.specs.Scaled.{IsScaled, sign, signed, has_digits, magnitude_if, magnitude, has_minus, without_minus, scaled}
use Rattle.gps_fixed.proofs.NumeralTheorem.{numeral_exact, some_same}

-- a text without a sign, and what it is read as
record IsMagnitude (k : ℕ) (text : List ℕ) (m : ℕ) : Type 0 where
  parts : Parts
  are : AreParts parts
  some : 0 < length parts.whole + length (fraction parts.behind)
  text_is : text ≡ spelling parts
  value_is : m ≡ scaled_magnitude k parts

digits_behind : (behind : Option (List ℕ)) → unwrap_or (option_map length behind) 0 ≡ length (fraction behind)
digits_behind None = refl
digits_behind (Some digits) = refl

any_digits : (k : ℕ) (p : Parts) → has_digits (reading k p) ≡ nat_lt 0 (length p.whole + length (fraction p.behind))
any_digits k p = ap (λ n. nat_lt 0 (length p.whole + n)) (digits_behind p.behind)

where_digits : (k : ℕ) (text : List ℕ) (m : ℕ) (o : Option Numeral) → numeral k text ≡ o → option_and_then (λ n. magnitude_if (has_digits n) n) o ≡ Some m → IsMagnitude k text m
where_digits k text m None is e = cc
where_digits k text m (Some n) is e = by_test (has_digits n) refl e
  where
    by_test : (b : Bool) → has_digits n ≡ b → magnitude_if b n ≡ Some m → IsMagnitude k text m
    by_test true test e =
        let (p, are, text_is, n_is) = (numeral_exact k text n).0 is in
        let some : 0 < length p.whole + length (fraction p.behind) = grind (arith, nat_tests, sym (any_digits k p) ∙ (ap has_digits (sym n_is) ∙ test)) in
        record { parts = p; are = are; some = some; text_is = text_is; value_is = sym (some_same n.magnitude m e) ∙ ap (λ n. n.magnitude) n_is }
    by_test false test e = cc

magnitude_read : (k : ℕ) (text : List ℕ) (m : ℕ) → magnitude k text ≡ Some m → IsMagnitude k text m
unfolding magnitude
magnitude_read k text m e = where_digits k text m (numeral k text) refl e

magnitude_spelled : (k : ℕ) (p : Parts) → AreParts p → 0 < length p.whole + length (fraction p.behind) → magnitude k (spelling p) ≡ Some (scaled_magnitude k p)
unfolding magnitude
magnitude_spelled k p are some =
    let is = (numeral_exact k (spelling p) (reading k p)).1 (p, are, refl, refl) in
    let test : has_digits (reading k p) ≡ true = any_digits k p ∙ grind (arith, nat_tests, some) in
    ap (option_and_then (λ n. magnitude_if (has_digits n) n)) is ∙ cond-true (has_digits (reading k p)) (Some (scaled_magnitude k p)) None test

-- the sign apart
signed_text : (text : List ℕ) → text ≡ sign (has_minus text) ++ without_minus text
signed_text [] = refl
signed_text (c ∷ text) = by_test (c == 45) refl
  where
    by_test : (b : Bool) → (c == 45) ≡ b → c ∷ text ≡ sign b ++ cond b text (c ∷ text)
    by_test true test = let minus : c ≡ 45 = grind (arith, nat_tests, test) in ap (λ d. d ∷ text) minus
    by_test false test = refl

spelled_sign : (b : Bool) (p : Parts) → AreParts p → (has_minus (sign b ++ spelling p) ≡ b) × (without_minus (sign b ++ spelling p) ≡ spelling p)
spelled_sign true p are = (refl, refl)
spelled_sign false p are = by_parts p.whole p.behind are.whole
  where
    by_parts : (whole : List ℕ) (behind : Option (List ℕ)) → list_all is_ascii_digit whole ≡ true → (has_minus (whole ++ behind_text behind) ≡ false) × (without_minus (whole ++ behind_text behind) ≡ whole ++ behind_text behind)
    by_parts [] None all = (refl, refl)
    by_parts [] (Some digits) all = (refl, refl)
    by_parts (c ∷ whole) behind all =
        let digit = (and_parts (is_ascii_digit c) (list_all is_ascii_digit whole) all).0 in
        let other : (c == 45) ≡ false = grind (arith, nat_tests, digit) in
        (other, cond-false (c == 45) (whole ++ behind_text behind) (c ∷ (whole ++ behind_text behind)) other)

signed_read : (k : ℕ) (text : List ℕ) (v : ℤ) (o : Option ℕ) → magnitude k (without_minus text) ≡ o → option_map (signed (has_minus text)) o ≡ Some v → IsScaled k text v
signed_read k text v None is e = cc
signed_read k text v (Some m) is e =
    let read = magnitude_read k (without_minus text) m is in
    record {
      negative = has_minus text;
      parts = read.parts;
      are = read.are;
      some = read.some;
      text_is = signed_text text ∙ ap (λ t. sign (has_minus text) ++ t) read.text_is;
      value_is = sym (some_same (signed (has_minus text) m) v e) ∙ ap (signed (has_minus text)) read.value_is;
    }

pub scaled_exact : (k : ℕ) (text : List ℕ) (v : ℤ) → (scaled k text ≡ Some v) ↔ IsScaled k text v
unfolding scaled
scaled_exact k text v = (
  λ e. signed_read k text v (magnitude k (without_minus text)) refl e,
  λ is. let apart = spelled_sign is.negative is.parts is.are in
      ap (scaled k) is.text_is
      ∙ (ap (λ b. option_map (signed b) (magnitude k (without_minus (sign is.negative ++ spelling is.parts)))) apart.0
      ∙ (ap (λ t. option_map (signed is.negative) (magnitude k t)) apart.1
      ∙ (ap (option_map (signed is.negative)) (magnitude_spelled k is.parts is.are is.some) ∙ ap Some (sym is.value_is)))),
)
