-- A number that was written with decimals is read back.
use Rattle.std.proofs.Common.{◌≡◌, ℕ, suc, ◌+◌, ◌*◌, ◌/◌, ◌%◌, ◌^◌, ◌<◌, true, false, List, [], ◌∷◌, ◌++◌, sym, ap, ◌∙◌, arith, append_assoc, Some, ℤ, pos, negsuc, neg_ℤ, unsigned_abs}
use Rattle.std.specs.Prelude.{codes}
use Rattle.std.specs.Fmt.{decimal}
use Rattle.std.proofs.lemmas.Fmt.{length-decimal-le}
use Rattle.std.proofs.lemmas.Nat.{div-add-mod'}
use Rattle.std.proofs.Math.Nat.{mod-lt, mod-eq_of_lt}
use Rattle.gps_fixed.specs.Numeral.{Parts, AreParts, spelling, number, scaled_magnitude, first_digits}
use Rattle.gps_fixed.specs.Scaled.{scaled}
use Rattle.gps_fixed.specs.Text.{digits_in, unsigned_text, scaled_text}
use Rattle.gps_fixed.proofs.ScaledTheorem.{scaled_exact}
use Rattle.pseudo_nmea.proofs.Digits.{length_digits, digits_pass, digits_value, decimal_is, first_all}

-- the parts of a number with k decimals
abbrev parts_of : ℕ → ℕ → Parts
parts_of k n = record { whole = decimal (n / 10 ^ k); behind = Some (digits_in k (n % 10 ^ k)) }

are_parts : (k n : ℕ) → n / 10 ^ k < 10 ^ 9 → AreParts (parts_of k n)
are_parts k n h =
    let whole = decimal_is (n / 10 ^ k) (omega arith) in
    record { whole = whole.0; behind = digits_pass k (n % 10 ^ k); few = length-decimal-le 9 (n / 10 ^ k) (omega arith) h (omega arith) }

magnitude_is : (k n : ℕ) → 0 < 10 ^ k → n / 10 ^ k < 10 ^ 9 → scaled_magnitude k (parts_of k n) ≡ n
magnitude_is k n some h =
    let whole = decimal_is (n / 10 ^ k) (omega arith) in
    let behind : number (first_digits k (digits_in k (n % 10 ^ k))) ≡ n % 10 ^ k = ap number (first_all k (digits_in k (n % 10 ^ k)) (length_digits k (n % 10 ^ k))) ∙ digits_value k (n % 10 ^ k) ∙ mod-eq_of_lt (mod-lt n some) in
    (λ i. whole.1 i * 10 ^ k + behind i) ∙ div-add-mod' n (10 ^ k)

spelled : (k n : ℕ) → unsigned_text k n ≡ spelling (parts_of k n)
spelled k n = append_assoc (decimal (n / 10 ^ k)) (46 ∷ []) (digits_in k (n % 10 ^ k))

pub number_back : (k : ℕ) (z : ℤ) → 0 < 10 ^ k → unsigned_abs z / 10 ^ k < 10 ^ 9 → scaled k (scaled_text k z) ≡ Some z
number_back k (pos n) some h =
    let whole = decimal_is (n / 10 ^ k) (omega arith) in
    let long = whole.2 in
    (scaled_exact k (scaled_text k (pos n)) (pos n)).1 (record {
      negative = false;
      parts = parts_of k n;
      are = are_parts k n h;
      some = omega arith;
      text_is = spelled k n;
      value_is = ap pos (sym (magnitude_is k n some h));
    })
number_back k (negsuc n) some h =
    let whole = decimal_is (suc n / 10 ^ k) (omega arith) in
    let long = whole.2 in
    (scaled_exact k (scaled_text k (negsuc n)) (negsuc n)).1 (record {
      negative = true;
      parts = parts_of k (suc n);
      are = are_parts k (suc n) h;
      some = omega arith;
      text_is = ap (λ (l : List ℕ). codes "-" ++ l) (spelled k (suc n));
      value_is = ap (λ m. neg_ℤ (pos m)) (sym (magnitude_is k (suc n) some h));
    })
