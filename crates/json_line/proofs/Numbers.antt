-- The texts of numbers and their lengths.
use Rattle.std.proofs.Common.{◌≡◌, ℕ, ◌/◌, ◌%◌, ◌<◌, ◌≤◌, ◌+◌, ◌^◌, [], ◌∷◌, ◌++◌, length, ap, ◌∙◌, arith, append_assoc, length-append}
use Rattle.std.proofs.lemmas.Fmt.{decimal_step, length-decimal-le}
use Rattle.std.specs.Fmt.{decimal}

-- a number of four digits or more, by its thousands and its last three digits
pub in_thousands : (n : ℕ) → 1_000 ≤ n → n < 2 ^ 64
    → decimal n ≡ decimal (n / 1_000) ++ (48 + n / 100 % 10) ∷ (48 + n / 10 % 10) ∷ (48 + n % 10) ∷ []
in_thousands n long small =
    let a : n / 10 / 10 ≡ n / 100 = omega arith in
    let b : n / 100 / 10 ≡ n / 1_000 = omega arith in
    rw (
      decimal_step n (omega (arith, long)) small,
      decimal_step (n / 10) (omega (arith, long)) (omega (arith, small)),
      a,
      decimal_step (n / 100) (omega (arith, long)) (omega (arith, small)),
      b,
      append_assoc,
      append_assoc,
    )

pub three_more : (n : ℕ) → 1_000 ≤ n → n < 2 ^ 64 → length (decimal n) ≡ length (decimal (n / 1_000)) + 3
three_more n long small = ap length (in_thousands n long small) ∙ length-append (decimal (n / 1_000)) _

pub at_most_ten : (n : ℕ) → n < 2 ^ 32 → length (decimal n) ≤ 10
at_most_ten n small = length-decimal-le 10 n (omega arith) (omega (arith, small)) (omega (arith, small))

pub at_most_twenty : (n : ℕ) → n < 2 ^ 64 → length (decimal n) ≤ 20
at_most_twenty n small = length-decimal-le 20 n (omega arith) (omega (arith, small)) (omega (arith, small))

pub thousands_at_most_seven : (n : ℕ) → n < 2 ^ 32 → length (decimal (n / 1_000)) ≤ 7
thousands_at_most_seven n small = length-decimal-le 7 (n / 1_000) (omega arith) (omega (arith, small)) (omega (arith, small))
