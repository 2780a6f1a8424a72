-- Digits that were written are read back as the number that they write.
use Rattle.std.proofs.Common.{◌≡◌, ℕ, zero, suc, ◌+◌, ◌-◌, ◌*◌, ◌/◌, ◌%◌, ◌^◌, ◌<◌, ◌≤◌, true, List, [], ◌∷◌, ◌++◌, length, replicate, refl, sym, ap, ◌∙◌, arith, length-append, take_all}
use Rattle.std.specs.List.{fold, list_all}
use Rattle.std.specs.Char.{is_ascii_digit}
use Rattle.std.specs.Fmt.{decimal}
use Rattle.std.proofs.Math.Nat.{add-mul, mul_assoc, pow-suc, mod-lt, one-le-pow, pow-zero}
use Rattle.std.proofs.Math.Arith.{mod-mul}
use Rattle.std.proofs.lemmas.Bool.{and_from}
use Rattle.std.proofs.lemmas.Bool.Decides.{nat_tests}
use Rattle.std.proofs.lemmas.Fmt.{decimal_by_steps}
use Rattle.std.proofs.lemmas.List.{take-append-le}
use Rattle.std.proofs.lemmas.List.Folds.{list_all-append}
use Rattle.std.proofs.lemmas.List.Sums.{fold-append}
use Rattle.gps_fixed.specs.Numeral.{number, first_digits}
use Rattle.gps_fixed.specs.Text.{digits_in}

abbrev step : ℕ → ℕ → ℕ
step n c = n * 10 + (c - 48)

pub length_digits : (k n : ℕ) → length (digits_in k n) ≡ k
length_digits zero n = refl
length_digits (suc k) n = ap suc (length_digits k n)

digit_is : (d : ℕ) → d < 10 → is_ascii_digit (48 + d) ≡ true
digit_is d h = grind (arith, nat_tests)

pub digits_pass : (k n : ℕ) → list_all is_ascii_digit (digits_in k n) ≡ true
digits_pass zero n = refl
digits_pass (suc k) n =
    and_from (is_ascii_digit (48 + n / 10 ^ k % 10)) (list_all is_ascii_digit (digits_in k n)) (digit_is (n / 10 ^ k % 10) (mod-lt (n / 10 ^ k) (omega arith))) (digits_pass k n)

-- the digits after a number
pub digits_behind : (k a n : ℕ) → fold step a (digits_in k n) ≡ a * 10 ^ k + n % 10 ^ k
digits_behind zero a n = omega (arith, pow-zero 10)
digits_behind (suc k) a n =
    let d : ℕ = n / 10 ^ k % 10 in
    let some : 0 < 10 ^ k = one-le-pow k 10 (omega arith) in
    let first : a * 10 + (48 + d - 48) ≡ a * 10 + d = omega arith in
    let spread = add-mul (a * 10) d (10 ^ k) in
    let low : n % (10 * 10 ^ k) ≡ d * 10 ^ k + n % 10 ^ k = mod-mul n (omega arith) some in
    let up = mul_assoc a 10 (10 ^ k) in
    let power : 10 ^ suc k ≡ 10 * 10 ^ k = omega (arith, pow-suc 10 k) in
    let sum : (a * 10 + d) * 10 ^ k + n % 10 ^ k ≡ a * (10 * 10 ^ k) + n % (10 * 10 ^ k) = omega (arith, spread, low, up) in
    ap (λ x. fold step x (digits_in k n)) first ∙ digits_behind k (a * 10 + d) n ∙ sum ∙ ap (λ x. a * x + n % x) (sym power)

pub digits_value : (k n : ℕ) → number (digits_in k n) ≡ n % 10 ^ k
digits_value k n = digits_behind k 0 n ∙ (let e : 0 * 10 ^ k + n % 10 ^ k ≡ n % 10 ^ k = omega arith in e)

-- a decimal number
abbrev IsDecimal : ℕ → List ℕ → Type 0
IsDecimal n ds = (list_all is_ascii_digit ds ≡ true) × (number ds ≡ n) × (0 < length ds)

pub decimal_is : (n : ℕ) → n < 2 ^ 64 → IsDecimal n (decimal n)
decimal_is n h = decimal_by_steps IsDecimal one more n h
  where
    one : (m : ℕ) → m < 10 → IsDecimal m ((48 + m) ∷ [])
    one m small = (and_from (is_ascii_digit (48 + m)) true (digit_is m small) refl, omega arith, omega arith)

    more : (m : ℕ) (ds : List ℕ) → 10 ≤ m → IsDecimal (m / 10) ds → IsDecimal m (ds ++ (48 + m % 10) ∷ [])
    more m ds ten is =
        let digit = digit_is (m % 10) (mod-lt m (omega arith)) in
        let front = is.1 in
        let long = length-append ds ((48 + m % 10) ∷ []) in (
          list_all-append is_ascii_digit ds ((48 + m % 10) ∷ []) ∙ and_from (list_all is_ascii_digit ds) (list_all is_ascii_digit ((48 + m % 10) ∷ [])) is.0 (and_from (is_ascii_digit (48 + m % 10)) true digit refl),
          fold-append step 0 ds ((48 + m % 10) ∷ []) ∙ omega arith,
          omega arith,
        )

-- n digits are the first n of themselves
pub first_all : (k : ℕ) (ds : List ℕ) → length ds ≡ k → first_digits k ds ≡ ds
first_all k ds long = take-append-le k ds (replicate k 48) (omega arith) ∙ take_all k ds (omega arith)

-- digits after digits
pub both_pass : (xs ys : List ℕ) → list_all is_ascii_digit xs ≡ true → list_all is_ascii_digit ys ≡ true → list_all is_ascii_digit (xs ++ ys) ≡ true
both_pass xs ys a b = list_all-append is_ascii_digit xs ys ∙ and_from (list_all is_ascii_digit xs) (list_all is_ascii_digit ys) a b

pub number_behind : (xs : List ℕ) (k n : ℕ) → number (xs ++ digits_in k n) ≡ number xs * 10 ^ k + n % 10 ^ k
number_behind xs k n = fold-append step 0 xs (digits_in k n) ∙ digits_behind k (number xs) n
