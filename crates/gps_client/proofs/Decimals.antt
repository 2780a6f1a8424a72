-- Numbers are written in one way alone: without leading zeros, and with every decimal.
use Rattle.std.proofs.Common.{◌≡◌, ℕ, zero, suc, ◌+◌, ◌-◌, ◌*◌, ◌/◌, ◌%◌, ◌^◌, ◌<◌, ◌≤◌, true, false, not, nat_le, List, [], ◌∷◌, ◌++◌, length, refl, sym, ap, ◌∙◌, subst, arith, append_assoc, append-nil, length-append}
use Rattle.std.specs.Prelude.{◌==◌}
use Rattle.std.specs.List.{fold, list_all}
use Rattle.std.specs.Char.{is_ascii_digit}
use Rattle.std.specs.Fmt.{decimal}
use Rattle.std.proofs.Math.Arith.{mod-mul}
use Rattle.std.proofs.Math.Nat.{add-mul, mul_assoc, pow-suc, pow-zero, pow-le-pow_right, mod-lt, one-le-pow, mul-le-mul_right}
use Rattle.std.proofs.lemmas.Bool.{and_parts, and_from}
use Rattle.std.proofs.lemmas.Bool.Decides.{nat_tests}
use Rattle.std.proofs.lemmas.Nat.{div-add-mod', div-mul-add}
use Rattle.std.proofs.lemmas.Fmt.{decimal_by_steps, decimal_digit, length-decimal-le}
use Rattle.std.proofs.lemmas.List.Folds.{list_all-append}
use Rattle.std.proofs.lemmas.List.Sums.{fold-append}
use Rattle.std.proofs.Math.Nat.{div-le_self}
use Rattle.std.proofs.lemmas.Fmt.{decimal-digits_of}
use Rattle.std.proofs.lemmas.Int.Digits.{digits_of_step}
use Rattle.std.proofs.lemmas.List.{map-append}
use Rattle.std.specs.Int.Digits.{digits_of}
use Rattle.std.proofs.Common.{map}
use Rattle.gps_fixed.specs.Numeral.{number}
use Rattle.gps_fixed.specs.Text.{digits_in}
use Rattle.gps_fixed.proofs.NumeralLaws.{number_below}
use Rattle.gps_client.specs.Reading.{is_plain}

abbrev step : ℕ → ℕ → ℕ
step n c = n * 10 + (c - 48)

pub digit_in : (c : ℕ) → is_ascii_digit c ≡ true → (48 ≤ c) × (c ≤ 57)
digit_in c h = (grind (arith, nat_tests, h), grind (arith, nat_tests, h))

digit_is : (d : ℕ) → d < 10 → is_ascii_digit (48 + d) ≡ true
digit_is d h = grind (arith, nat_tests, h)

-- what the first digit is
abbrev First : ℕ → List ℕ → Type 0
First n [] = Unit {0}
First n (c ∷ ds) = 0 < n → (c == 48) ≡ false

pub record IsDecimal (n : ℕ) (ds : List ℕ) : Type 0 where
  pub all : list_all is_ascii_digit ds ≡ true
  pub value : number ds ≡ n
  pub some : 0 < length ds
  pub first : First n ds

pub decimal_is : (n : ℕ) → n < 2 ^ 64 → IsDecimal n (decimal n)
decimal_is n h = decimal_by_steps IsDecimal one more n h
  where
    one : (m : ℕ) → m < 10 → IsDecimal m ((48 + m) ∷ [])
    one m small = record { all = and_from (is_ascii_digit (48 + m)) true (digit_is m small) refl; value = omega arith; some = omega arith; first = λ some. grind (arith, nat_tests, some) }

    first_of : (m : ℕ) (ds : List ℕ) → 10 ≤ m → 0 < length ds → First (m / 10) ds → First m (ds ++ (48 + m % 10) ∷ [])
    first_of m [] ten some f = absurd (omega (arith, some))
    first_of m (c ∷ ds) ten some f = λ h. f (omega (arith, ten))

    more : (m : ℕ) (ds : List ℕ) → 10 ≤ m → IsDecimal (m / 10) ds → IsDecimal m (ds ++ (48 + m % 10) ∷ [])
    more m ds ten is =
        let digit = digit_is (m % 10) (mod-lt m (omega arith)) in
        let front = is.value in
        record {
          all = list_all-append is_ascii_digit ds ((48 + m % 10) ∷ []) ∙ and_from (list_all is_ascii_digit ds) (list_all is_ascii_digit ((48 + m % 10) ∷ [])) is.all (and_from (is_ascii_digit (48 + m % 10)) true digit refl);
          value = fold-append step 0 ds ((48 + m % 10) ∷ []) ∙ omega (arith, front);
          some = omega (arith, length-append ds ((48 + m % 10) ∷ []), is.some);
          first = first_of m ds ten is.some is.first;
        }

plain_of : (n : ℕ) (ds : List ℕ) → IsDecimal n ds → (length ds ≤ 1) → is_plain ds ≡ true
plain_of n [] is few = absurd (omega (arith, is.some))
plain_of n (c ∷ []) is few = refl
plain_of n (c ∷ d ∷ ds) is few = absurd (omega (arith, few))

plain_long : (n : ℕ) (ds : List ℕ) → 0 < n → IsDecimal n ds → length ds ≤ 19 → is_plain ds ≡ true
plain_long n [] some is few = absurd (omega (arith, is.some))
plain_long n (c ∷ []) some is few = refl
plain_long n (c ∷ d ∷ ds) some is few =
    let first : not (c == 48) ≡ true = ap not (is.first some) in
    and_from (not (c == 48)) (nat_le (length ds) 17) first (grind (arith, nat_tests, few))

pub decimal_plain : (n : ℕ) → n < 10 ^ 19 → is_plain (decimal n) ≡ true
decimal_plain zero h = plain_of 0 (decimal 0) (decimal_is 0 (omega arith)) (length-decimal-le 1 0 (omega arith) (omega arith) (omega arith))
decimal_plain (suc n) h = plain_long (suc n) (decimal (suc n)) (omega arith) (decimal_is (suc n) (omega (arith, h))) (length-decimal-le 19 (suc n) (omega arith) h (omega arith))

-- one more digit after the others
decimal_more : (n : ℕ) → n < 2 ^ 64 → 10 ≤ n → decimal n ≡ decimal (n / 10) ++ (48 + n % 10) ∷ []
decimal_more n h ten =
    let some : 0 < n = omega (arith, ten) in
    let ten_some : 0 < 10 = omega arith in
    let front : 0 < n / 10 = omega (arith, ten, div-add-mod' n 10, mod-lt n ten_some) in
    let small : n / 10 < 2 ^ 64 = omega (arith, h, div-le_self n 10) in
    decimal-digits_of n some h
    ∙ (ap (map (λ d. 48 + d)) (digits_of_step 10 n (omega arith) some)
    ∙ (map-append (λ d. 48 + d) (digits_of 10 (n / 10)) (n % 10 ∷ [])
    ∙ ap (λ ds. ds ++ (48 + n % 10) ∷ []) (sym (decimal-digits_of (n / 10) front small))))

grows : (ds : List ℕ) (n : ℕ) → n ≤ fold step n ds
grows [] n = omega arith
grows (c ∷ ds) n = omega (arith, grows ds (n * 10 + (c - 48)))

-- digits after a number above zero
digits_behind : (ds : List ℕ) (a : ℕ) → 0 < a → list_all is_ascii_digit ds ≡ true → fold step a ds < 2 ^ 64 → decimal (fold step a ds) ≡ decimal a ++ ds
digits_behind [] a some all h = sym (append-nil (decimal a))
digits_behind (c ∷ ds) a some all h =
    let parts = and_parts (is_ascii_digit c) (list_all is_ascii_digit ds) all in
    let d = digit_in c parts.0 in
    let next : ℕ = a * 10 + (c - 48) in
    let ten : 10 ≤ a * 10 + (c - 48) = omega (arith, some) in
    let small : a * 10 + (c - 48) < 2 ^ 64 = omega (arith, h, grows ds (a * 10 + (c - 48))) in
    let front : (a * 10 + (c - 48)) / 10 ≡ a = omega (arith, d.1) in
    let last : 48 + (a * 10 + (c - 48)) % 10 ≡ c = omega (arith, d.0, d.1) in
    digits_behind ds (a * 10 + (c - 48)) (omega (arith, some)) parts.1 h
    ∙ (ap (λ t. t ++ ds) (decimal_more (a * 10 + (c - 48)) small ten ∙ (ap (λ n. decimal n ++ (48 + (a * 10 + (c - 48)) % 10) ∷ []) front ∙ ap (λ k. decimal a ++ k ∷ []) last))
    ∙ append_assoc (decimal a) (c ∷ []) ds)

plain_small : (ds : List ℕ) → list_all is_ascii_digit ds ≡ true → length ds ≤ 19 → number ds < 10 ^ 19
plain_small ds all few =
    let power = pow-le-pow_right {n = 10} (omega arith) few in
    omega (arith, number_below ds all, power)

-- digits without a leading zero are those of their number
pub decimal_of : (ds : List ℕ) → list_all is_ascii_digit ds ≡ true → is_plain ds ≡ true → (decimal (number ds) ≡ ds) × (number ds < 10 ^ 19)
decimal_of [] all plain = absurd cc
decimal_of (c ∷ []) all plain =
    let d = digit_in c (and_parts (is_ascii_digit c) true all).0 in
    let n : 0 * 10 + (c - 48) < 10 = omega (arith, d.1) in
    let back : 48 + (0 * 10 + (c - 48)) ≡ c = omega (arith, d.0) in
    (decimal_digit (0 * 10 + (c - 48)) n ∙ ap (λ k. k ∷ []) back, omega (arith, n))
decimal_of (c ∷ e ∷ ds) all plain =
    let parts = and_parts (is_ascii_digit c) (list_all is_ascii_digit (e ∷ ds)) all in
    let d = digit_in c parts.0 in
    let tests = and_parts (not (c == 48)) (nat_le (length ds) 17) plain in
    let few : length (c ∷ e ∷ ds) ≤ 19 = grind (arith, nat_tests, tests.1) in
    let other : 48 < c = grind (arith, nat_tests, tests.0, d.0) in
    let small = plain_small (c ∷ e ∷ ds) all few in
    let first : 0 * 10 + (c - 48) < 10 = omega (arith, d.1) in
    let back : 48 + (0 * 10 + (c - 48)) ≡ c = omega (arith, d.0) in (
      digits_behind (e ∷ ds) (0 * 10 + (c - 48)) (omega (arith, other)) parts.1 (omega (arith, small))
          ∙ ap (λ t. t ++ e ∷ ds) (decimal_digit (0 * 10 + (c - 48)) first ∙ ap (λ k. k ∷ []) back),
      small,
    )

-- a fixed count of digits
pub length_digits : (k n : ℕ) → length (digits_in k n) ≡ k
length_digits zero n = refl
length_digits (suc k) n = ap suc (length_digits k n)

pub digits_pass : (k n : ℕ) → list_all is_ascii_digit (digits_in k n) ≡ true
digits_pass zero n = refl
digits_pass (suc k) n =
    and_from (is_ascii_digit (48 + n / 10 ^ k % 10)) (list_all is_ascii_digit (digits_in k n)) (digit_is (n / 10 ^ k % 10) (mod-lt (n / 10 ^ k) (omega arith))) (digits_pass k n)

-- digits after a number
spread_behind : (k a n : ℕ) → fold step a (digits_in k n) ≡ a * 10 ^ k + n % 10 ^ k
spread_behind zero a n = omega (arith, pow-zero 10)
spread_behind (suc k) a n =
    let d : ℕ = n / 10 ^ k % 10 in
    let some : 0 < 10 ^ k = one-le-pow k 10 (omega arith) in
    let first : a * 10 + (48 + d - 48) ≡ a * 10 + d = omega arith in
    let spread = add-mul (a * 10) d (10 ^ k) in
    let low : n % (10 * 10 ^ k) ≡ d * 10 ^ k + n % 10 ^ k = mod-mul n (omega arith) some in
    let up = mul_assoc a 10 (10 ^ k) in
    let power : 10 ^ suc k ≡ 10 * 10 ^ k = omega (arith, pow-suc 10 k) in
    let sum : (a * 10 + d) * 10 ^ k + n % 10 ^ k ≡ a * (10 * 10 ^ k) + n % (10 * 10 ^ k) = omega (arith, spread, low, up) in
    ap (λ x. fold step x (digits_in k n)) first ∙ spread_behind k (a * 10 + d) n ∙ sum ∙ ap (λ x. a * x + n % x) (sym power)

pub digits_value : (k n : ℕ) → number (digits_in k n) ≡ n % 10 ^ k
digits_value k n = spread_behind k 0 n ∙ (let e : 0 * 10 ^ k + n % 10 ^ k ≡ n % 10 ^ k = omega arith in e)

-- what comes before the last n digits
pub fold_value : (ds : List ℕ) (a : ℕ) → list_all is_ascii_digit ds ≡ true → (r : ℕ) × (fold step a ds ≡ a * 10 ^ length ds + r) × (r < 10 ^ length ds)
fold_value [] a all = (0, omega (arith, pow-zero 10), omega (arith, pow-zero 10))
fold_value (c ∷ ds) a all =
    let parts = and_parts (is_ascii_digit c) (list_all is_ascii_digit ds) all in
    let d = digit_in c parts.0 in
    let more = fold_value ds (a * 10 + (c - 48)) parts.1 in
    let p : ℕ = 10 ^ length ds in
    let power : 10 ^ suc (length ds) ≡ 10 * 10 ^ length ds = omega (arith, pow-suc 10 (length ds)) in
    let spread = add-mul (a * 10) (c - 48) (10 ^ length ds) in
    let up = mul_assoc a 10 (10 ^ length ds) in
    let nine : (c - 48) * 10 ^ length ds ≤ 9 * 10 ^ length ds = mul-le-mul_right (10 ^ length ds) (omega (arith, d.1)) in
    ((c - 48) * 10 ^ length ds + more.0, more.1 ∙ omega (arith, spread, up, power) ∙ ap (λ x. a * x + ((c - 48) * 10 ^ length ds + more.0)) (sym power), subst (λ x. (c - 48) * 10 ^ length ds + more.0 < x) (sym power) (omega (arith, nine, more.2)))

pub front_of : (ds : List ℕ) (a : ℕ) → list_all is_ascii_digit ds ≡ true → fold step a ds / 10 ^ length ds ≡ a
front_of ds a all =
    let v = fold_value ds a all in
    ap (λ n. n / 10 ^ length ds) v.1 ∙ div-mul-add a (10 ^ length ds) v.0 v.2

-- n digits are those of their number, whatever comes before them
pub digits_of_all : (ds : List ℕ) (a : ℕ) → list_all is_ascii_digit ds ≡ true → digits_in (length ds) (fold step a ds) ≡ ds
digits_of_all [] a all = refl
digits_of_all (c ∷ ds) a all =
    let parts = and_parts (is_ascii_digit c) (list_all is_ascii_digit ds) all in
    let d = digit_in c parts.0 in
    let front = front_of ds (a * 10 + (c - 48)) parts.1 in
    let first : 48 + fold step (a * 10 + (c - 48)) ds / 10 ^ length ds % 10 ≡ c = ap (λ q. 48 + q % 10) front ∙ omega (arith, d.0, d.1) in
    ap (λ k. k ∷ digits_in (length ds) (fold step (a * 10 + (c - 48)) ds)) first ∙ ap (λ t. c ∷ t) (digits_of_all ds (a * 10 + (c - 48)) parts.1)
