-- Digits of numbers, as they are written one by one.
use Rattle.std.proofs.Common.{◌≡◌, ℕ, zero, suc, ◌+◌, ◌-◌, ◌/◌, ◌%◌, ◌^◌, ◌<◌, ◌≤◌, refl, sym, ap, ◌∙◌, arith, [], ◌∷◌, ◌++◌, length, drop, take, map, zero-add, take_all}
use Rattle.std.proofs.lemmas.Nat.{div-add-mod'}
use Rattle.std.proofs.Math.Nat.{mod-eq_of_lt, mod-lt, div-le_self, one-le-pow, pow-le-pow_right}
use Rattle.std.proofs.lemmas.List.{map-append}
use Rattle.std.specs.Fmt.{decimal}
use Rattle.std.specs.Int.Digits.{digits_of}
use Rattle.std.proofs.lemmas.Fmt.{decimal_digit, decimal-digits_of}
use Rattle.std.proofs.lemmas.Int.Digits.{digits_of_step}
use Rattle.gps_fixed.specs.Text.{digits_in}

pub decimal_one : (n : ℕ) → n < 10 → decimal n ≡ (48 + n % 10) ∷ []
decimal_one n h = decimal_digit n h ∙ ap (λ d. (48 + d) ∷ []) (sym (mod-eq_of_lt h))

-- one more digit after the others
decimal_more : (n : ℕ) → n < 2 ^ 64 → 10 ≤ n → decimal n ≡ decimal (n / 10) ++ (48 + n % 10) ∷ []
decimal_more n h ten =
    let some : 0 < n = omega (arith, ten) in
    let ten_some : 0 < 10 = omega arith in
    let front : 0 < n / 10 = omega (arith, ten, div-add-mod' n 10, mod-lt n ten_some) in
    let small : n / 10 < 2 ^ 64 = omega (arith, h, div-le_self n 10) in
    decimal-digits_of n some h
    ∙ (ap (map (λ d. 48 + d)) (digits_of_step 10 n (omega arith) some)
    ∙ (map-append (λ d. 48 + d) (digits_of 10 (n / 10)) (n % 10 ∷ [])
    ∙ ap (λ ds. ds ++ (48 + n % 10) ∷ []) (sym (decimal-digits_of (n / 10) front small))))

pub decimal_two : (n : ℕ) → 10 ≤ n → n < 100 → decimal n ≡ (48 + n / 10 % 10) ∷ (48 + n % 10) ∷ []
decimal_two n ten hundred =
    let big : n < 2 ^ 64 = omega (arith, hundred) in
    let front : n / 10 < 10 = omega (arith, hundred) in
    decimal_more n big ten ∙ ap (λ ds. ds ++ (48 + n % 10) ∷ []) (decimal_one (n / 10) front)

pub decimal_three : (n : ℕ) → 100 ≤ n → n < 1_000 → decimal n ≡ (48 + n / 100 % 10) ∷ (48 + n / 10 % 10) ∷ (48 + n % 10) ∷ []
decimal_three n hundred thousand =
    let big : n < 2 ^ 64 = omega (arith, thousand) in
    let ten : 10 ≤ n = omega (arith, hundred) in
    let from : 10 ≤ n / 10 = omega (arith, hundred) in
    let to : n / 10 < 100 = omega (arith, thousand) in
    let twice : n / 10 / 10 ≡ n / 100 = omega arith in
    decimal_more n big ten
    ∙ (ap (λ ds. ds ++ (48 + n % 10) ∷ []) (decimal_two (n / 10) from to)
    ∙ ap (λ q. (48 + q % 10) ∷ (48 + n / 10 % 10) ∷ (48 + n % 10) ∷ []) twice)

pub digits_dropped : (j k n : ℕ) → drop j (digits_in (j + k) n) ≡ digits_in k n
digits_dropped zero k n = ap (λ m. digits_in m n) (zero-add k)
digits_dropped (suc j) k n =
    let more : suc j + k ≡ suc (j + k) = omega arith in
    ap (λ m. drop (suc j) (digits_in m n)) more ∙ digits_dropped j k n

length-digits_in : (k n : ℕ) → length (digits_in k n) ≡ k
length-digits_in zero n = refl
length-digits_in (suc k) n = ap suc (length-digits_in k n)

-- the last of nine digits
pub last_digits : (k n : ℕ) → k ≤ 9 → take (9 - (9 - k)) (drop (9 - k) (digits_in 9 n)) ≡ digits_in k n
last_digits k n h =
    let parts : 9 ≡ (9 - k) + k = omega (arith, h) in
    ap (take (9 - (9 - k))) (ap (λ m. drop (9 - k) (digits_in m n)) parts ∙ digits_dropped (9 - k) k n)
    ∙ take_all (9 - (9 - k)) (digits_in k n) (omega (arith, h, length-digits_in k n))

-- a power of ten as a divisor
pub unit_some : (k unit : ℕ) → unit ≡ 10 ^ k → 0 < unit
unit_some k unit e = omega (arith, e, one-le-pow k 10 (omega arith))

pub rest_small : (k unit n : ℕ) → unit ≡ 10 ^ k → k ≤ 9 → n % unit < 2 ^ 32
rest_small k unit n e h =
    let few = pow-le-pow_right {n = 10} (omega arith) h in
    omega (arith, e, few, mod-lt n (unit_some k unit e))
