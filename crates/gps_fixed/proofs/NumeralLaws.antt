-- Numbers of decimal digits, and where a run of digits ends.
use Rattle.std.proofs.Common.{◌≡◌, ℕ, zero, suc, ◌+◌, ◌-◌, ◌*◌, ◌^◌, ◌<◌, ◌≤◌, min, refl, sym, ap, ◌∙◌, subst, inl, inr, Bool, true, false, cond, nat_lt, Option, Some, None, unwrap_or, drop, arith, List, [], ◌∷◌, ◌++◌, length, take, get_or, replicate, length-append, length-take, zero-add, take_all, take-append-drop, mul_assoc, mul_comm}
use Rattle.std.proofs.lemmas.List.{length-replicate, length-take-le, take-replicate, take-append-le}
use Rattle.std.proofs.lemmas.List.Folds.{list_all-append, list_all_more, length-prefix_len}
use Rattle.std.proofs.Math.Seq.{take-append-add}
use Rattle.std.proofs.lemmas.Nat.{pow-add}
use Rattle.std.proofs.Math.Nat.{mul-le-mul_right, one-le-pow, pow-suc, pow-zero, pow-le-pow_right}
use Rattle.std.proofs.lemmas.Bool.{cases_lt, and_parts, and_from, cond-true, cond-false}
use Rattle.std.proofs.lemmas.Bool.Decides.{nat_tests}
use Rattle.std.proofs.lemmas.List.Sums.{fold_more, fold-append, prefix_len-le-length}
use Rattle.std.specs.List.{fold, list_all, prefix_len}
use Rattle.std.specs.Char.{is_ascii_digit}
use Rattle.gps_fixed.specs.declared.numeral.Numeral.{Numeral}
use Rattle.gps_fixed.specs.Numeral.{number, first_digits, if_digits, numeral_behind, numeral_of, numeral}

abbrev step : ℕ → ℕ → ℕ
step n c = n * 10 + (c - 48)

digit_bounds : (c : ℕ) → is_ascii_digit c ≡ true → (48 ≤ c) × (c ≤ 57)
digit_bounds c h = (grind (arith, nat_tests, h), grind (arith, nat_tests, h))

below_after : (ds : List ℕ) (n k : ℕ) → list_all is_ascii_digit ds ≡ true → n < 10 ^ k → fold step n ds < 10 ^ (k + length ds)
below_after [] n k all small =
    let same : k ≡ k + length {A = ℕ} [] = omega arith in
    subst (λ e. n < 10 ^ e) same small
below_after (c ∷ ds) n k all small =
    let parts = and_parts (is_ascii_digit c) (list_all is_ascii_digit ds) all in
    let digit = digit_bounds c parts.0 in
    let next : n * 10 + (c - 48) < 10 ^ suc k = omega (arith, pow-suc 10 k, small, digit.1) in
    let same : suc k + length ds ≡ k + length (c ∷ ds) = omega arith in
    subst (λ e. fold step (n * 10 + (c - 48)) ds < 10 ^ e) same (below_after ds (n * 10 + (c - 48)) (suc k) parts.1 next)

pub number_below : (ds : List ℕ) → list_all is_ascii_digit ds ≡ true → number ds < 10 ^ length ds
number_below ds all = subst (λ e. number ds < 10 ^ e) (zero-add (length ds)) (below_after ds 0 0 all (omega (arith, pow-zero 10)))

all_at : (ds : List ℕ) (i : ℕ) → list_all is_ascii_digit ds ≡ true → i < length ds → is_ascii_digit (get_or ds i 0) ≡ true
all_at [] i all h = absurd (omega (arith, h))
all_at (c ∷ ds) zero all h = (and_parts (is_ascii_digit c) (list_all is_ascii_digit ds) all).0
all_at (c ∷ ds) (suc i) all h = all_at ds i (and_parts (is_ascii_digit c) (list_all is_ascii_digit ds) all).1 (omega (arith, h))

all_take : (ds : List ℕ) (i : ℕ) → list_all is_ascii_digit ds ≡ true → list_all is_ascii_digit (take i ds) ≡ true
all_take [] zero all = refl
all_take [] (suc i) all = refl
all_take (c ∷ ds) zero all = refl
all_take (c ∷ ds) (suc i) all =
    let parts = and_parts (is_ascii_digit c) (list_all is_ascii_digit ds) all in
    and_from (is_ascii_digit c) (list_all is_ascii_digit (take i ds)) parts.0 (all_take ds i parts.1)

-- one more digit of a run of digits
pub record DigitStep (ds : List ℕ) (i value : ℕ) : Type 0 where
  pub small : value < 10 ^ 17
  pub from : 48 ≤ get_or ds i 0
  pub to : get_or ds i 0 ≤ 57
  pub digits : list_all is_ascii_digit (take (i + 1) ds) ≡ true
  pub next : 10 * value + (get_or ds i 0 - 48) ≡ number (take (i + 1) ds)

pub turn : (ds : List ℕ) (i value : ℕ) → list_all is_ascii_digit (take i ds) ≡ true → i ≤ 17 → i < length ds → is_ascii_digit (get_or ds i 0) ≡ true → value ≡ number (take i ds) → DigitStep ds i value
turn ds i value all few h d e =
    let digit = digit_bounds (get_or ds i 0) d in
    let below = number_below (take i ds) all in
    let within : length (take i ds) ≤ 17 = omega (arith, length-take i ds, few) in
    let power = pow-le-pow_right {n = 10} (omega arith) within in
    let more = fold_more step 0 ds i 0 h in
    record {
      small = omega (arith, e, below, power);
      from = digit.0;
      to = digit.1;
      digits = list_all_more is_ascii_digit ds i 0 h ∙ and_from (list_all is_ascii_digit (take i ds)) (is_ascii_digit (get_or ds i 0)) all d;
      next = omega (arith, e, more);
    }

-- all digits passed
pub all_passed : (ds : List ℕ) (i value : ℕ) → list_all is_ascii_digit (take i ds) ≡ true → length ds ≤ i → value ≡ number (take i ds) → value < 10 ^ length ds
all_passed ds i value all ended e =
    let whole : take i ds ≡ ds = take_all i ds ended in
    subst (λ v. v < 10 ^ length ds) (sym (e ∙ ap number whole)) (number_below ds (subst (λ d. list_all is_ascii_digit d ≡ true) whole all))

-- the number of the digits that begin a text
pub below_leading : (text : List ℕ) (i value : ℕ) → list_all is_ascii_digit (take i text) ≡ true → i ≤ length text → value ≡ number (take i text) → value < 10 ^ i
below_leading text i value all within e =
    subst (λ n. value < 10 ^ n) (length-take-le i text within) (subst (λ v. v < 10 ^ length (take i text)) (sym e) (number_below (take i text) all))

pub record Leading (text : List ℕ) : Type 0 where
  pub within : prefix_len is_ascii_digit text ≤ length text
  pub digits : list_all is_ascii_digit (take (prefix_len is_ascii_digit text) text) ≡ true

leading_within : (text : List ℕ) → prefix_len is_ascii_digit text ≤ length text
leading_within text = prefix_len-le-length is_ascii_digit text

leading_digits_pass : (text : List ℕ) → list_all is_ascii_digit (take (prefix_len is_ascii_digit text) text) ≡ true
leading_digits_pass [] = refl
leading_digits_pass (c ∷ text) = passes c text (is_ascii_digit c) refl (leading_digits_pass text)
  where
    passes : (c : ℕ) (text : List ℕ) (b : Bool) → is_ascii_digit c ≡ b → list_all is_ascii_digit (take (prefix_len is_ascii_digit text) text) ≡ true → list_all is_ascii_digit (take (cond b (1 + prefix_len is_ascii_digit text) 0) (c ∷ text)) ≡ true
    passes c text true e more =
        let one_more : 1 + prefix_len is_ascii_digit text ≡ suc (prefix_len is_ascii_digit text) = omega arith in
        rw one_more (and_from (is_ascii_digit c) (list_all is_ascii_digit (take (prefix_len is_ascii_digit text) text)) e more)
    passes c text false e more = refl

pub leading : (text : List ℕ) → Leading text
leading text = record { within = leading_within text; digits = leading_digits_pass text }

pub read_some : (k len : ℕ) (text : List ℕ) (r : Option Numeral) → len ≡ prefix_len is_ascii_digit text → len ≤ 9 → r ≡ numeral_behind k (take len text) (drop len text) → r ≡ numeral k text
unfolding numeral
read_some k len text r e few h =
    let short : nat_lt 9 (length (take len text)) ≡ false = grind (arith, nat_tests, length-take len text, few) in
    h ∙ (sym (cond-false (nat_lt 9 (length (take len text))) None (numeral_behind k (take len text) (drop len text)) short) ∙ ap (λ n. numeral_of k (take n text) (drop n text)) e)

pub read_none : (k : ℕ) (text : List ℕ) → 9 < prefix_len is_ascii_digit text → None ≡ numeral k text
unfolding numeral
read_none k text many =
    let before = prefix_len is_ascii_digit text in
    let long : nat_lt 9 (length (take before text)) ≡ true = grind (arith, nat_tests, length-prefix_len is_ascii_digit text, many) in
    sym (cond-true (nat_lt 9 (length (take before text))) None (numeral_behind k (take before text) (drop before text)) long)

list_all-replicate : (k : ℕ) → list_all is_ascii_digit (replicate k 48) ≡ true
list_all-replicate zero = refl
list_all-replicate (suc k) = list_all-replicate k

zeros : (n j : ℕ) → fold step n (replicate j 48) ≡ n * 10 ^ j
zeros n zero = omega (arith, pow-zero 10)
zeros n (suc j) =
    let same : n * 10 + (48 - 48) ≡ n * 10 = omega arith in
    ap (λ m. fold step m (replicate j 48)) same ∙ zeros (n * 10) j ∙ (mul_assoc n 10 (10 ^ j) ∙ ap (λ p. n * p) (mul_comm 10 (10 ^ j) ∙ sym (pow-suc 10 j)))

pub no_fraction : (k : ℕ) → number (first_digits k []) ≡ 0
no_fraction k = ap (fold step 0) (take_all k (replicate k 48) (omega (arith, length-replicate {A = ℕ} k 48))) ∙ (zeros 0 k ∙ omega arith)

first_few : (k : ℕ) (ds : List ℕ) → length ds ≤ k → first_digits k ds ≡ ds ++ replicate (k - length ds) 48
first_few k ds few =
    let parts : k ≡ length ds + (k - length ds) = omega arith in
    ap (λ n. take n (ds ++ replicate k 48)) parts ∙ (take-append-add ds (replicate k 48) (k - length ds) ∙ ap (λ zs. ds ++ zs) (take-replicate (k - length ds) k 48 (omega arith)))

value_few : (k : ℕ) (ds : List ℕ) → length ds ≤ k → number (first_digits k ds) ≡ number ds * 10 ^ (k - length ds)
value_few k ds few = ap number (first_few k ds few) ∙ (fold-append step 0 ds (replicate (k - length ds) 48) ∙ zeros (number ds) (k - length ds))

first_pass : (k : ℕ) (ds : List ℕ) → list_all is_ascii_digit ds ≡ true → list_all is_ascii_digit (first_digits k ds) ≡ true
first_pass k ds all = all_take (ds ++ replicate k 48) k (list_all-append is_ascii_digit ds (replicate k 48) ∙ and_from (list_all is_ascii_digit ds) (list_all is_ascii_digit (replicate k 48)) all (list_all-replicate k))

first_small : (k : ℕ) (ds : List ℕ) → list_all is_ascii_digit ds ≡ true → number (first_digits k ds) < 10 ^ k
first_small k ds all =
    let long : length (first_digits k ds) ≡ k = length-take k (ds ++ replicate k 48) ∙ omega (arith, length-append ds (replicate k 48), length-replicate {A = ℕ} k 48) in
    subst (λ n. number (first_digits k ds) < 10 ^ n) long (number_below (first_digits k ds) (first_pass k ds all))

-- the first digits, with zeros if there are fewer, as the code computes them
first_value : (k used value : ℕ) (ds : List ℕ) → list_all is_ascii_digit ds ≡ true → used ≡ min (length ds) k → value ≡ number (take used ds) → value * 10 ^ (k - used) ≡ number (first_digits k ds)
first_value k used value ds all e v =
    elim (cases_lt (length ds) k) [
      | inl fewer ↦
          let whole : used ≡ length ds = omega arith in
          ap (λ n. n * 10 ^ (k - used)) (v ∙ ap number (ap (λ n. take n ds) whole ∙ take_all (length ds) ds (omega arith)))
          ∙ (ap (λ n. number ds * 10 ^ (k - n)) whole ∙ sym (value_few k ds (omega arith)))
      | inr enough ↦
          let whole : used ≡ k = omega arith in
          let none : k - used ≡ 0 = omega arith in
          ap (λ n. value * 10 ^ n) none ∙ (omega (arith, pow-zero 10) ∙ (v ∙ ap number (ap (λ n. take n ds) whole ∙ sym (take-append-le k ds (replicate k 48) enough))))
    ]

-- what should be digits is, if a number was read of it
if_some : (b : Bool) (n value : ℕ) → Some value ≡ if_digits b n → (b ≡ true) × (value ≡ n)
if_some true n value e = (refl, ap (λ o. unwrap_or o 0) e)
if_some false n value e = absurd (cc)

all_digits : (used : ℕ) (ds : List ℕ) → list_all is_ascii_digit (take used ds) ≡ true → list_all is_ascii_digit (drop used ds) ≡ true → list_all is_ascii_digit ds ≡ true
all_digits used ds front back =
    ap (list_all is_ascii_digit) (sym (take-append-drop used ds))
    ∙ (list_all-append is_ascii_digit (take used ds) (drop used ds) ∙ and_from (list_all is_ascii_digit (take used ds)) (list_all is_ascii_digit (drop used ds)) front back)

pub fraction_value : (k used value power : ℕ) (ds first rest : List ℕ) → used ≡ min (length ds) k → first ≡ take used ds → rest ≡ drop used ds
    → Some value ≡ if_digits (list_all is_ascii_digit first) (number first) → list_all is_ascii_digit rest ≡ true → power ≡ 10 ^ (k - used) → Some (value * power) ≡ if_digits (list_all is_ascii_digit ds) (number (first_digits k ds))
fraction_value k used value power ds first rest e f r read back p =
    let front = if_some (list_all is_ascii_digit first) (number first) value read in
    let all = all_digits used ds (subst (λ d. list_all is_ascii_digit d ≡ true) f front.0) (subst (λ d. list_all is_ascii_digit d ≡ true) r back) in
    let read_is = front.1 ∙ ap number f in
    ap (λ q. Some (value * q)) p ∙ (ap Some (first_value k used value ds all e read_is) ∙ sym (cond-true (list_all is_ascii_digit ds) (Some (number (first_digits k ds))) None all))

pub fraction_small : (k used value power : ℕ) (ds first rest : List ℕ) → used ≡ min (length ds) k → first ≡ take used ds → rest ≡ drop used ds
    → Some value ≡ if_digits (list_all is_ascii_digit first) (number first) → list_all is_ascii_digit rest ≡ true → power ≡ 10 ^ (k - used) → value * power < 10 ^ k
fraction_small k used value power ds first rest e f r read back p =
    let front = if_some (list_all is_ascii_digit first) (number first) value read in
    let all = all_digits used ds (subst (λ d. list_all is_ascii_digit d ≡ true) f front.0) (subst (λ d. list_all is_ascii_digit d ≡ true) r back) in
    let read_is = front.1 ∙ ap number f in
    subst (λ n. n < 10 ^ k) (sym (ap (λ q. value * q) p ∙ first_value k used value ds all e read_is)) (first_small k ds all)

-- digits before the point and digits after it, as one number
pub scaled_small : (a k whole power behind : ℕ) → whole < 10 ^ a → power ≡ 10 ^ k → behind < 10 ^ k → whole * power + behind < 10 ^ (a + k)
scaled_small a k whole power behind w p b =
    let step : (whole + 1) * 10 ^ k ≤ 10 ^ a * 10 ^ k = mul-le-mul_right (10 ^ k) (omega (arith, w)) in
    omega (arith, step, b, pow-add 10 a k, ap (λ q. whole * q) p)

pub whole_small : (a k whole power : ℕ) → whole < 10 ^ a → power ≡ 10 ^ k → whole * power < 10 ^ (a + k)
whole_small a k whole power w p =
    omega (arith, scaled_small a k whole power 0 w p (one-le-pow k 10 (omega arith)))

pub under_18 : (a k n : ℕ) → n < 10 ^ (a + k) → a ≤ 9 → k ≤ 9 → n < 10 ^ 18
under_18 a k n h p q =
    let within : a + k ≤ 18 = omega arith in
    omega (arith, h, pow-le-pow_right {n = 10} (omega arith) within)
