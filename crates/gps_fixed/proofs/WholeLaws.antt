-- A text of exactly n digits, optionally with a point and digits after it, by its first digits.
use Rattle.std.proofs.Common.{◌≡◌, ℕ, zero, suc, ◌+◌, ◌^◌, ◌<◌, ◌≤◌, ◌==◌, ◌&&◌, refl, sym, ap, ◌∙◌, subst, inl, inr, Bool, true, false, cond, nat_lt, Option, Some, None, if◌then◌else◌, unwrap_or, drop, arith, List, [], ◌∷◌, length, take, zero-add}
use Rattle.std.proofs.lemmas.Bool.{and_parts, cases_Bool, cond-true, cond-false, ne_eqb, eqb-true}
use Rattle.std.proofs.lemmas.List.{length-take-le}
use Rattle.std.proofs.lemmas.List.Folds.{length-prefix_len}
use Rattle.std.proofs.lemmas.List.Sums.{prefix_len-le-length}
use Rattle.std.proofs.lemmas.Bool.Decides.{nat_tests}
use Rattle.std.specs.Option.{option_map, option_and_then}
use Rattle.std.specs.List.{list_all, prefix_len}
use Rattle.std.specs.Char.{is_ascii_digit}
use Rattle.gps_fixed.specs.declared.numeral.Numeral.{Numeral}
use Rattle.gps_fixed.specs.Numeral.{number, if_digits, reading, numeral_behind, numeral}
use Rattle.gps_fixed.specs.Scaled.{digits_of, has_whole, magnitude_if}
use Rattle.gps_fixed.proofs.NumeralLaws.{read_some}

abbrev pub whole_value : ℕ → Option Numeral → Option ℕ
whole_value count o = option_and_then (λ n. magnitude_if (has_whole count n) n) o

-- with another number of digits before the point it is none
other_count : (count k : ℕ) (whole : List ℕ) (behind : Option (List ℕ)) → (length whole == count) ≡ false
    → whole_value count (Some (reading k (record { whole = whole; behind = behind }))) ≡ None
other_count count k whole behind apart =
    ap (λ b. magnitude_if (b && nat_lt 0 (unwrap_or (option_map length behind) 1)) (reading k (record { whole = whole; behind = behind }))) apart

other_behind : (count k : ℕ) (whole rest : List ℕ) → (length whole == count) ≡ false → whole_value count (numeral_behind k whole rest) ≡ None
other_behind count k whole [] apart = other_count count k whole None apart
other_behind count k whole (c ∷ digits) apart = by_test ((c == 46) && list_all is_ascii_digit digits)
  where
    by_test : (b : Bool) → whole_value count (if b then Some (reading k (record { whole = whole; behind = Some digits })) else None) ≡ None
    by_test true = other_count count k whole (Some digits) apart
    by_test false = refl

other_numeral : (count k : ℕ) (text : List ℕ) → (prefix_len is_ascii_digit text == count) ≡ false → digits_of count k text ≡ None
unfolding digits_of numeral
other_numeral count k text apart = by_test (nat_lt 9 (length (take (prefix_len is_ascii_digit text) text)))
  where
    by_test : (b : Bool) → whole_value count (if b then None else numeral_behind k (take (prefix_len is_ascii_digit text) text) (drop (prefix_len is_ascii_digit text) text)) ≡ None
    by_test true = refl
    by_test false =
        other_behind count k (take (prefix_len is_ascii_digit text) text) (drop (prefix_len is_ascii_digit text) text)
        (ap (λ n. n == count) (length-prefix_len is_ascii_digit text) ∙ apart)

-- the run of digits that begins a text, from its first digits
run_from : (count : ℕ) (text : List ℕ) → count ≤ length text → list_all is_ascii_digit (take count text) ≡ true
    → prefix_len is_ascii_digit text ≡ count + prefix_len is_ascii_digit (drop count text)
run_from zero text within all = sym (zero-add (prefix_len is_ascii_digit text))
run_from (suc n) [] within all = absurd (omega (arith, within))
run_from (suc n) (c ∷ text) within all =
    let parts = and_parts (is_ascii_digit c) (list_all is_ascii_digit (take n text)) all in
    let more = run_from n text (omega (arith, within)) parts.1 in
    cond-true (is_ascii_digit c) (1 + prefix_len is_ascii_digit text) 0 parts.0 ∙ omega (arith, more)

run_short : (count : ℕ) (text : List ℕ) → count ≤ length text → list_all is_ascii_digit (take count text) ≡ false → prefix_len is_ascii_digit text < count
run_short zero text within not_all = cc
run_short (suc n) [] within not_all = absurd (omega (arith, within))
run_short (suc n) (c ∷ text) within not_all = by_first n c text (is_ascii_digit c) not_all (run_short n text (omega (arith, within)))
  where
    by_first : (n c : ℕ) (text : List ℕ) (b : Bool) → (b && list_all is_ascii_digit (take n text)) ≡ false
        → (list_all is_ascii_digit (take n text) ≡ false → prefix_len is_ascii_digit text < n) → cond b (1 + prefix_len is_ascii_digit text) 0 < suc n
    by_first n c text true not_all more = omega (arith, more not_all)
    by_first n c text false not_all more = omega arith

-- what is read: too long or too short a text, first digits that are none, and first digits
pub none_long : (count k : ℕ) (text : List ℕ) → 9 < count → None ≡ digits_of count k text
unfolding digits_of numeral
none_long count k text long = elim (cases_Bool (prefix_len is_ascii_digit text == count)) [
  | inl is ↦
      let same : prefix_len is_ascii_digit text ≡ count = eqb-true (prefix_len is_ascii_digit text) count is in
      let many : nat_lt 9 (length (take (prefix_len is_ascii_digit text) text)) ≡ true = grind (arith, nat_tests, length-prefix_len is_ascii_digit text, same, long) in
      sym (ap (λ b. whole_value count (if b then None else numeral_behind k (take (prefix_len is_ascii_digit text) text) (drop (prefix_len is_ascii_digit text) text))) many)
  | inr apart ↦ sym (other_numeral count k text apart)
]

pub none_short : (count k : ℕ) (text : List ℕ) → length text < count → None ≡ digits_of count k text
none_short count k text short =
    let apart : (prefix_len is_ascii_digit text == count) ≡ false =
    ne_eqb (prefix_len is_ascii_digit text) count (λ e. absurd (omega (arith, e, short, prefix_len-le-length is_ascii_digit text))) in
    sym (other_numeral count k text apart)

if_none : (b : Bool) (n : ℕ) → None ≡ if_digits b n → b ≡ false
if_none true n e = cc
if_none false n e = refl

pub none_first : (count k : ℕ) (text whole : List ℕ) → count ≤ length text → whole ≡ take count text → None ≡ if_digits (list_all is_ascii_digit whole) (number whole)
    → None ≡ digits_of count k text
none_first count k text whole within is read =
    let not_all : list_all is_ascii_digit (take count text) ≡ false =
    subst (λ w. list_all is_ascii_digit w ≡ false) is (if_none (list_all is_ascii_digit whole) (number whole) read) in
    let short = run_short count text within not_all in
    let apart : (prefix_len is_ascii_digit text == count) ≡ false = ne_eqb (prefix_len is_ascii_digit text) count (λ e. absurd (omega (arith, e, short))) in
    sym (other_numeral count k text apart)

found : (count k : ℕ) (text : List ℕ) → prefix_len is_ascii_digit text ≡ count → count ≤ 9
    → digits_of count k text ≡ whole_value count (numeral_behind k (take count text) (drop count text))
unfolding digits_of
found count k text is few = ap (whole_value count) (sym (read_some k count text _ (sym is) few refl))

digit_no_point : (c : ℕ) → is_ascii_digit c ≡ true → (c == 46) ≡ false
digit_no_point c is = ne_eqb c 46 (λ e. absurd (grind (arith, nat_tests, is, e)))

digits_first : (count k : ℕ) (text : List ℕ) → count ≤ 9 → count ≤ length text → list_all is_ascii_digit (take count text) ≡ true
    → whole_value count (numeral_behind k (take count text) (drop count text)) ≡ digits_of count k text
digits_first count k text few within all = go (drop count text) refl (run_from count text within all)
  where
    go : (rest : List ℕ) → drop count text ≡ rest → prefix_len is_ascii_digit text ≡ count + prefix_len is_ascii_digit (drop count text)
        → whole_value count (numeral_behind k (take count text) (drop count text)) ≡ digits_of count k text
    go [] is run = sym (found count k text (omega (arith, run, ap (prefix_len is_ascii_digit) is)) few)
    go (c ∷ more) is run = elim (cases_Bool (is_ascii_digit c)) [
      | inl digit ↦
          let longer : prefix_len is_ascii_digit (c ∷ more) ≡ 1 + prefix_len is_ascii_digit more = cond-true (is_ascii_digit c) _ _ digit in
          let apart : (prefix_len is_ascii_digit text == count) ≡ false =
          ne_eqb (prefix_len is_ascii_digit text) count (λ e. absurd (omega (arith, e, run, ap (prefix_len is_ascii_digit) is, longer))) in
          let nothing : whole_value count (numeral_behind k (take count text) (c ∷ more)) ≡ None =
          ap (λ b. whole_value count (if b && list_all is_ascii_digit more then Some (reading k (record { whole = take count text; behind = Some more })) else None)) (digit_no_point c digit) in
          ap (λ rest. whole_value count (numeral_behind k (take count text) rest)) is ∙ (nothing ∙ sym (other_numeral count k text apart))
      | inr other ↦
          let ended : prefix_len is_ascii_digit (c ∷ more) ≡ 0 = cond-false (is_ascii_digit c) _ _ other in
          sym (found count k text (omega (arith, run, ap (prefix_len is_ascii_digit) is, ended)) few)
    ]

pub some_first : (count k : ℕ) (text whole rest : List ℕ) (o : Option Numeral) → count ≤ 9 → count ≤ length text → whole ≡ take count text → rest ≡ drop count text
    → list_all is_ascii_digit whole ≡ true → o ≡ numeral_behind k whole rest → whole_value count o ≡ digits_of count k text
some_first count k text whole rest o few within is is' all read =
    let first : list_all is_ascii_digit (take count text) ≡ true = subst (λ w. list_all is_ascii_digit w ≡ true) is all in
    let read' : o ≡ numeral_behind k (take count text) (drop count text) = read ∙ (ap (λ w. numeral_behind k w rest) is ∙ ap (numeral_behind k (take count text)) is') in
    ap (whole_value count) read' ∙ digits_first count k text few within first

pub all_read : (b : Bool) (n value : ℕ) → Some value ≡ if_digits b n → b ≡ true
all_read true n value e = refl
all_read false n value e = absurd (cc)

-- the magnitude is small if the numeral's is
pub small_whole : (count k m : ℕ) (o : Option Numeral) → Some m ≡ whole_value count o → ((n : Numeral) → o ≡ Some n → n.magnitude < 10 ^ (n.before + k)) → m < 10 ^ (count + k)
small_whole count k m None e small = cc
small_whole count k m (Some n) e small = by_test (has_whole count n) refl e (small n refl)
  where
    by_test : (b : Bool) → has_whole count n ≡ b → Some m ≡ magnitude_if b n → n.magnitude < 10 ^ (n.before + k) → m < 10 ^ (count + k)
    by_test true test e small =
        let same : n.before ≡ count = eqb-true n.before count (and_parts (n.before == count) _ test).0 in
        let is : m ≡ n.magnitude = ap (λ o. unwrap_or o 0) e in
        subst (λ c. m < 10 ^ (c + k)) same (omega (arith, is, small))
    by_test false test e small = cc
