-- Texts of printing bytes, and the lines that they make.
use Rattle.std.proofs.Common.{◌≡◌, ℕ, ◌+◌, ◌-◌, ◌/◌, ◌%◌, ◌^◌, ◌<◌, ◌≤◌, Bool, true, false, ◌&&◌, ◌||◌, not, cond, List, [], ◌∷◌, ◌++◌, length, get_or, take, zero, suc, nat_le, nat_lt, refl, sym, ap, ◌∙◌, subst, arith, rules, append-nil, if◌then◌else◌}
use Rattle.std.specs.Prelude.{◌==◌}
use Rattle.std.specs.Fmt.{decimal}
use Rattle.std.specs.List.{list_all}
use Rattle.std.specs.Io.BufRead.{ends_with_byte, strip_last}
use Rattle.std.specs.Str.Parse.{digits_value}
use Rattle.std.proofs.lemmas.Bool.{and_parts, and_from}
use Rattle.std.proofs.lemmas.Bool.Decides.{nat_tests}
use Rattle.std.proofs.lemmas.Fmt.{decimal_nonempty, digits_decimal, digits_value-decimal, length-decimal-le}
use Rattle.std.proofs.lemmas.List.{length-append}
use Rattle.std.proofs.lemmas.List.Folds.{list_all_at, list_all-append}
use Rattle.std.proofs.lemmas.Str.Parse.{IsDigitsTest, IsNumeralModel, numerals_by_value}
use Rattle.gps_fixed.specs.Text.{digits_in}
use Rattle.pps_edges.specs.EdgeLine.{IsNumber, is_digit}
use Rattle.line_cut.specs.Lines.{has_feed, is_feed, text_of}
use Rattle.line_cut.proofs.Texts.{strip_append}

abbrev pub prints : ℕ → Bool
prints c = nat_le 32 c

-- at most n printing bytes
pub record IsPlain (most : ℕ) (text : List ℕ) : Type 0 where
  pub plain : list_all prints text ≡ true
  pub few : length text ≤ most

pub fixed : (text : List ℕ) → list_all prints text ≡ true → IsPlain (length text) text
fixed text plain = record { plain = plain; few = omega arith }

pub at_most : (few many : ℕ) (text : List ℕ) → IsPlain few text → few ≤ many → IsPlain many text
at_most few many text is less = record { plain = is.plain; few = let f = is.few in omega (arith, f, less) }

pub cat : (m n : ℕ) (xs ys : List ℕ) → IsPlain m xs → IsPlain n ys → IsPlain (m + n) (xs ++ ys)
cat m n xs ys first second = record {
  plain = list_all-append prints xs ys ∙ and_from _ _ first.plain second.plain;
  few = let a = first.few in let b = second.few in let c = length-append xs ys in omega (arith, a, b, c);
}

pub plain_digits : (k n : ℕ) → IsPlain k (digits_in k n)
plain_digits zero n = record { plain = refl; few = omega arith }
plain_digits (suc k) n =
    let more = plain_digits k n in
    let few = more.few in
    let first : prints (48 + n / 10 ^ k % 10) ≡ true = grind (arith, nat_tests) in
    record { plain = and_from _ _ first more.plain; few = omega (arith, few) }

-- numbers

tells_digits : IsDigitsTest (λ digits. list_all is_digit digits ≡ true)
tells_digits = search rules

model : IsNumeralModel (λ digits. list_all is_digit digits ≡ true) (digits_value 10)
model = numerals_by_value _ tells_digits

pub number : (n : ℕ) → n < 10 ^ 10 → IsNumber 10 (decimal n)
number n low =
    let small : n < 2 ^ 64 = omega (arith, low) in
    record {
      some = decimal_nonempty n small;
      few = length-decimal-le 10 n (omega arith) low small;
      digits = digits_decimal model n small;
    }

pub value : (n : ℕ) → n < 10 ^ 10 → digits_value 10 (decimal n) ≡ n
value n low = digits_value-decimal model n (omega (arith, low))

digit_prints : (c : ℕ) → is_digit c ≡ true → prints c ≡ true
digit_prints c is = grind (arith, nat_tests)

digits_print : (text : List ℕ) → list_all is_digit text ≡ true → list_all prints text ≡ true
digits_print [] all = refl
digits_print (c ∷ text) all =
    let p : (is_digit c ≡ true) × (list_all is_digit text ≡ true) = and_parts _ _ all in
    and_from _ _ (digit_prints c p.0) (digits_print text p.1)

pub plain_number : (text : List ℕ) → IsNumber 10 text → IsPlain 10 text
plain_number text is = record { plain = digits_print text is.digits; few = is.few }

-- a printing text in a line

prints_no_feed : (c : ℕ) → prints c ≡ true → is_feed c ≡ false
prints_no_feed c is = grind (arith, nat_tests)

pub no_feed : (text : List ℕ) → list_all prints text ≡ true → has_feed text ≡ false
no_feed [] all = refl
no_feed (c ∷ text) all =
    let p : (prints c ≡ true) × (list_all prints text ≡ true) = and_parts _ _ all in
    ap (λ b. b || has_feed text) (prints_no_feed c p.0) ∙ no_feed text p.1

passes_at : {X : Type 0} (p : X → Bool) (xs : List X) (i : ℕ) (d : X) → i < length xs → list_all p xs ≡ true
    → (b : Bool) → p (get_or xs i d) ≡ b → b ≡ true
passes_at p xs i d within all true e = refl
passes_at p xs i d within all false e = let f : list_all p xs ≡ false = list_all_at p xs i d within e in cc

not_return : (c : ℕ) → prints c ≡ true → (c == 13) ≡ false
not_return c is = grind (arith, nat_tests)

no_return : (text : List ℕ) → list_all prints text ≡ true → ends_with_byte 13 text ≡ false
no_return [] all = refl
no_return (c ∷ text) all =
    let n : ℕ = length (c ∷ text) - 1 in
    let within : n < length (c ∷ text) = omega arith in
    let last : prints (get_or (c ∷ text) n 0) ≡ true = passes_at prints (c ∷ text) n 0 within all _ refl in
    let e : (get_or (c ∷ text) n 0 == 13) ≡ false = not_return _ last in
    let some : nat_lt 0 (length (c ∷ text)) ≡ true = grind (arith, nat_tests) in
    ap (λ b. b && (get_or (c ∷ text) n 0 == 13)) some ∙ e

pub bare : (text : List ℕ) → list_all prints text ≡ true → text_of (text ++ 10 ∷ []) ≡ text
bare text all =
    let one : strip_last 10 (text ++ 10 ∷ []) ≡ text = strip_append 10 text (10 ∷ []) (omega arith) ∙ append-nil text in
    ap (strip_last 13) one ∙ ap (λ b. if b then take (length text - 1) text else text) (no_return text all)
