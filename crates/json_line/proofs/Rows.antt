-- The table of the digits of each number below 1,000.
use Rattle.std.proofs.Common.{◌≡◌, ℕ, ◌+◌, ◌*◌, ◌<◌, ◌≤◌, ◌==◌, ◌++◌, true, List, [], ◌∷◌, length, get_or, take, refl, sym, ap, ◌∙◌, eqb-true, arith, length-take-le, take-take}
use Rattle.std.proofs.lemmas.Bool.{agree_below_at}
use Rattle.std.proofs.lemmas.Fmt.{length-decimal-le}
use Rattle.std.proofs.lemmas.Slice.Eq.{bytes_eq-Decides}
use Rattle.std.proofs.Math.Seq.{take-append-add}
use Rattle.std.specs.Fmt.{decimal, digits}
use Rattle.std.specs.Str.{bytes_eq}
use Rattle.json_line.specs.declared.placing.TheConstants.{NUMBERS}

abbrev row : ℕ → List ℕ
row at = get_or NUMBERS at 0 ∷ get_or NUMBERS (at + 1) 0 ∷ get_or NUMBERS (at + 2) 0 ∷ get_or NUMBERS (at + 3) 0 ∷ []

pub digits_at : (n : ℕ) → n < 1_000 → take (length (decimal n)) (row (n * 4)) ≡ decimal n
unfolding digits
digits_at n small =
    (bytes_eq-Decides (take (length (decimal n)) (row (n * 4))) (decimal n)).0
    (agree_below_at (λ k. bytes_eq (take (length (decimal k)) (row (k * 4))) (decimal k)) (λ k. true) 1000 n refl small)

pub count_at : (n : ℕ) → n < 1_000 → get_or NUMBERS (n * 4 + 3) 0 ≡ 48 + length (decimal n)
unfolding digits
count_at n small =
    eqb-true _ _ (agree_below_at (λ k. get_or NUMBERS (k * 4 + 3) 0 == 48 + length (decimal k)) (λ k. true) 1000 n refl small)

pub few_digits : (n : ℕ) → n < 1_000 → length (decimal n) ≤ 3
few_digits n small = length-decimal-le 3 n (omega arith) (omega (arith, small)) (omega (arith, small))

-- what is in front of a place that a text was written over
pub in_front : (at n : ℕ) (old new text : List ℕ) → n ≤ length text → at ≤ length old → take (at + length text) new ≡ take at old ++ text
    → take (at + n) new ≡ take at old ++ take n text
in_front at n old new text few inside written =
    let front : length (take at old) ≡ at = length-take-le at old inside in
    sym (take-take (at + n) (at + length text) new (omega (arith, few)))
    ∙ (ap (take (at + n)) written
    ∙ (ap (λ m. take (m + n) (take at old ++ text)) (sym front)
    ∙ take-append-add (take at old) text n))
