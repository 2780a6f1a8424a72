-- One line more, and the numbers that are kept.
use Rattle.std.proofs.Common.{◌≡◌, ◌≢◌, ℕ, ◌+◌, ◌-◌, ◌^◌, ◌<◌, ◌≤◌, Bool, true, false, cond, List, [], ◌∷◌, ◌++◌, length, codes, slice_index_or, slice_set, min, refl, sym, ap, ◌∙◌, subst, arith}
use Rattle.std.specs.Prelude.{◌==◌}
use Rattle.std.proofs.lemmas.Bool.Decides.{nat_tests}
use Rattle.std.proofs.lemmas.List.{get_or-replicate, get_or-set_same, get_or-set_other}
use Rattle.std.proofs.lemmas.List.Sums.{count_by-le-length, sum_by-append}
use Rattle.gps_client.specs.declared.line.Line.{Line}
use Rattle.class_counts.specs.Tallies.{Tallies, class_of, counted, kept_number, number, numbers_text, summary}

abbrev adds : ℕ → Line → ℕ
adds class v = cond (class_of v == class) 1 0

number_last : (class : ℕ) (values : List Line) (v : Line) → number class (values ++ v ∷ []) ≡ number class values + adds class v
number_last class values v = sum_by-append (adds class) values (v ∷ []) ∙ omega arith

kept_more : (n : ℕ) → min (kept_number n + 1) (2 ^ 64 - 1) ≡ kept_number (n + 1)
kept_more n = omega arith

same_class : (old : List ℕ) (v : Line) (values : List Line) (class : ℕ) → class_of v ≡ class → class_of v < length old
    → slice_index_or old (class_of v) 0 ≡ kept_number (number (class_of v) values)
    → slice_index_or (slice_set old (class_of v) (min (slice_index_or old (class_of v) 0 + 1) (2 ^ 64 - 1))) class 0 ≡ kept_number (number class (values ++ v ∷ []))
same_class old v values class same within kept =
    let k : ℕ = class_of v in
    let one : adds k v ≡ 1 = ap (λ b. cond b 1 0) (let e : (k == k) ≡ true = grind (arith, nat_tests) in e) in
    subst (λ c. slice_index_or (slice_set old k (min (slice_index_or old k 0 + 1) (2 ^ 64 - 1))) c 0 ≡ kept_number (number c (values ++ v ∷ []))) same
    (get_or-set_same old k (min (slice_index_or old k 0 + 1) (2 ^ 64 - 1)) 0 within
    ∙ ap (λ n. min (n + 1) (2 ^ 64 - 1)) kept
    ∙ kept_more (number k values)
    ∙ ap kept_number (sym (number_last k values v ∙ ap (λ n. number k values + n) one)))

other_class : (old : List ℕ) (x : ℕ) (v : Line) (values : List Line) (class : ℕ) → class_of v ≢ class
    → slice_index_or old class 0 ≡ kept_number (number class values)
    → slice_index_or (slice_set old (class_of v) x) class 0 ≡ kept_number (number class (values ++ v ∷ []))
other_class old x v values class other kept =
    let none : adds class v ≡ 0 = ap (λ b. cond b 1 0) (let e : (class_of v == class) ≡ false = grind (arith, nat_tests) in e) in
    let same : number class (values ++ v ∷ []) ≡ number class values = number_last class values v ∙ omega (arith, none) in
    get_or-set_other old (class_of v) class x 0 (λ e. other (sym e)) ∙ kept ∙ ap kept_number (sym same)

pub none_yet : (numbers : List ℕ) → numbers ≡ 0 ∷ 0 ∷ 0 ∷ 0 ∷ 0 ∷ 0 ∷ 0 ∷ 0 ∷ 0 ∷ 0 ∷ [] → Tallies numbers []
none_yet numbers e class within = ap (λ ns. slice_index_or ns class 0) e ∙ get_or-replicate 10 class 0 0 within

pub one_more : (old new : List ℕ) (v : Line) (values : List Line)
    → new ≡ slice_set old (class_of v) (min (slice_index_or old (class_of v) 0 + 1) (2 ^ 64 - 1))
    → class_of v < 10 → length old ≡ 10 → Tallies old values → Tallies new (values ++ v ∷ [])
one_more old new v values is few long tallies class within = by_test (class_of v == class) refl
  where
    inside : class_of v < length old
    inside = omega (arith, few, long)

    by_test : (b : Bool) → (class_of v == class) ≡ b → slice_index_or new class 0 ≡ kept_number (number class (values ++ v ∷ []))
    by_test true e =
        let same : class_of v ≡ class = grind (arith, nat_tests) in
        ap (λ ns. slice_index_or ns class 0) is ∙ same_class old v values class same inside (tallies (class_of v) few)
    by_test false e =
        let other : class_of v ≢ class = grind (arith, nat_tests) in
        ap (λ ns. slice_index_or ns class 0) is ∙ other_class old _ v values class other (tallies class within)

small : (class : ℕ) (values : List Line) → length values ≤ 1_073_741_824 → kept_number (number class values) ≡ number class values
small class values few = let most = count_by-le-length (λ v. class_of v == class) values in omega arith

pub written : (numbers : List ℕ) (values : List Line) → Tallies numbers values → length values ≤ 1_073_741_824
    → numbers_text numbers ≡ summary values
unfolding numbers_text
written numbers values tallies few =
    let at = λ (class : ℕ) (h : class < 10). tallies class h ∙ small class values few in
    λ i. counted (codes "version ") (at 0 (omega arith) i)
    ++ counted (codes " devices ") (at 1 (omega arith) i)
    ++ counted (codes " device ") (at 2 (omega arith) i)
    ++ counted (codes " watch ") (at 3 (omega arith) i)
    ++ counted (codes " poll ") (at 4 (omega arith) i)
    ++ counted (codes " tpv ") (at 5 (omega arith) i)
    ++ counted (codes " sky ") (at 6 (omega arith) i)
    ++ counted (codes " toff ") (at 7 (omega arith) i)
    ++ counted (codes " pps ") (at 8 (omega arith) i)
    ++ counted (codes " error ") (at 9 (omega arith) i)
    ++ codes "\n"
