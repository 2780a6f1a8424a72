-- The reading of a decimal text is what its spelling says: each text has at most one spelling, and it is read exactly if it has one.
use Rattle.std.proofs.Common.{◌≡◌, ℕ, ◌+◌, ◌≤◌, refl, sym, ap, ◌∙◌, subst, ◌↔◌, Bool, true, false, cond, ◌&&◌, ◌==◌, nat_lt, arith, List, [], ◌∷◌, ◌++◌, length, take, drop, take-append-drop, Option, Some, None}
use Rattle.std.proofs.lemmas.Bool.{and_parts, cond-true, cond-false}
use Rattle.std.proofs.lemmas.Bool.Decides.{nat_tests}
use Rattle.std.proofs.Math.Seq.{take-append_seam, drop-append_seam}
use Rattle.std.specs.List.{list_all, prefix_len}
use Rattle.std.specs.Char.{is_ascii_digit}
use Rattle.gps_fixed.specs.declared.numeral.Numeral.{Numeral}
use Rattle.gps_fixed.specs.Numeral.{Parts, AreParts, spelling, fraction, behind_text, reading, IsNumeral, numeral_behind, numeral_of, numeral}
use Rattle.gps_fixed.proofs.NumeralLaws.{leading}

pub or_else : {X : Type 0} → X → Option X → X
or_else x None = x
or_else x (Some y) = y

pub some_same : {X : Type 0} → (x y : X) → Some x ≡ Some y → x ≡ y
unfolding or_else
some_same x y e = ap (or_else x) e

read_behind : (k : ℕ) (whole rest : List ℕ) (n : Numeral) → list_all is_ascii_digit whole ≡ true → length whole ≤ 9 → numeral_behind k whole rest ≡ Some n → IsNumeral k (whole ++ rest) n
read_behind k whole [] n all few e =
    let p : Parts = record { whole = whole; behind = None } in
    (p, record { whole = all; behind = refl; few = few }, refl, sym (some_same (reading k p) n e))
read_behind k whole (c ∷ digits) n all few e = by_test ((c == 46) && list_all is_ascii_digit digits) refl e
  where
    by_test : (b : Bool) → ((c == 46) && list_all is_ascii_digit digits) ≡ b → cond b (Some (reading k (record { whole = whole; behind = Some digits }))) None ≡ Some n → IsNumeral k (whole ++ c ∷ digits) n
    by_test true test e =
        let p : Parts = record { whole = whole; behind = Some digits } in
        let parts = and_parts (c == 46) (list_all is_ascii_digit digits) test in
        let point : c ≡ 46 = grind (arith, nat_tests, parts.0) in
        (p, record { whole = all; behind = parts.1; few = few }, ap (λ b. whole ++ b ∷ digits) point, sym (some_same (reading k p) n e))
    by_test false test e = cc

read_parts : (k : ℕ) (whole rest : List ℕ) (n : Numeral) → list_all is_ascii_digit whole ≡ true → numeral_of k whole rest ≡ Some n → IsNumeral k (whole ++ rest) n
read_parts k whole rest n all e = by_length (nat_lt 9 (length whole)) refl e
  where
    by_length : (b : Bool) → nat_lt 9 (length whole) ≡ b → cond b None (numeral_behind k whole rest) ≡ Some n → IsNumeral k (whole ++ rest) n
    by_length true test e = cc
    by_length false test e = read_behind k whole rest n all (grind (arith, nat_tests, test)) e

read : (k : ℕ) (text : List ℕ) (n : Numeral) → numeral k text ≡ Some n → IsNumeral k text n
unfolding numeral
read k text n e =
    let before = prefix_len is_ascii_digit text in
    subst (λ t. IsNumeral k t n) (take-append-drop before text) (read_parts k (take before text) (drop before text) n (leading text).digits e)

run_at : (whole : List ℕ) (behind : Option (List ℕ)) → list_all is_ascii_digit whole ≡ true → prefix_len is_ascii_digit (whole ++ behind_text behind) ≡ length whole
run_at [] None all = refl
run_at [] (Some digits) all = refl
run_at (c ∷ whole) behind all =
    let parts = and_parts (is_ascii_digit c) (list_all is_ascii_digit whole) all in
    cond-true (is_ascii_digit c) (1 + prefix_len is_ascii_digit (whole ++ behind_text behind)) 0 parts.0 ∙ omega (arith, run_at whole behind parts.1)

-- a run of digits ends at the point, or with the text
run_length : (p : Parts) → AreParts p → prefix_len is_ascii_digit (spelling p) ≡ length p.whole
run_length p are = run_at p.whole p.behind are.whole

spelled_behind : (k : ℕ) (p : Parts) → AreParts p → numeral_behind k p.whole (behind_text p.behind) ≡ Some (reading k p)
spelled_behind k p are = by_point p.behind are.behind
  where
    by_point : (behind : Option (List ℕ)) → list_all is_ascii_digit (fraction behind) ≡ true → numeral_behind k p.whole (behind_text behind) ≡ Some (reading k (record { whole = p.whole; behind = behind }))
    by_point None all = refl
    by_point (Some digits) all = cond-true (list_all is_ascii_digit digits) (Some (reading k (record { whole = p.whole; behind = Some digits }))) None all

spelled : (k : ℕ) (p : Parts) → AreParts p → numeral k (spelling p) ≡ Some (reading k p)
unfolding numeral
spelled k p are =
    let run = run_length p are in
    let short : nat_lt 9 (length p.whole) ≡ false = grind (arith, nat_tests, are.few) in
    ap (λ n. numeral_of k (take n (spelling p)) (drop n (spelling p))) run
    ∙ (ap (λ w. numeral_of k w (drop (length p.whole) (spelling p))) (take-append_seam p.whole (behind_text p.behind))
    ∙ (ap (λ r. numeral_of k p.whole r) (drop-append_seam p.whole (behind_text p.behind))
    ∙ (cond-false (nat_lt 9 (length p.whole)) None (numeral_behind k p.whole (behind_text p.behind)) short ∙ spelled_behind k p are)))

pub numeral_exact : (k : ℕ) (text : List ℕ) (n : Numeral) → (numeral k text ≡ Some n) ↔ IsNumeral k text n
numeral_exact k text n =
    (read k text n, λ (p, are, text_is, n_is). ap (numeral k) text_is ∙ (spelled k p are ∙ ap Some (sym n_is)))
