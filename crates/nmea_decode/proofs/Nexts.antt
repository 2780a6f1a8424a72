-- A first field of two or three digits, from the first bytes of a text, and what follows it.
use Rattle.std.proofs.Common.{◌≡◌, ℕ, ◌+◌, ◌*◌, ◌-◌, ◌≤◌, refl, sym, ap, ◌∙◌, subst, arith, Bool, true, false, ◌||◌, List, [], ◌∷◌, length, length-drop, take, take_all, drop, Some, pos, slice_index, eqb-true}
use Rattle.std.specs.Char.{is_ascii_digit}
use Rattle.gps_fixed.specs.Scaled.{scaled}
use Rattle.nmea_decode.specs.Fields.{behind, field, has_comma, is_comma, is_field_end}
use Rattle.nmea_decode.proofs.Plain.{two_digits, three_digits}
use Rattle.nmea_decode.proofs.Splitting.{Begins, first_is, rest_is}

ends : (text : List ℕ) → is_field_end text ≡ true → Begins text
ends [] is = tt
ends (c ∷ text) is = is

digit_plain : (c : ℕ) → is_ascii_digit c ≡ true → is_comma c ≡ false
digit_plain c digit = go (is_comma c) refl
  where
    go : (b : Bool) → is_comma c ≡ b → b ≡ false
    go true is = absurd (cc (subst (λ d. is_ascii_digit d ≡ true) (eqb-true c 44 is) digit))
    go false is = refl

-- the slice after the first bytes is all that is there
pub all_behind : (n : ℕ) (text : List ℕ) → take (length text - n) (drop n text) ≡ drop n text
all_behind n text = take_all (length text - n) (drop n text) (let long = length-drop n text in omega arith)

-- the number of a field, and what follows it
pub record IsNext (text rest : List ℕ) (n : ℕ) : Type 0 where
  pub number : scaled 0 (field text) ≡ Some (pos n)
  pub behind_is : rest ≡ behind text

two_plain : (a b : ℕ) → is_ascii_digit a ≡ true → is_ascii_digit b ≡ true → has_comma (a ∷ b ∷ []) ≡ false
two_plain a b one two = ap (λ p. p || (is_comma b || false)) (digit_plain a one) ∙ ap (λ p. p || false) (digit_plain b two)

three_plain : (a b c : ℕ) → is_ascii_digit a ≡ true → is_ascii_digit b ≡ true → is_ascii_digit c ≡ true → has_comma (a ∷ b ∷ c ∷ []) ≡ false
three_plain a b c one two three = ap (λ p. p || (is_comma b || (is_comma c || false))) (digit_plain a one) ∙ two_plain b c two three

pub two_next : (text rest : List ℕ) (n : ℕ) → 3 ≤ length text → rest ≡ drop 3 text
    → is_ascii_digit (slice_index text 1) ≡ true → is_ascii_digit (slice_index text 2) ≡ true → is_field_end rest ≡ true
    → n ≡ 10 * (slice_index text 1 - 48) + (slice_index text 2 - 48) → IsNext text rest n
unfolding field behind
two_next [] rest n long rest_is_ one two end is = absurd (omega (arith, long))
two_next (_ ∷ []) rest n long rest_is_ one two end is = absurd (omega (arith, long))
two_next (_ ∷ _ ∷ []) rest n long rest_is_ one two end is = absurd (omega (arith, long))
two_next (_ ∷ a ∷ b ∷ more) rest n long rest_is_ one two end is =
    let begins : Begins more = ends more (ap is_field_end (sym rest_is_) ∙ end) in
    record {
      number = ap (scaled 0) (first_is (a ∷ b ∷ []) more (two_plain a b one two) begins) ∙ two_digits (a ∷ b ∷ []) n refl one two is;
      behind_is = rest_is_ ∙ sym (rest_is (a ∷ b ∷ []) more (two_plain a b one two) begins);
    }

pub three_next : (text rest : List ℕ) (n : ℕ) → 4 ≤ length text → rest ≡ drop 4 text
    → is_ascii_digit (slice_index text 1) ≡ true → is_ascii_digit (slice_index text 2) ≡ true → is_ascii_digit (slice_index text 3) ≡ true
    → is_field_end rest ≡ true
    → n ≡ 100 * (slice_index text 1 - 48) + 10 * (slice_index text 2 - 48) + (slice_index text 3 - 48) → IsNext text rest n
unfolding field behind
three_next [] rest n long rest_is_ one two three end is = absurd (omega (arith, long))
three_next (_ ∷ []) rest n long rest_is_ one two three end is = absurd (omega (arith, long))
three_next (_ ∷ _ ∷ []) rest n long rest_is_ one two three end is = absurd (omega (arith, long))
three_next (_ ∷ _ ∷ _ ∷ []) rest n long rest_is_ one two three end is = absurd (omega (arith, long))
three_next (_ ∷ a ∷ b ∷ c ∷ more) rest n long rest_is_ one two three end is =
    let begins : Begins more = ends more (ap is_field_end (sym rest_is_) ∙ end) in
    record {
      number = ap (scaled 0) (first_is (a ∷ b ∷ c ∷ []) more (three_plain a b c one two three) begins) ∙ three_digits (a ∷ b ∷ c ∷ []) n refl one two three is;
      behind_is = rest_is_ ∙ sym (rest_is (a ∷ b ∷ c ∷ []) more (three_plain a b c one two three) begins);
    }
