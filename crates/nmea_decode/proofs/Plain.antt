-- One to three digits and nothing else, as a number.
use Rattle.std.proofs.Common.{◌≡◌, ℕ, ◌+◌, ◌*◌, ◌-◌, ◌<◌, ◌≤◌, refl, sym, ap, arith, Bool, true, false, ◌&&◌, List, [], ◌∷◌, length, append-nil, slice_index, Some, None, pos}
use Rattle.std.specs.Char.{is_ascii_digit}
use Rattle.std.specs.List.{list_all}
use Rattle.gps_fixed.specs.Numeral.{number, numeral}
use Rattle.gps_fixed.specs.Scaled.{scaled, magnitude, IsScaled}
use Rattle.gps_fixed.proofs.ScaledTheorem.{scaled_exact}

digits_are : (text : List ℕ) (n : ℕ) → list_all is_ascii_digit text ≡ true → 0 < length text → length text ≤ 9 → n ≡ number text → IsScaled 0 text (pos n)
digits_are text n all some few is = record {
  negative = false;
  parts = record { whole = text; behind = None };
  are = record { whole = all; behind = refl; few = few };
  some = omega (arith, some);
  text_is = sym (append-nil text);
  value_is = ap pos (omega (arith, is));
}

digits_read : (text : List ℕ) (n : ℕ) → list_all is_ascii_digit text ≡ true → 0 < length text → length text ≤ 9 → n ≡ number text → scaled 0 text ≡ Some (pos n)
digits_read text n all some few is =
    let exact = scaled_exact 0 text (pos n) in
    exact.1 (digits_are text n all some few is)

pub nothing_read : (text : List ℕ) → length text ≡ 0 → None ≡ scaled 0 text
unfolding scaled magnitude numeral
nothing_read [] none = refl
nothing_read (c ∷ text) none = absurd (omega (arith, none))

all_of : (a b : Bool) → a ≡ true → b ≡ true → (a && b) ≡ true
all_of true b first second = second
all_of false b first second = first

pub one_digit : (text : List ℕ) (n : ℕ) → length text ≡ 1 → is_ascii_digit (slice_index text 0) ≡ true → n ≡ slice_index text 0 - 48
    → scaled 0 text ≡ Some (pos n)
one_digit [] n long one is = absurd (omega (arith, long))
one_digit (a ∷ []) n long one is = digits_read (a ∷ []) n (all_of (is_ascii_digit a) true one refl) (omega arith) (omega arith) (omega (arith, is))
one_digit (a ∷ b ∷ text) n long one is = absurd (omega (arith, long))

pub two_digits : (text : List ℕ) (n : ℕ) → length text ≡ 2 → is_ascii_digit (slice_index text 0) ≡ true → is_ascii_digit (slice_index text 1) ≡ true
    → n ≡ 10 * (slice_index text 0 - 48) + (slice_index text 1 - 48) → scaled 0 text ≡ Some (pos n)
two_digits [] n long one two is = absurd (omega (arith, long))
two_digits (a ∷ []) n long one two is = absurd (omega (arith, long))
two_digits (a ∷ b ∷ []) n long one two is =
    digits_read (a ∷ b ∷ []) n (all_of (is_ascii_digit a) _ one (all_of (is_ascii_digit b) true two refl)) (omega arith) (omega arith) (omega (arith, is))
two_digits (a ∷ b ∷ c ∷ text) n long one two is = absurd (omega (arith, long))

pub three_digits : (text : List ℕ) (n : ℕ) → length text ≡ 3 → is_ascii_digit (slice_index text 0) ≡ true → is_ascii_digit (slice_index text 1) ≡ true
    → is_ascii_digit (slice_index text 2) ≡ true
    → n ≡ 100 * (slice_index text 0 - 48) + 10 * (slice_index text 1 - 48) + (slice_index text 2 - 48) → scaled 0 text ≡ Some (pos n)
three_digits [] n long one two three is = absurd (omega (arith, long))
three_digits (a ∷ []) n long one two three is = absurd (omega (arith, long))
three_digits (a ∷ b ∷ []) n long one two three is = absurd (omega (arith, long))
three_digits (a ∷ b ∷ c ∷ []) n long one two three is =
    digits_read (a ∷ b ∷ c ∷ []) n
    (all_of (is_ascii_digit a) _ one (all_of (is_ascii_digit b) _ two (all_of (is_ascii_digit c) true three refl))) (omega arith) (omega arith) (omega (arith, is))
three_digits (a ∷ b ∷ c ∷ d ∷ text) n long one two three is = absurd (omega (arith, long))

pub point_and_two : (text : List ℕ) (n : ℕ) → length text ≡ 4 → slice_index text 1 ≡ 46 → is_ascii_digit (slice_index text 0) ≡ true
    → is_ascii_digit (slice_index text 2) ≡ true → is_ascii_digit (slice_index text 3) ≡ true
    → n ≡ 100 * (slice_index text 0 - 48) + 10 * (slice_index text 2 - 48) + (slice_index text 3 - 48) → scaled 2 text ≡ Some (pos n)
point_and_two [] n long point one two three is = absurd (omega (arith, long))
point_and_two (a ∷ []) n long point one two three is = absurd (omega (arith, long))
point_and_two (a ∷ p ∷ []) n long point one two three is = absurd (omega (arith, long))
point_and_two (a ∷ p ∷ b ∷ []) n long point one two three is = absurd (omega (arith, long))
point_and_two (a ∷ p ∷ b ∷ c ∷ []) n long point one two three is =
    let exact = scaled_exact 2 (a ∷ p ∷ b ∷ c ∷ []) (pos n) in
    exact.1 (record {
      negative = false;
      parts = record { whole = a ∷ []; behind = Some (b ∷ c ∷ []) };
      are = record { whole = all_of (is_ascii_digit a) true one refl; behind = all_of (is_ascii_digit b) _ two (all_of (is_ascii_digit c) true three refl); few = omega arith };
      some = omega arith;
      text_is = ap (λ d. a ∷ d ∷ b ∷ c ∷ []) point;
      value_is = ap pos (omega (arith, is));
    })
point_and_two (a ∷ p ∷ b ∷ c ∷ d ∷ text) n long point one two three is = absurd (omega (arith, long))
