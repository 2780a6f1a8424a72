-- Fixed point numbers as texts: the value times a power of ten. How such a text is read and written is this project's own.
use Rattle.std.specs.Prelude.{◌≡◌, ℕ, ◌+◌, ◌<◌, Bool, true, false, ◌&&◌, ◌==◌, nat_lt, List, [], ◌∷◌, ◌++◌, length, Option, Some, None, is_none, ℤ, pos, neg_ℤ, if◌then◌else◌}
use Rattle.std.specs.Option.{option_map, option_and_then, unwrap_or}
use Rattle.gps_fixed.specs.declared.numeral.Numeral.{Numeral}
use Rattle.gps_fixed.specs.Numeral.{Parts, AreParts, fraction, spelling, scaled_magnitude, numeral}

-- digits with an optional point, at least one digit in all, written after a `-` if the value is negative
abbrev pub sign : Bool → List ℕ
sign true = 45 ∷ []
sign false = []

abbrev pub signed : Bool → ℕ → ℤ
signed true n = neg_ℤ (pos n)
signed false n = pos n

pub record IsScaled (k : ℕ) (text : List ℕ) (value : ℤ) : Type 0 where
  pub negative : Bool
  pub parts : Parts
  pub are : AreParts parts
  pub some : 0 < length parts.whole + length (fraction parts.behind)
  pub text_is : text ≡ sign negative ++ spelling parts
  pub value_is : value ≡ signed negative (scaled_magnitude k parts)

-- the same as functions: without a sign, and with one
abbrev pub has_digits : Numeral → Bool
has_digits n = nat_lt 0 (n.before + unwrap_or n.behind 0)

abbrev pub magnitude_if : Bool → Numeral → Option ℕ
magnitude_if test n = if test then Some n.magnitude else None

unfoldable pub magnitude : ℕ → List ℕ → Option ℕ
magnitude k text = option_and_then (λ n. magnitude_if (has_digits n) n) (numeral k text)

abbrev pub has_minus : List ℕ → Bool
has_minus [] = false
has_minus (c ∷ text) = c == 45

abbrev pub without_minus : List ℕ → List ℕ
without_minus [] = []
without_minus (c ∷ text) = if c == 45 then text else c ∷ text

unfoldable pub scaled : ℕ → List ℕ → Option ℤ
scaled k text = option_map (signed (has_minus text)) (magnitude k (without_minus text))

-- a text of exactly n digits, optionally with a point and at least one digit after it
abbrev pub has_whole : ℕ → Numeral → Bool
has_whole count n = (n.before == count) && nat_lt 0 (unwrap_or n.behind 1)

unfoldable pub digits_of : ℕ → ℕ → List ℕ → Option ℕ
digits_of count k text = option_and_then (λ n. magnitude_if (has_whole count n) n) (numeral k text)

-- a text of exactly n digits and nothing else
abbrev pub is_whole : ℕ → Numeral → Bool
is_whole count n = (n.before == count) && is_none n.behind

unfoldable pub whole_of : ℕ → List ℕ → Option ℕ
whole_of count text = option_and_then (λ n. magnitude_if (is_whole count n) n) (numeral 0 text)
