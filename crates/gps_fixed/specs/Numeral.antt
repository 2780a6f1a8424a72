-- Decimal texts: digits, and optionally a point and further digits. NMEA 0183 writes its numeric fields so; that at most nine digits come before the
-- point is this project's own.
use Rattle.std.specs.Prelude.{◌≡◌, ℕ, Bool, ◌+◌, ◌-◌, ◌*◌, ◌^◌, ◌≤◌, true, ◌&&◌, ◌==◌, nat_lt, List, [], ◌∷◌, ◌++◌, length, take, drop, replicate, Option, Some, None, if◌then◌else◌}
use Rattle.std.specs.List.{fold, list_all, prefix_len}
use Rattle.std.specs.Option.{option_map}
use Rattle.std.specs.Char.{is_ascii_digit}
use Rattle.gps_fixed.specs.declared.numeral.Numeral.{Numeral}

-- the number that decimal digits write
abbrev pub number : List ℕ → ℕ
number digits = fold (λ n c. n * 10 + (c - 48)) 0 digits

-- the first k of the digits, with zeros if there are fewer
abbrev pub first_digits : ℕ → List ℕ → List ℕ
first_digits k digits = take k (digits ++ replicate k 48)

-- the digits before the point, and those after it if there is a point
pub record Parts : Type 0 where
  pub whole : List ℕ
  pub behind : Option (List ℕ)

abbrev pub fraction : Option (List ℕ) → List ℕ
fraction None = []
fraction (Some digits) = digits

abbrev pub behind_text : Option (List ℕ) → List ℕ
behind_text None = []
behind_text (Some digits) = 46 ∷ digits

abbrev pub spelling : Parts → List ℕ
spelling p = p.whole ++ behind_text p.behind

pub record AreParts (p : Parts) : Type 0 where
  pub whole : list_all is_ascii_digit p.whole ≡ true
  pub behind : list_all is_ascii_digit (fraction p.behind) ≡ true
  pub few : length p.whole ≤ 9

-- the value times 10 ^ k, further digits dropped
abbrev pub scaled_magnitude : ℕ → Parts → ℕ
scaled_magnitude k p = number p.whole * 10 ^ k + number (first_digits k (fraction p.behind))

-- how many digits come before the point and after it, and the value times 10 ^ k
abbrev pub reading : ℕ → Parts → Numeral
reading k p = record { before = length p.whole; behind = option_map length p.behind; magnitude = scaled_magnitude k p }

-- n is what a text is read as
abbrev pub IsNumeral : ℕ → List ℕ → Numeral → Type 0
IsNumeral k text n = (p : Parts) × AreParts p × (text ≡ spelling p) × (n ≡ reading k p)

-- a number, if what should write it is all digits
abbrev pub if_digits : Bool → ℕ → Option ℕ
if_digits all n = if all then Some n else None

-- the same as a function: the digits that begin a text, and what may follow them
abbrev pub numeral_behind : ℕ → List ℕ → List ℕ → Option Numeral
numeral_behind k whole [] = Some (reading k (record { whole = whole; behind = None }))
numeral_behind k whole (c ∷ digits) =
    if (c == 46) && list_all is_ascii_digit digits then Some (reading k (record { whole = whole; behind = Some digits })) else None

abbrev pub numeral_of : ℕ → List ℕ → List ℕ → Option Numeral
numeral_of k whole rest = if nat_lt 9 (length whole) then None else numeral_behind k whole rest

unfoldable pub numeral : ℕ → List ℕ → Option Numeral
numeral k text =
    let before = prefix_len is_ascii_digit text in
    numeral_of k (take before text) (drop before text)
