-- The sentences of NMEA 0183 in this project's profile, and the sentence shapes: two sets of lists of bytes.
-- A sentence has a checksum and at most 128 bytes. A shape is the same without a rule on the checksum's value.
use Rattle.std.specs.Prelude.{◌≡◌, ◌≤◌, ◌<◌, ◌+◌, ◌-◌, ◌*◌, ◌==◌, ◌&&◌, not, ℕ, Bool, true, false, List, [], ◌∷◌, ◌++◌, length, drop, fold, Option, Some, None, IsSome, nat_le, if◌then◌else◌}
use Rattle.std.specs.List.{list_all, before_first}
use Rattle.std.specs.Int.Bits.{bit_xor}

-- a byte of a body: printable, and neither `$` nor `*`
abbrev pub is_body_byte : ℕ → Bool
is_body_byte c = (nat_le 32 c && nat_le c 126) && (not (c == 36) && not (c == 42))

-- the value of a hexadecimal digit of either case
abbrev pub hex_value : ℕ → Option ℕ
hex_value c =
    if nat_le 48 c && nat_le c 57 then Some (c - 48)
    else (if nat_le 65 c && nat_le c 70 then Some (c - 55)
    else (if nat_le 97 c && nat_le c 102 then Some (c - 87)
    else None))

abbrev pub of_digits : Option ℕ → Option ℕ → Option ℕ
of_digits (Some high) (Some low) = Some (16 * high + low)
of_digits _ _ = None

-- the number that two hexadecimal digits write
abbrev pub read_sum : ℕ → ℕ → Option ℕ
read_sum high low = of_digits (hex_value high) (hex_value low)

-- the exclusive-or of the bytes of a body
abbrev pub checksum : List ℕ → ℕ
checksum body = fold bit_xor 0 body

-- what a sentence is made of
pub record Parts : Type 0 where
  pub body : List ℕ
  pub high : ℕ
  pub low : ℕ
  pub has_return : Bool

-- CR LF, or LF alone
abbrev pub line_end : Bool → List ℕ
line_end true = 13 ∷ 10 ∷ []
line_end false = 10 ∷ []

-- `$`, the body, `*`, the two digits and the end of the line
abbrev pub spelling : Parts → List ℕ
spelling p = 36 ∷ (p.body ++ 42 ∷ p.high ∷ p.low ∷ line_end p.has_return)

-- these parts make a sentence shape
pub record AreParts (p : Parts) : Type 0 where
  pub some : 0 < length p.body
  pub printable : list_all is_body_byte p.body ≡ true
  pub digits : IsSome (read_sum p.high p.low)
  pub short : length (spelling p) ≤ 128

-- the two digits are the checksum of the body
abbrev pub IsRight : Parts → Type 0
IsRight p = read_sum p.high p.low ≡ Some (checksum p.body)

-- a sentence shape
abbrev pub IsShape : List ℕ → Type 0
IsShape bytes = (p : Parts) × (AreParts p × (bytes ≡ spelling p))

-- a sentence
abbrev pub IsSentence : List ℕ → Type 0
IsSentence bytes = (p : Parts) × (AreParts p × IsRight p × (bytes ≡ spelling p))

-- the beginning of some sentence shape, and not all of it
abbrev pub IsProperPrefix : List ℕ → Type 0
IsProperPrefix bytes = (more : List ℕ) × ((0 < length more) × IsShape (bytes ++ more))

-- the body of a sentence: what is between its `$` and its `*`
abbrev pub body_of : List ℕ → List ℕ
body_of sentence = before_first (λ c. c == 42) (drop 1 sentence)
