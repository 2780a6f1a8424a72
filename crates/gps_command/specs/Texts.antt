-- The texts of requests as a set: plain bytes and whole strings.
use Rattle.std.specs.Prelude.{ℕ, ◌≡◌, ◌<◌, ◌≤◌, Bool, not, true, false, ◌||◌, List, [], ◌∷◌, ◌++◌, length, take, drop, nat_eq, slice_index}
use Rattle.std.specs.List.{list_all}
use Rattle.std.specs.Io.BufRead.{drop_through}
use Rattle.gps_command.specs.declared.request.RawCommand.{RawCommand}
use Rattle.gps_command.specs.declared.request.RawCommand.TheVariants.{Words, Long}
use Rattle.gps_command.specs.Requests.{is_end, is_gap, requests}

-- outside a string: no quote and no end
abbrev pub is_plain : ℕ → Bool
is_plain c = not (nat_eq c 34 || is_end c)

-- in a string: no quote and no backslash
abbrev pub is_inner : ℕ → Bool
is_inner c = not (nat_eq c 34 || nat_eq c 92)

-- what is between the quotes of a string: bytes, and backslashes with the byte after each
pub data IsInside : List ℕ → Type 0 where
  empty_inside : IsInside []
  inner_byte : (c : ℕ) (inside : List ℕ) → is_inner c ≡ true → IsInside inside → IsInside (c ∷ inside)
  escaped_pair : (c : ℕ) (inside : List ℕ) → IsInside inside → IsInside (92 ∷ c ∷ inside)

pub data IsText : List ℕ → Type 0 where
  empty_text : IsText []
  plain_byte : (c : ℕ) (text : List ℕ) → is_plain c ≡ true → IsText text → IsText (c ∷ text)
  whole_string : (inside text : List ℕ) → IsInside inside → IsText text → IsText (34 ∷ (inside ++ 34 ∷ text))

-- what one request holds
pub record IsRequest (text : List ℕ) : Type 0 where
  pub whole : IsText text
  pub some : 0 < length text
  pub short : length text ≤ 1024
  pub begins : is_gap (slice_index text 0) ≡ false

abbrev pub AreRequests : List RawCommand → Type 0
AreRequests [] = Unit {0}
AreRequests (Words text ∷ rest) = IsRequest text × AreRequests rest
AreRequests (Long ∷ rest) = AreRequests rest

-- such a text and an end after it are read as that request, and what follows as if it came alone
abbrev pub ReadsRequests : Type 0
ReadsRequests = (text rest : List ℕ) (end : ℕ) → IsRequest text → is_end end ≡ true
    → requests (text ++ end ∷ rest) ≡ Words text ∷ requests rest

-- gaps before a request are not read
abbrev pub SkipsGaps : Type 0
SkipsGaps = (gaps rest : List ℕ) → list_all is_gap gaps ≡ true → requests (gaps ++ rest) ≡ requests rest

-- the beginning of a text
abbrev pub IsBeginning : List ℕ → Type 0
IsBeginning bytes = (more : List ℕ) × IsText (bytes ++ more)

-- one request goes on through its 1,025th byte
pub record IsLong (bytes : List ℕ) : Type 0 where
  pub long : 1024 < length bytes
  pub goes_on : IsBeginning (take 1025 bytes)
  pub begins : is_gap (slice_index bytes 0) ≡ false

-- it is Long, and is skipped through the first line feed from its 1,025th byte on; what follows is read as if it came alone
abbrev pub SkipsLong : Type 0
SkipsLong = (bytes : List ℕ) → IsLong bytes → requests bytes ≡ Long ∷ requests (drop_through 10 (drop 1024 bytes))

-- a request that no byte has ended yet, and that is not too long, is none
abbrev pub AwaitsEnds : Type 0
AwaitsEnds = (bytes : List ℕ) → IsBeginning bytes → length bytes ≤ 1024 → is_gap (slice_index bytes 0) ≡ false → requests bytes ≡ []
