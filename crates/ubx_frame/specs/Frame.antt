-- The frames of the UBX protocol, as sets of byte lists. u-blox interface description, UBX frame structure.
-- The longest payload is this project's own.
use Rattle.std.specs.Prelude.{◌≡◌, ℕ, ◌-◌, ◌/◌, ◌%◌, ◌<◌, ◌≤◌, Bool, true, nat_lt, List, [], ◌∷◌, ◌++◌, length, take, drop, slice_index}
use Rattle.std.specs.List.{list_all}
use Rattle.ubx_frame.specs.Checksum.{sums_of}

-- what a frame is made of
pub record Parts : Type 0 where
  pub class : ℕ
  pub id : ℕ
  pub payload : List ℕ
  pub ck_a : ℕ
  pub ck_b : ℕ

-- what the checksum covers: class, id, the payload's length with the low byte first, and the payload
abbrev pub covered : Parts → List ℕ
covered p = p.class ∷ p.id ∷ (length p.payload % 256) ∷ (length p.payload / 256) ∷ p.payload

-- the two sync characters, what the checksum covers, and the checksum
abbrev pub spelling : Parts → List ℕ
spelling p = 0xb5 ∷ 0x62 ∷ (covered p ++ p.ck_a ∷ p.ck_b ∷ [])

abbrev pub is_byte : ℕ → Bool
is_byte n = nat_lt n 256

pub record AreParts (p : Parts) : Type 0 where
  pub bytes : list_all is_byte (spelling p) ≡ true
  pub short : length p.payload ≤ 2048

pub record IsRight (p : Parts) : Type 0 where
  pub ck_a : p.ck_a ≡ (sums_of (covered p)).a
  pub ck_b : p.ck_b ≡ (sums_of (covered p)).b

-- a frame shape has any checksum, a frame the right one
abbrev pub IsShape : List ℕ → Type 0
IsShape bytes = (p : Parts) × AreParts p × (bytes ≡ spelling p)

abbrev pub IsFrame : List ℕ → Type 0
IsFrame bytes = (p : Parts) × AreParts p × IsRight p × (bytes ≡ spelling p)

abbrev pub IsProperPrefix : List ℕ → Type 0
IsProperPrefix bytes = (more : List ℕ) × (0 < length more) × IsShape (bytes ++ more)

-- what is in a frame
abbrev pub class_of : List ℕ → ℕ
class_of frame = slice_index frame 2

abbrev pub id_of : List ℕ → ℕ
id_of frame = slice_index frame 3

abbrev pub payload_of : List ℕ → List ℕ
payload_of frame = take (length frame - 8) (drop 6 frame)
