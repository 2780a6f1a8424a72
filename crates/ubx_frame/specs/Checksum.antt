-- The checksum of a UBX frame: the 8-bit Fletcher algorithm. u-blox interface description, UBX checksum.
use Rattle.std.specs.Prelude.{ℕ, suc, ◌+◌, ◌*◌, ◌%◌, List, [], ◌∷◌, length, fold}
use Rattle.ubx_frame.specs.declared.checksum.Sums.{Sums}

-- the byte is added to the first sum, and then the first sum to the second, both modulo 256
abbrev pub after_byte : Sums → ℕ → Sums
after_byte sums byte =
    let a = (sums.a + byte) % 256
    in record { a = a; b = (sums.b + a) % 256 }

-- both sums begin at 0
unfoldable pub sums_of : List ℕ → Sums
sums_of covered = fold after_byte (record { a = 0; b = 0 }) covered

-- the second sum without its modulus: each byte counts as often as there are bytes from it to the end
abbrev pub weighted : List ℕ → ℕ
weighted [] = 0
weighted (x ∷ xs) = suc (length xs) * x + weighted xs
