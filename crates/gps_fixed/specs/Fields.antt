-- Numbers in a binary payload, the least byte first (little-endian), as the u-blox interface description writes them: U2, U4 and I4.
use Rattle.std.specs.Prelude.{ℕ, ◌+◌, ◌*◌, ◌^◌, List, ℤ, slice_index}
use Rattle.std.specs.Int.{w32, cast_signed}

-- two bytes from a place on
abbrev pub u2_at : List ℕ → ℕ → ℕ
u2_at bytes at = slice_index bytes at + 2 ^ 8 * slice_index bytes (at + 1)

-- four bytes from a place on
abbrev pub u4_at : List ℕ → ℕ → ℕ
u4_at bytes at =
    slice_index bytes at + 2 ^ 8 * slice_index bytes (at + 1) + 2 ^ 16 * slice_index bytes (at + 2)
    + 2 ^ 24 * slice_index bytes (at + 3)

-- four bytes as a number with a sign: from 2 ^ 31 on they are the number less 2 ^ 32 (two's complement)
abbrev pub i4_at : List ℕ → ℕ → ℤ
i4_at bytes at = cast_signed w32 (u4_at bytes at)
