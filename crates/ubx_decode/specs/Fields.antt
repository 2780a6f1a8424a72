-- Single readings of a payload's fields. u-blox interface description, UBX data types.
use Rattle.std.specs.Prelude.{ℕ, suc, ◌+◌, ◌-◌, ◌/◌, ◌%◌, ◌^◌, Bool, ◌==◌, ℤ, pos, negsuc}

-- bit k, counted from the least
abbrev pub is_set : ℕ → ℕ → Bool
is_set byte k = byte / 2 ^ k % 2 == 1

-- a number and one that may be below zero; at least 0
abbrev pub plus : ℕ → ℤ → ℕ
plus n (pos k) = n + k
plus n (negsuc k) = n - suc k
