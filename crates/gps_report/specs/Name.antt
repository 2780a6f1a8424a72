-- Which texts name a device.
use Rattle.std.specs.Prelude.{ℕ, Bool, List, nat_eq, nat_le, nat_lt, ◌&&◌, not, length, true, [], ◌∷◌}
use Rattle.std.specs.List.{list_all, list_any}
use Rattle.std.specs.Cmp.Lexicographic.{pointwise}

-- printable ASCII without the space, the quote, the backslash and the equals sign
abbrev pub is_name_byte : ℕ → Bool
is_name_byte b = nat_le 0x21 b && nat_le b 0x7E && not (nat_eq b 34) && not (nat_eq b 92) && not (nat_eq b 61)

abbrev pub is_name : List ℕ → Bool
is_name text = nat_lt 0 (length text) && nat_le (length text) 64 && list_all is_name_byte text

-- no two names are equal; at most eight names, so that a device is one of eight
abbrev pub are_distinct : List (List ℕ) → Bool
are_distinct [] = true
are_distinct (name ∷ names) = not (list_any (pointwise nat_eq name) names) && are_distinct names

abbrev pub are_names : List (List ℕ) → Bool
are_names names = nat_le (length names) 8 && are_distinct names
