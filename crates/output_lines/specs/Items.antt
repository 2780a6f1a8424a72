-- The line of an item that a session was sent, in printable ASCII.
use Rattle.std.specs.Prelude.{ℕ, ◌/◌, ◌%◌, Bool, not, ◌&&◌, ◌==◌, nat_le, List, [], ◌∷◌, ◌++◌, codes, if◌then◌else◌}
use Rattle.std.specs.List.{flat_map}
use Rattle.gps_fixed.specs.Hexadecimal.{lower_digit}
use Rattle.output_lines.specs.Words.{line_end, numbered}

-- printable ASCII but for the backslash
abbrev pub is_plain : ℕ → Bool
is_plain byte = nat_le 32 byte && nat_le byte 126 && not (byte == 92)

-- a plain byte is written as itself, and each other as `\x` and two digits
abbrev pub escaped : ℕ → List ℕ
escaped byte = if is_plain byte then byte ∷ [] else 92 ∷ 120 ∷ lower_digit (byte / 16) ∷ lower_digit (byte % 16) ∷ []

unfoldable pub escaped_text : List ℕ → List ℕ
escaped_text bytes = flat_map escaped bytes

-- sS ITEM
unfoldable pub item_line : ℕ → List ℕ → List ℕ
item_line session item = numbered (codes "s") session ++ codes " " ++ escaped_text item ++ line_end
