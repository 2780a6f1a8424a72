-- The shape at the head of a list of bytes, computed from the left. That it is the one that the sets of
-- `Sentence` give is what the clauses `whole` and `pending` of `sentence_at` say.
use Rattle.std.specs.Prelude.{◌+◌, ◌==◌, ◌&&◌, ℕ, Bool, List, [], ◌∷◌, length, take, drop, Option, Some, None, is_some, nat_le, nat_lt, if◌then◌else◌}
use Rattle.std.specs.List.{prefix_len}
use Rattle.nmea_frame.specs.Sentence.{is_body_byte, hex_value, read_sum, checksum}
use Rattle.nmea_frame.specs.declared.sentence.Shape.{Shape}
use Rattle.nmea_frame.specs.declared.sentence.Shape.TheVariants.{Whole, Pending, No}

abbrev pub whole_if : Bool → ℕ → Shape
whole_if right len = if right then Whole len else No

unfoldable pub after_return : ℕ → Bool → List ℕ → Shape
after_return len right [] = Pending
after_return len right (c ∷ rest) = if c == 10 then whole_if right (len + 6) else No

unfoldable pub ending : ℕ → Bool → List ℕ → Shape
ending len right [] = Pending
ending len right (c ∷ rest) =
    if c == 10 then whole_if right (len + 5)
    else (if (c == 13) && nat_lt len 123 then after_return len right rest else No)

unfoldable pub after_digits : List ℕ → Option ℕ → List ℕ → Shape
after_digits body None rest = No
after_digits body (Some sum) rest = ending (length body) (sum == checksum body) rest

unfoldable pub after_star : List ℕ → List ℕ → Shape
after_star body [] = Pending
after_star body (high ∷ []) = if is_some (hex_value high) then Pending else No
after_star body (high ∷ low ∷ rest) = after_digits body (read_sum high low) rest

unfoldable pub after_body : List ℕ → List ℕ → Shape
after_body body [] = Pending
after_body body (c ∷ rest) = if (c == 42) && nat_lt 0 (length body) then after_star body rest else No

unfoldable pub after_dollar : List ℕ → Shape
after_dollar text = if nat_le (prefix_len is_body_byte text) 123 then after_body (take (prefix_len is_body_byte text) text) (drop (prefix_len is_body_byte text) text) else No

unfoldable pub shape_of : List ℕ → Shape
shape_of [] = Pending
shape_of (c ∷ text) = if c == 36 then after_dollar text else No
