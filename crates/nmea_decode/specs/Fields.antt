-- The fields of a sentence: what is between the commas of its body. The first is the address, and the others are numbered from 1.
-- A text of fields is empty, or begins with the comma before its first field. NMEA 0183.
use Rattle.std.specs.Prelude.{ℕ, zero, suc, ◌-◌, ◌==◌, Bool, true, List, [], ◌∷◌, drop, count_by, map}
use Rattle.std.specs.List.{before_first, flat_map, list_any, position_or_len, range_with_len}

abbrev pub is_comma : ℕ → Bool
is_comma c = c == 44

-- the first field; a missing one is empty
unfoldable pub field : List ℕ → List ℕ
field [] = []
field (comma ∷ text) = before_first is_comma text

-- the fields after the first
unfoldable pub behind : List ℕ → List ℕ
behind [] = []
behind (comma ∷ text) = drop (position_or_len is_comma text) text

-- a field is followed by nothing, or by the comma before the next
abbrev pub is_field_end : List ℕ → Bool
is_field_end [] = true
is_field_end (c ∷ text) = is_comma c

-- the fields after the first k
abbrev pub skipped : ℕ → List ℕ → List ℕ
skipped zero text = text
skipped (suc k) text = skipped k (behind text)

abbrev pub field_at : ℕ → List ℕ → List ℕ
field_at k text = field (skipped (k - 1) text)

-- each field has one comma before it
abbrev pub field_count : List ℕ → ℕ
field_count text = count_by is_comma text

-- the fields in order, from number 1 to the last
abbrev pub list_of_fields : List ℕ → List (List ℕ)
list_of_fields text = map (λ k. field_at k text) (range_with_len 1 (field_count text))

-- fields in a row, a comma before each
abbrev pub joined : List (List ℕ) → List ℕ
joined fields = flat_map (λ text. 44 ∷ text) fields

abbrev pub has_comma : List ℕ → Bool
has_comma text = list_any is_comma text

-- of a body: its address, and the text of its other fields
abbrev pub address_of : List ℕ → List ℕ
address_of body = before_first is_comma body

abbrev pub fields_of : List ℕ → List ℕ
fields_of body = drop (position_or_len is_comma body) body
