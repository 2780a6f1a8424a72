-- The texts of numbers in the words of a command.
use Rattle.std.specs.Prelude.{ℕ, ◌+◌, ◌-◌, ◌*◌, Bool, ◌&&◌, List, [], ◌∷◌, Option, Some, None, length, nat_le, nat_lt, option_map, if◌then◌else◌}
use Rattle.std.specs.List.{list_all}

abbrev pub is_digit : ℕ → Bool
is_digit c = nat_le 48 c && nat_le c 57

-- the number that decimal digits write after those of n
unfoldable pub digits_after : ℕ → List ℕ → ℕ
digits_after n [] = n
digits_after n (digit ∷ text) = digits_after (10 * n + (digit - 48)) text

abbrev pub is_number_text : List ℕ → Bool
is_number_text text = nat_lt 0 (length text) && nat_le (length text) 10 && list_all is_digit text

-- 1 to 10 decimal digits with a value from `least` to `most`; no sign, no space
abbrev pub number_in : ℕ → ℕ → List ℕ → Option ℕ
number_in least most text =
    let n = digits_after 0 text in
    if is_number_text text && nat_le least n && nat_le n most then Some n else None

-- the number of an option that may be left out
abbrev pub number_or : ℕ → ℕ → ℕ → Option (List ℕ) → Option ℕ
number_or default least most None = Some default
number_or default least most (Some text) = number_in least most text

-- the number of an option that may be left out and is none then
abbrev pub number_if : ℕ → ℕ → Option (List ℕ) → Option (Option ℕ)
number_if least most None = Some None
number_if least most (Some text) = option_map (λ n. Some n) (number_in least most text)
