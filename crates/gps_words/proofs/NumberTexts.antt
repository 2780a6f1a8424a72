-- What std's `parse` gives of 1 to 10 digits, as the number that they write.
use Rattle.std.proofs.Common.{◌≡◌, ◌≤◌, ◌<◌, ℕ, true, List, length, Result, Ok, arith, rules}
use Rattle.std.specs.List.{list_all}
use Rattle.std.specs.Str.Parse.{ParsesUnsigned}
use Rattle.std.proofs.lemmas.Str.Parse.{IsNumeralModel, digits_value_short, numerals_by_fold, parse_gives}
use Rattle.gps_words.specs.Numbers.{digits_after, is_digit}

own : IsNumeralModel (λ text. list_all is_digit text ≡ true) (digits_after 0)
unfolding digits_after
own = numerals_by_fold _ (search rules) digits_after (search rules)

pub parsed : (text : List ℕ) {E : Type 0} (r : Result ℕ E) → ParsesUnsigned 64 10 text r
    → list_all is_digit text ≡ true → 0 < length text → length text ≤ 10 → r ≡ Ok (digits_after 0 text)
parsed text r h digits some short =
    parse_gives own 64 text r h digits some (omega (arith, digits_value_short own text 10 digits short))
