-- What the words of a command line are by their form and their place. The place of the first word, the command, is 0.
use Rattle.std.specs.Prelude.{ℕ, zero, suc, ◌+◌, ◌-◌, ◌==◌, Bool, false, not, ◌&&◌, ◌||◌, List, Option, Some, None, codes, is_some, length, nat_lt, option_and_then, option_map, position, slice_get, slice_index, if◌then◌else◌}
use Rattle.std.specs.Str.{bytes_eq}
use Rattle.clap.specs.Walk.{Text}
use Rattle.gps_words.specs.Devices.{halves}
use Rattle.gps_words.specs.Numbers.{is_digit}
use Rattle.gps_help.specs.Options.{flag_of, option_named}
use Rattle.gps_help.specs.declared.command_name.CommandName.{CommandName}
use Rattle.gps_help.specs.declared.option_name.OptionName.{OptionName}

-- a test passes at a place below n; at how many of them it passes
abbrev pub any_below : (ℕ → Bool) → ℕ → Bool
any_below test zero = false
any_below test (suc n) = any_below test n || test n

abbrev pub count_below : (ℕ → Bool) → ℕ → ℕ
count_below test zero = 0
count_below test (suc n) = count_below test n + (if test n then 1 else 0)

-- there is a text, and it passes
abbrev pub passes : (Text → Bool) → Option Text → Bool
passes test None = false
passes test (Some text) = test text

-- a word that begins with `-` and is more than that; it is no value
unfoldable pub is_dashed : Text → Bool
is_dashed word = nat_lt 1 (length word) && (slice_index word 0 == 45)

-- a word that can be meant as a value: one without a `-`, or a number with one
unfoldable pub can_be_value : Text → Bool
can_be_value word = not (is_dashed word) || is_digit (slice_index word 1)

-- what comes before the first `=` of a word, or the word; and what comes after it
abbrev pub head_or : Text → Option (Text × Text) → Text
head_or word None = word
head_or word (Some parts) = parts.0

unfoldable pub head_of : Text → Text
head_of word = head_or word (halves 61 word)

unfoldable pub value_of : Text → Option Text
value_of word = option_map (λ parts. parts.1) (halves 61 word)

-- where the first `--` is, after which no word is an option
unfoldable pub stop_of : List Text → Option ℕ
stop_of words = position (λ word. bytes_eq word (codes "--")) words

abbrev pub is_stopped : Option ℕ → ℕ → Bool
is_stopped None at = false
is_stopped (Some stop) at = nat_lt stop at

-- the option that takes the word at this place as its value, as the word before is that option without a value of its own
unfoldable pub option_before : CommandName → List Text → Option ℕ → ℕ → Option OptionName
option_before command words stop at =
    if at == 0 || is_stopped stop at then None else option_and_then (option_named command) (slice_get words (at - 1))

-- the word at this place names the option
unfoldable pub names_at : List Text → Option ℕ → OptionName → ℕ → Bool
names_at words stop option at = passes (λ word. not (is_stopped stop at) && bytes_eq (head_of word) (flag_of option)) (slice_get words at)

-- a word after the command that is no option and no option's value
unfoldable pub is_alone : CommandName → List Text → Option ℕ → ℕ → Text → Bool
is_alone command words stop at word =
    nat_lt 0 at && (is_stopped stop at || not (is_dashed word) && not (is_some (option_before command words stop at)))
