-- What the words of `decode` ask for: `decode [--history N|all]`.
use Rattle.std.specs.Prelude.{ℕ, List, Option, Some, None, codes, option_map, if◌then◌else◌}
use Rattle.std.specs.Str.{bytes_eq}
use Rattle.clap.specs.Walk.{Row, Text, first_of}
use Rattle.gps_words.specs.Numbers.{number_in}
use Rattle.gps_words.specs.declared.command.CommandLine.{CommandLine}
use Rattle.gps_words.specs.declared.command.CommandLine.TheVariants.{Decode}

-- how many bytes a text allows: 2 ^ 63 - 1, which no input has, if it is the word `all`, and else its number, from 1 to 33,554,432
unfoldable pub bytes_within : Text → Option ℕ
bytes_within text = if bytes_eq text (codes "all") then Some 9_223_372_036_854_775_807 else number_in 1 33_554_432 text

abbrev pub bytes_or : Option Text → Option ℕ
bytes_or None = Some 16_777_216
bytes_or (Some text) = bytes_within text

-- `--history` of `decode` and `pseudo`: how many bytes are read at most
abbrev pub bytes_in : List Row → Option ℕ
bytes_in rows = bytes_or (first_of (codes "history") rows)

abbrev pub decode_in : List Row → Option CommandLine
decode_in rows = option_map (λ history. Decode history) (bytes_in rows)
