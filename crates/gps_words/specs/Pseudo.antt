-- What the words of `pseudo` ask for: `pseudo [--history N|all]`.
use Rattle.std.specs.Prelude.{List, Option, option_map}
use Rattle.clap.specs.Walk.{Row}
use Rattle.gps_words.specs.Decode.{bytes_in}
use Rattle.gps_words.specs.declared.command.CommandLine.{CommandLine}
use Rattle.gps_words.specs.declared.command.CommandLine.TheVariants.{Pseudo}

abbrev pub pseudo_in : List Row → Option CommandLine
pseudo_in rows = option_map (λ history. Pseudo history) (bytes_in rows)
