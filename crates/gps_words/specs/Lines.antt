-- What the words of `lines` ask for: it has no options.
use Rattle.std.specs.Prelude.{List, Option, Some}
use Rattle.clap.specs.Walk.{Row}
use Rattle.gps_words.specs.declared.command.CommandLine.{CommandLine}
use Rattle.gps_words.specs.declared.command.CommandLine.TheVariants.{Lines}

abbrev pub lines_in : List Row → Option CommandLine
lines_in rows = Some Lines
