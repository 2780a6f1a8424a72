-- What the words of `replay` ask for: `replay [--history N] [--queue N]`.
use Rattle.std.specs.Prelude.{ℕ, List, Option, codes, option_and_then, option_map}
use Rattle.clap.specs.Walk.{Row, first_of}
use Rattle.gps_words.specs.Numbers.{number_or}
use Rattle.gps_words.specs.declared.command.CommandLine.{CommandLine}
use Rattle.gps_words.specs.declared.command.CommandLine.TheVariants.{Replay}

-- `--history` of `replay` and `serve`: how many symbols a generation of the history has at most
abbrev pub history_in : List Row → Option ℕ
history_in rows = number_or 16_777_216 1 33_554_432 (first_of (codes "history") rows)

-- `--queue`: how many items the outlet of a session keeps at most
abbrev pub queue_in : List Row → Option ℕ
queue_in rows = number_or 4_096 1 65_536 (first_of (codes "queue") rows)

unfoldable pub replay_in : List Row → Option CommandLine
replay_in rows =
    option_and_then (λ history. option_map (λ queue. Replay history queue) (queue_in rows)) (history_in rows)
