-- What the words of `generate` ask for: `generate --seed N --size N`, both of them.
use Rattle.std.specs.Prelude.{ℕ, List, Option, codes, option_and_then, option_map}
use Rattle.clap.specs.Walk.{Row, first_of}
use Rattle.gps_words.specs.Numbers.{number_in}
use Rattle.gps_words.specs.declared.command.CommandLine.{CommandLine}
use Rattle.gps_words.specs.declared.command.CommandLine.TheVariants.{Generate}

abbrev pub seed_in : List Row → Option ℕ
seed_in rows = option_and_then (number_in 0 4_294_967_295) (first_of (codes "seed") rows)

abbrev pub size_in : List Row → Option ℕ
size_in rows = option_and_then (number_in 1 10_000) (first_of (codes "size") rows)

unfoldable pub generate_in : List Row → Option CommandLine
generate_in rows = option_and_then (λ seed. option_map (λ size. Generate seed size) (size_in rows)) (seed_in rows)
