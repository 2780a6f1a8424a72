-- The run of a script: what its lines write, up to the first refused one, and what its end writes. It speaks of no generation and of no limit of one.
use Rattle.std.specs.Prelude.{ℕ, List, Option, option_and_then, option_map}
use Rattle.line_cut.specs.declared.limit.Limit.TheVariants.{Text}
use Rattle.line_player.specs.Rules.{Rules, Effect as LineEffect}
use Rattle.line_player.specs.Courses.{output_of}
use Rattle.replay_script.specs.Events.{event_in}
use Rattle.replay_player.specs.States.{State, new_state}
use Rattle.replay_player.specs.Effects.{EventEffect, effect}
use Rattle.replay_player.specs.Ends.{written_at_end}

-- the bytes of a line without its line end
abbrev pub most_in_line : ℕ
most_in_line = 4_096

abbrev pub of_line : EventEffect → LineEffect State
of_line e = record { state = e.state; written = e.written }

-- what a line does that is not too long; none if it is refused
abbrev pub effect_of : ℕ → State → List ℕ → Option (LineEffect State)
effect_of queue state text = option_map of_line (option_and_then (effect queue state) (event_in text))

-- a script's lines, without their line ends, if an outlet keeps `queue` items if no line says another number
abbrev pub rules_of : ℕ → Rules State
rules_of queue = record { limit = Text most_in_line; start = new_state; effect = effect_of queue; end_writes = written_at_end }

-- the output of a whole script
abbrev pub run : ℕ → List ℕ → List ℕ
run queue script = output_of (rules_of queue) script
