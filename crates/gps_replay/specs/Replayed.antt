-- What a replay promises of the bytes that it reads and of those that it writes.
use Rattle.std.specs.Prelude.{ℕ, List, Option}
use Rattle.gps_outside.specs.Told.{Stream}
use Rattle.gps_outside.specs.declared.outcome.CommandOutcome.{CommandOutcome}
use Rattle.line_player.specs.Played.{IsWithin, HasPlayed}
use Rattle.gps_replay.specs.Run.{rules_of}

-- the bytes of a script
abbrev pub most_bytes : ℕ
most_bytes = 1_073_741_824

-- how the replay of a script ended, and what was read and written, whatever a generation may hold
abbrev pub Replayed : CommandOutcome → ℕ → Option Stream → Option Stream → Option (List ℕ) → Option (List ℕ) → Type 0
Replayed outcome queue source source' sink sink' = HasPlayed outcome (rules_of queue) most_bytes source source' sink sink'

-- the source's contents are modelled, no more is left than a script may have, and no line of it is refused
abbrev pub IsScript : ℕ → Option Stream → Type 0
IsScript queue source = IsWithin (rules_of queue) most_bytes source
