-- What a made script promises of the bytes that are written.
use Rattle.std.specs.Prelude.{◌≡◌, ℕ, List, [], length, Option, Some}
use Rattle.gps_outside.specs.Told.{Stream, Goes, Appends}
use Rattle.gps_outside.specs.declared.outcome.CommandOutcome.{CommandOutcome}
use Rattle.gps_outside.specs.declared.outcome.CommandOutcome.TheVariants.{Done, ReadFault, TooQuiet, WriteFault, Full, BadLine, NoMemory}
use Rattle.gps_outside.specs.Calls.{SinkCall, WriteFailed}
use Rattle.gps_outside.specs.Outcomes.{NoWriteFailed}
use Rattle.line_player.specs.Played.{HasPlayed}
use Rattle.replay_script.specs.Workload.{workload_of}
use Rattle.gps_replay.specs.Closings.{closing_rules, closings}

-- the items that the outlet of a session keeps
abbrev pub default_queue : ℕ
default_queue = 4_096

-- the made script, before anything of it was read
abbrev pub made : ℕ → ℕ → Stream
made seed size = record { taken = []; left = workload_of seed size }

-- The made script was played as if it were read from a source; if that was done, the closing lines of its run were written.
pub record Generated (outcome : CommandOutcome) (seed size : ℕ) (sink sink' : Option (List ℕ)) : Type 0 where
  pub after : Option Stream
  pub played : HasPlayed outcome (closing_rules default_queue) (length (workload_of seed size)) (Some (made seed size)) after sink sink'
  pub whole : outcome ≡ Done → Goes (Appends (closings default_queue (workload_of seed size))) sink sink'

-- The sink's faults rose exactly if the sink failed. No source fails, the script is read to its end, and no line of it is refused.
abbrev pub GeneratedCause : CommandOutcome → SinkCall → Type 0
GeneratedCause Done sink = NoWriteFailed sink
GeneratedCause ReadFault sink = ⊥
GeneratedCause TooQuiet sink = ⊥
GeneratedCause WriteFault sink = WriteFailed sink
GeneratedCause Full sink = ⊥
GeneratedCause (BadLine number) sink = ⊥
GeneratedCause NoMemory sink = NoWriteFailed sink
