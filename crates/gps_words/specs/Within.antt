-- The ranges of what the words ask for.
use Rattle.std.specs.Prelude.{◌≡◌, ℕ, ◌≤◌, ◌<◌, ◌⊎◌, List, IfSome, length}
use Rattle.gps_fixed.specs.Limits.{most_history, most_queue}
use Rattle.gps_words.specs.Serve.{Serve}
use Rattle.gps_words.specs.declared.command.CommandLine.{CommandLine}
use Rattle.gps_words.specs.declared.command.CommandLine.TheVariants.{Decode, Pseudo, Replay, Generate, Lines}

-- a number from the least to the most
abbrev pub IsBetween : ℕ → ℕ → ℕ → Type 0
IsBetween least most n = (least ≤ n) × (n ≤ most)

-- a path is not empty
abbrev pub IsPath : List ℕ → Type 0
IsPath path = 0 < length path

-- one input and one place of edges, or none, for each device, and each number in its range
pub record IsWithin (s : Serve) : Type 0 where
  pub inputs : length s.devices.inputs ≡ length s.devices.names
  pub edges : length s.devices.edges ≡ length s.devices.names
  pub queue_low : 1 ≤ s.numbers.queue
  pub queue_high : s.numbers.queue ≤ most_queue
  pub requests_low : 1 ≤ s.numbers.requests
  pub requests_high : s.numbers.requests ≤ 4_294_967_294
  pub history_low : 1 ≤ s.numbers.history
  pub history_high : s.numbers.history ≤ most_history
  pub wait : s.numbers.wait ≤ 64
  pub monitor : s.numbers.monitor ≤ 1_000_000
  pub reopen : IfSome s.numbers.reopen (IsBetween 1 3_600)
  pub cycle_gap : IfSome s.numbers.cycle_gap (IsBetween 1 10_000)
  pub report : IfSome s.numbers.report (IsBetween 10 86_400)
  pub stop : IfSome s.stop IsPath

abbrev pub IsHistory : ℕ → Type 0
IsHistory history = (1 ≤ history) × (history ≤ most_history)

-- how many bytes are read at most: a number in its range, or all that any input has
abbrev pub IsBytes : ℕ → Type 0
IsBytes n = IsHistory n ⊎ (n ≡ 9_223_372_036_854_775_807)

abbrev pub IsQueue : ℕ → Type 0
IsQueue queue = (1 ≤ queue) × (queue ≤ most_queue)

-- each number of a command lies in its range
abbrev pub IsInRange : CommandLine → Type 0
IsInRange (Decode history) = IsBytes history
IsInRange (Pseudo history) = IsBytes history
IsInRange (Replay history queue) = IsHistory history × IsQueue queue
IsInRange (Generate seed size) = (1 ≤ size) × (size ≤ 10_000)
IsInRange Lines = Unit {0}
