-- What is known of a real sink. Source: this project's own.
use Rattle.std.specs.Prelude.{ℕ, List}

-- the bytes that the system took so far, in order, and how often a write or the delivery failed
pub record Sent : Type 0 where
  pub bytes : List ℕ
  pub faults : ℕ
