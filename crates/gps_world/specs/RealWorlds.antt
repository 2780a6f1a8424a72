-- What contracts see of the real world.
use Rattle.std.specs.Prelude.{ℕ}
use Rattle.gps_world.specs.Asking.{Asking}

pub record Opener : Type 0 where
  pub asked : Asking
  pub input_faults : ℕ
  pub listen_faults : ℕ
