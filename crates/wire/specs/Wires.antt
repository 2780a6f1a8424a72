-- What is known of a descriptor. Source: this project's own.
use Rattle.std.specs.Prelude.{ℕ, List, Option}

-- the bytes that its calls gave or took so far, in order; how many of its calls failed for good; the number of its link, if a listener gave it
pub record Wire : Type 0 where
  pub bytes : List ℕ
  pub failed : ℕ
  pub link : Option ℕ
