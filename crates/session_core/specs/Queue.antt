-- A plain outlet: the items that it holds, first in, first out, and how many it may hold.
use Rattle.std.specs.Prelude.{ℕ, List}

pub record Queue : Type 0 where
  pub cap : ℕ
  pub held : List (List ℕ)
