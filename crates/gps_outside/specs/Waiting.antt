-- Pieces on their way to a sink. The last may wait for further ones.
use Rattle.std.specs.Prelude.{◌≡◌, ℕ, List, ◌++◌, Option, Bool, true, false}
use Rattle.gps_outside.specs.Told.{Goes, Appends, AppendsPart}

-- a prefix of what was due was written, and the rest waits
pub record Waits (due rest : List ℕ) (before after : Option (List ℕ)) : Type 0 where
  pub front : List ℕ
  pub split : due ≡ front ++ rest
  pub wrote : Goes (Appends front) before after

-- true: the rest waits; false: the sink failed, and what was written is a prefix of what was due
abbrev pub Sends : Bool → List ℕ → List ℕ → Option (List ℕ) → Option (List ℕ) → Type 0
Sends true due rest before after = Waits due rest before after
Sends false due rest before after = Goes (AppendsPart due) before after
