-- Threads that are waited for one after another.
use Rattle.std.specs.Prelude.{◌≡◌, List, ◌++◌}
use Rattle.std.specs.List.{AllZip}

-- the links ran, up to those that are left
pub record RanSoFar {L Run : Type 0} (Runs : L → Run → Type 0) (links left : List L) (runs : List Run) : Type 0 where
  pub done : List L
  pub split : links ≡ done ++ left
  pub ran : AllZip Runs done runs
