-- How the answer to `help` or `--version` is written.
use Rattle.std.specs.Prelude.{◌≡◌, ◌⊎◌, ℕ, List, Option}
use Rattle.gps_outside.specs.Counts.{Rose}
use Rattle.gps_outside.specs.Told.{Appends, AppendsPart, Goes}

-- It was written whole, and the status is 0; or the sink failed, a prefix of it was written, and the status is 4. The sink's faults rose exactly if
-- the sink failed.
abbrev pub WritesAnswer : List ℕ → ℕ → Option (List ℕ) → Option (List ℕ) → ℕ → ℕ → Type 0
WritesAnswer text status before after faults faults' =
    ((status ≡ 0) × (faults' ≡ faults) × Goes (Appends text) before after)
    ⊎ ((status ≡ 4) × Rose faults faults' × Goes (AppendsPart text) before after)
