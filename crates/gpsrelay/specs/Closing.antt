-- How the daemon's closing lines are written.
use Rattle.std.specs.Prelude.{◌≡◌, ◌⊎◌, ℕ, List, Option}
use Rattle.gps_outside.specs.Counts.{Rose}
use Rattle.gps_outside.specs.Told.{Appends, AppendsPart, Goes}

-- They were all written, and the run's status stays; or the sink failed, a prefix of them was written, and the status is 4; or there was no memory for
-- them, nothing was written, and the status is 7. The sink's faults rose exactly if the sink failed.
abbrev pub WritesClosing : ℕ → List ℕ → ℕ → Option (List ℕ) → Option (List ℕ) → ℕ → ℕ → Type 0
WritesClosing ran lines status before after faults faults' =
    ((status ≡ ran) × (faults' ≡ faults) × Goes (Appends lines) before after)
    ⊎ ((status ≡ 4) × Rose faults faults' × Goes (AppendsPart lines) before after)
    ⊎ ((status ≡ 7) × (faults' ≡ faults) × (before ≡ after))
