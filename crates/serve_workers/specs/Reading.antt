-- What a reader did from its start to its end.
use Rattle.std.specs.Prelude.{◌≡◌, ℕ, ◌≤◌, Bool, List, Option}
use Rattle.gps_lane.specs.Ends.{Putting}
use Rattle.gps_outside.specs.Counts.{Tally}
use Rattle.gps_outside.specs.Told.{Stream}
use Rattle.gps_lane.specs.declared.piece.Ending.{Ending}
use Rattle.gps_lane.specs.declared.piece.Piece.{Piece}
use Rattle.serve_workers.specs.EdgeLines.{HandsLines}
use Rattle.serve_workers.specs.Readings.{HandsOn, Meets}

abbrev pub counts : ℕ → ℕ → Tally
counts faults quiets = record { faults = faults; quiets = quiets }

-- It put what it took into its lane, and met a fault exactly if the source's faults rose.
pub record Reads (part : Piece → List ℕ) (P : Piece → Type 0) (failed : Bool) (ending : Option Ending) (tx tx' : Putting Piece)
    (before after : Option Stream) (old new : Tally) : Type 0 where
  pub hands : HandsOn part P ending tx.put tx'.put before after
  pub lane : tx' ≡ record tx { put = tx'.put; is_open = tx'.is_open }
  pub faults_stay : old.faults ≤ new.faults
  pub quiets_stay : old.quiets ≤ new.quiets
  pub meets : Meets failed ending old.faults new.faults

-- The same of a device's edges.
pub record ReadsLines (failed : Bool) (ending : Option Ending) (tx tx' : Putting Piece) (before after : Option Stream) (old new : Tally) : Type 0 where
  pub hands : HandsLines ending tx.put tx'.put before after
  pub lane : tx' ≡ record tx { put = tx'.put; is_open = tx'.is_open }
  pub faults_stay : old.faults ≤ new.faults
  pub quiets_stay : old.quiets ≤ new.quiets
  pub meets : Meets failed ending old.faults new.faults
