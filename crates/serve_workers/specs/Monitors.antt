-- What a unit's monitor did.
use Rattle.std.specs.Prelude.{◌≡◌, ℕ, ◌*◌, ◌≤◌, ◌<◌, Bool, true, false, List, length}
use Rattle.shm_segment.specs.declared.view.Numbered.{Numbered}
use Rattle.shm_segment.specs.Seats.{SegmentId}
use Rattle.shm_monitor.specs.MonitorView.{MonitorView}
use Rattle.serve_workers.specs.Watching.{Climbs, IsBeginning, each_once}

-- It kept the pairs that it took with a new number, and made all its readings if it says so. If it says that it did not, it could not keep one of them.
pub record MonitorRan (segment : SegmentId) (tries : ℕ) (whole : Bool) (monitor : MonitorView) (taken : List Numbered) : Type 0 where
  pub segment_is : monitor.segment ≡ segment
  pub first : IsBeginning taken (each_once monitor.taken)
  pub climbs : Climbs taken
  pub all : whole ≡ true → taken ≡ each_once monitor.taken
  pub loads : whole ≡ true → 2 * tries ≤ length monitor.kept
  pub missing : whole ≡ false → length taken < length (each_once monitor.taken)
