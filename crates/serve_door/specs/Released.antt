-- The lanes of a session that has ended. What they hold is received while the daemon runs.
use Rattle.std.specs.Prelude.{◌≡◌, ◌<◌, ℕ, List, [], ◌∷◌, ◌++◌, length, get_or, Option}
use Rattle.gps_lane.specs.Ends.{Putting, Taking}
use Rattle.hub_door.specs.Admissions.{Admissions, SessionLanes}
use Rattle.gps_lane.specs.declared.piece.Piece.{Piece}
use Rattle.serve_workers.specs.declared.writer.WriterEnd.{WriterEnd}
use Rattle.serve_workers.specs.Writers.{WriterView}
use Rattle.serve_workers.specs.Sessions.{Wrote}

-- these are ends of the two lanes of the session that was admitted with this number
pub record AreEndsOf (seat : Admissions) (number : ℕ) (items : Taking (List ℕ)) (pieces : Putting Piece) : Type 0 where
  pub there : number < length seat.links
  pub outlet : (free : SessionLanes) → items.lane ≡ (get_or seat.links number free).outlet
  pub input : (free : SessionLanes) → pieces.lane ≡ (get_or seat.links number free).input

-- more items were received
pub record GotMore (was now : Taking (List ℕ)) : Type 0 where
  pub more : List (List ℕ)
  pub lane : now.lane ≡ was.lane
  pub about : now.about ≡ was.about
  pub gets : now.got ≡ was.got ++ more

-- with one more item received, what was written is still as the writer says
pub record WritesItem (item : List ℕ) (end end' : WriterEnd) (between after : Option (List ℕ)) (faults faults' : ℕ) : Type 0 where
  pub wrote : (rx mid : Taking (List ℕ)) (before : Option (List ℕ)) (first : ℕ)
      → Wrote end rx mid before between first faults → Wrote end' rx (record mid { got = mid.got ++ item ∷ [] }) before after first faults'

-- the same of all that a writer received after what it had received before
pub record WritesOn {K : Type 0} (written : K → Option (List ℕ)) (faults : K → ℕ) (was now : WriterView K) : Type 0 where
  pub lane : now.items.lane ≡ was.items.lane
  pub wrote : (rx : Taking (List ℕ)) (before : Option (List ℕ)) (first : ℕ)
      → Wrote was.end rx was.items before (written was.sink) first (faults was.sink)
      → Wrote now.end rx now.items before (written now.sink) first (faults now.sink)
