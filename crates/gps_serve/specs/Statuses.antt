-- When the daemon was out of memory, and when a device was lost by a fault.
use Rattle.std.specs.Prelude.{◌≡◌, ℕ, Bool, true, not, ◌&&◌, ◌||◌, List, Option, Some, None, if◌then◌else◌}
use Rattle.std.specs.List.{list_all}
use Rattle.gps_lane.specs.Ends.{Putting}
use Rattle.hub_promise.specs.declared.ends.DeviceEnd.TheVariants.{ReadFault}
use Rattle.hub_promise.specs.Given.{ending_of, is_end}
use Rattle.serve_end.specs.declared.done.DeviceDone.{DeviceDone}
use Rattle.gps_lane.specs.declared.piece.Ending.TheVariants.{Failed}
use Rattle.gps_lane.specs.declared.piece.Piece.{Piece}
use Rattle.serve_workers.specs.declared.monitors.ReadingsDone.{ReadingsDone}
use Rattle.gps_serve.specs.declared.status.DaemonOutcome.{DaemonOutcome}

-- it was seen; or a device was lost, and no source failed
abbrev pub daemon_out_of_memory : DaemonOutcome → Bool
daemon_out_of_memory o = o.no_memory || (not o.read_fault && not o.ended)

-- the status: of the faults that were met the first of these
abbrev pub outcome_status : DaemonOutcome → ℕ
outcome_status o = if o.read_fault then 3 else (if o.door_fault then 8 else (if daemon_out_of_memory o then 7 else 0))

-- each monitor made all its readings
abbrev pub EachWhole : List ReadingsDone → Type 0
EachWhole watched = list_all (λ (watch : ReadingsDone). watch.whole) watched ≡ true

-- each device has ended
abbrev pub AllEnded : {S R : Type 0} → List (DeviceDone S R) → Type 0
AllEnded {S} {R} devices = list_all (λ (d : DeviceDone S R). is_end d.end) devices ≡ true

-- a device was lost by the fault of a source
abbrev pub WasLostByFault : {S R : Type 0} → DeviceDone S R → Type 0
WasLostByFault device = device.end ≡ Some ReadFault

-- what was put into a lane says that its source failed
abbrev pub TellsFault : Option (Putting Piece) → Type 0
TellsFault None = ⊥
TellsFault (Some tx) = ending_of tx.put ≡ Some Failed

-- what was put into a device's lanes says of no source that it failed
pub record TellsNoFault {S R : Type 0} (device : DeviceDone S R) : Type 0 where
  pub bytes : TellsFault (Some device.bytes_tx) → ⊥
  pub edges : TellsFault device.edges_tx → ⊥
