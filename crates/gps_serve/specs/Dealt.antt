-- The shares of the clock's stamps that the readers of the devices have.
use Rattle.std.specs.Prelude.{◌≡◌, ℕ, suc, List, [], ◌∷◌, map, Option}
use Rattle.std.specs.List.{AllZip}
use Rattle.gps_outside.specs.Ticks.{Dial}
use Rattle.gps_outside.specs.declared.door.Door.{Ghosts as DoorGhosts}
use Rattle.gps_outside.specs.declared.client_sink.ClientSink.{Ghosts as SinkGhosts}
use Rattle.gps_outside.specs.declared.source.Source.{Ghosts as SourceGhosts}
use Rattle.gps_hub.specs.declared.naming.HubNaming.{Ghosts as HubGhosts}
use Rattle.hub_door.specs.declared.naming.DoorNaming.{Ghosts as DoorNamingGhosts}
use Rattle.gps_lane.specs.declared.piece.Piece.{Piece}
use Rattle.serve_workers.specs.Stamping.{StampsPieces}
use Rattle.serve_end.specs.declared.device.DeviceRun.{DeviceRun}
use Rattle.stamp_shares.specs.declared.view.ShareView.{ShareView}
use Rattle.stamp_shares.specs.Shares.{new_share}
use Rattle.gps_serve.specs.declared.readers.DeviceWork.{DeviceWork}
use Rattle.gps_serve.specs.declared.scope.Ended.{Ended}
use Rattle.gps_serve.specs.declared.starts.DeviceStart.{DeviceStart}
use Rattle.serve_workers.specs.Joining.{RanSoFar}
use Rattle.gps_serve.specs.Stamps.{StampsAreGiven}
use Rattle.gps_serve.specs.Works.{ReadersAre}

-- what was put for each device
abbrev pub puts_of : {S R : Type 0} → List (DeviceRun S R) → List (List Piece)
puts_of {S} {R} runs = map (λ (run : DeviceRun S R). run.bytes.pieces.put) runs

-- nothing was put for these devices before
abbrev pub AreEmpty : {S R : Type 0} → List (DeviceStart S R) → Type 0
AreEmpty [] = Unit {0}
AreEmpty (start ∷ starts) = (start.bytes.put ≡ []) × AreEmpty starts

-- each reader has a new share, with the numbers from this one on
abbrev pub AreNumbered : {S R D : Type 0} → ℕ → List (DeviceWork S D R) → Type 0
AreNumbered number [] = Unit {0}
AreNumbered number (work ∷ works) = (work.bytes.share.value ≡ new_share number) × AreNumbered (suc number) works

-- the device's pieces have the stamps of its reader's share, on whatever the reader was started
abbrev pub UsesShare : {S R D : Type 0} → DeviceWork S D R → DeviceRun S R → ShareView → Type 0
UsesShare {S} {R} work run share =
    (start : DeviceStart S R) → ReadersAre start work → StampsPieces 1 work.bytes.share.value share start.bytes.put run.bytes.pieces.put

-- the same of a run that stands beside its share
abbrev pub UsesItsShare : {S R D : Type 0} → DeviceWork S D R → DeviceRun S R × ShareView → Type 0
UsesItsShare work pair = UsesShare work pair.0 pair.1

-- each of these runs with its share
pub record Pairs {S R : Type 0} (runs : List (DeviceRun S R)) (shares : List ShareView) (pairs : List (DeviceRun S R × ShareView)) : Type 0 where
  pub runs_are : map (λ (pair : DeviceRun S R × ShareView). pair.0) pairs ≡ runs
  pub shares_are : map (λ (pair : DeviceRun S R × ShareView). pair.1) pairs ≡ shares

-- Each reader has a run and a share, in the order of the readers, and the pieces that the run put have the stamps of that share.
pub record SharesUsed {S R D : Type 0} (works : List (DeviceWork S D R)) (runs : List (DeviceRun S R)) (shares : List ShareView) : Type 0 where
  pub pairs : List (DeviceRun S R × ShareView)
  pub are : Pairs runs shares pairs
  pub used : AllZip UsesItsShare works pairs

-- the same, with these readers left
pub record UsedSoFar {S R D : Type 0} (works left : List (DeviceWork S D R)) (runs : List (DeviceRun S R)) (shares : List ShareView) : Type 0 where
  pub pairs : List (DeviceRun S R × ShareView)
  pub are : Pairs runs shares pairs
  pub used : RanSoFar UsesItsShare works left pairs

-- the pieces of the devices have the stamps that this clock gave, if nothing was put before
pub record StampedIf {S K G J R : Type 0} {s : SourceGhosts S} {k : SinkGhosts K} {g : DoorGhosts G S K} {j : HubGhosts J} {d : DoorNamingGhosts J}
    (clock : Option Dial) (starts : List (DeviceStart S R)) (ended : Ended S K G J R s k g j d) : Type 0 where
  pub given : AreEmpty starts → StampsAreGiven clock (puts_of ended.runs.items)
