-- Of a device that has ended, or was lost by a fault of a source, all that was taken went through its lanes.
use Rattle.std.specs.Prelude.{◌≡◌, ◌⊎◌, List, [], ◌++◌, Option, Some, None}
use Rattle.gps_fixed.specs.Moment.{Moment}
use Rattle.gps_lane.specs.Ends.{Putting, Taking}
use Rattle.gps_outside.specs.Told.{Goes, Stream}
use Rattle.hub_promise.specs.declared.ends.DeviceEnd.{DeviceEnd}
use Rattle.hub_promise.specs.declared.ends.DeviceEnd.TheVariants.{Ended, ReadFault}
use Rattle.hub_promise.specs.Given.{end_of}
use Rattle.serve_end.specs.declared.done.DeviceDone.{DeviceDone}
use Rattle.gps_lane.specs.Carried.{device_part}
use Rattle.gps_lane.specs.declared.piece.Ending.{Ending}
use Rattle.gps_lane.specs.declared.piece.Ending.TheVariants.{End}
use Rattle.gps_lane.specs.declared.piece.Piece.{Piece}
use Rattle.serve_end.specs.Lanes.{ZipOption}
use Rattle.serve_end.specs.Runs.{SourceFacts}
use Rattle.serve_workers.specs.EdgeLines.{HandsLines}
use Rattle.serve_workers.specs.Readings.{HandsOn, IsDevicePiece}
use Rattle.gps_serve.specs.Starts.{IsUnreadBy}

-- the device has ended, or was lost by a fault of a source and not out of memory
abbrev pub IsOver : Option DeviceEnd → Type 0
IsOver end = (end ≡ Some Ended) ⊎ (end ≡ Some ReadFault)

-- nothing is left in a source
abbrev pub LeavesNone : Stream → Stream → Type 0
LeavesNone before after = after.left ≡ []

-- All that a source held was taken, and nothing is left in it.
abbrev pub TakesWhole : Stream → Stream → Type 0
TakesWhole before after = (after.taken ≡ before.taken ++ before.left) × (after.left ≡ [])

-- What a reader put into its lane is what it took from its source, which was unread before, and then the piece that tells how this source ended. `Hands`
-- says which pieces are put of what is taken. If the source reached its end, nothing is left in it.
pub record ReaderWhole {S : Type 0} (Hands : Option Ending → List Piece → List Piece → Option Stream → Option Stream → Type 0) (facts : SourceFacts S)
    (ending : Ending) (tx : Putting Piece) (source : S) : Type 0 where
  pub first : S
  pub unread : IsUnreadBy facts first
  pub hands : Hands (Some ending) [] tx.put (facts.content first) (facts.content source)
  pub none_left : ending ≡ End → Goes LeavesNone (facts.content first) (facts.content source)

-- all that was put into a lane was received
abbrev pub GotAll : Putting Piece → Taking Piece → Type 0
GotAll tx rx = rx.got ≡ tx.put

-- A device ended as its two sources did, and all that was taken from them was received from its lanes. A device without a source of edges counts as one
-- whose edges reached their end.
pub record CameWhole {S R : Type 0} (may : Option (List Moment)) (facts : SourceFacts S) (done : DeviceDone S R) : Type 0 where
  pub bytes_ending : Ending
  pub edges_ending : Ending
  pub end_is : done.end ≡ Some (end_of bytes_ending edges_ending)
  pub no_edges : done.edges ≡ None → edges_ending ≡ End
  pub source : S
  pub source_is : done.source ≡ Some source
  pub bytes : ReaderWhole (HandsOn device_part (IsDevicePiece may)) facts bytes_ending done.bytes_tx source
  pub bytes_got : GotAll done.bytes_tx done.bytes_rx
  pub edges : ZipOption (ReaderWhole HandsLines facts edges_ending) done.edges_tx done.edges
  pub edges_got : ZipOption GotAll done.edges_tx done.edges_rx

abbrev pub IsWhole : {S R : Type 0} → Option (List Moment) → SourceFacts S → DeviceDone S R → Type 0
IsWhole may facts done = IsOver done.end → CameWhole may facts done
