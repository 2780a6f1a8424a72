-- What the readers of the devices did.
use Rattle.std.specs.Prelude.{◌≡◌, List, ◌++◌, map, Option, Some}
use Rattle.std.specs.List.{AllZip}
use Rattle.gps_fixed.specs.Moment.{Moment}
use Rattle.gps_outside.specs.Told.{Goes, Stream}
use Rattle.hub_promise.specs.declared.ends.DeviceEnd.{DeviceEnd}
use Rattle.hub_promise.specs.declared.ends.DeviceEnd.TheVariants.{Ended}
use Rattle.hub_promise.specs.Parts.{LaneNames, InletsView, names_of}
use Rattle.serve_end.specs.declared.done.DeviceDone.{DeviceDone}
use Rattle.serve_end.specs.declared.device.DeviceRun.{DeviceRun}
use Rattle.serve_end.specs.Failing.{source_of}
use Rattle.serve_end.specs.Lanes.{ZipOption, tx_of}
use Rattle.serve_end.specs.Runs.{Ran, SourceFacts}
use Rattle.gps_serve.specs.declared.starts.DeviceStart.{DeviceStart}
use Rattle.gps_serve.specs.Served.{DeviceServed, TakesFirst}
use Rattle.gps_serve.specs.Starts.{IsFreshDevice, edge_source_of, starts_of}
use Rattle.gps_serve.specs.Whole.{TakesWhole}

-- both readers of a device did their work on what they began with
abbrev pub RanOn : {S R : Type 0} → Option (List Moment) → SourceFacts S → DeviceStart S R → DeviceRun S R → Type 0
RanOn may facts start run = Ran may facts (starts_of start) run

-- The bytes taken from a device's source are the first of those that it held. If the device has ended, they are all of them, and nothing is left.
pub record TakesBy (end : Option DeviceEnd) (before after : Stream) : Type 0 where
  pub first : TakesFirst before after
  pub all : end ≡ Some Ended → TakesWhole before after

abbrev pub EdgesRead : {S : Type 0} → SourceFacts S → Option DeviceEnd → Option S → Option S → Type 0
EdgesRead {S} facts end = ZipOption (λ (first source : S). Goes (TakesBy end) (facts.content first) (facts.content source))

-- the readers of each device did their work, on lanes of these names through which nothing had gone and on sources from which nothing was taken
pub record DevicesRan {S R : Type 0} (may : Option (List Moment)) (facts : SourceFacts S) (lanes : List LaneNames) (runs : List (DeviceRun S R)) : Type 0 where
  pub starts : List (DeviceStart S R)
  pub first : List InletsView
  pub fresh : AllZip (IsFreshDevice facts) starts first
  pub lanes_are : map names_of first ≡ lanes
  pub ran : AllZip (RanOn may facts) starts runs

-- the readers of one device did so; its lanes are still the same
pub record DeviceReady {S R : Type 0} (may : Option (List Moment)) (facts : SourceFacts S) (x : InletsView) (run : DeviceRun S R) : Type 0 where
  pub start : DeviceStart S R
  pub first : InletsView
  pub fresh : IsFreshDevice facts start first
  pub lanes : names_of x ≡ names_of first
  pub ran : RanOn may facts start run

-- these devices are put together, and those are left
pub record DevicesSoFar {S R : Type 0} (may : Option (List Moment)) (facts : SourceFacts S) (inlets left : List InletsView)
    (runs : List (DeviceRun S R)) (devices : List (DeviceDone S R)) : Type 0 where
  pub done : List InletsView
  pub split : inlets ≡ done ++ left
  pub served : AllZip (DeviceServed may facts) done devices
  pub ready : AllZip (DeviceReady may facts) left runs

-- the device has the sources that its readers hand back, and their ends of its lanes
pub record IsLeftOf {S R : Type 0} (run : DeviceRun S R) (done : DeviceDone S R) : Type 0 where
  pub source : done.source ≡ Some run.bytes.source
  pub edges : done.edges ≡ source_of run.edges
  pub bytes_tx : done.bytes_tx ≡ run.bytes.pieces
  pub edges_tx : done.edges_tx ≡ tx_of run.edges

-- what the readers of a device took from its sources
pub record DeviceReads {S R : Type 0} (facts : SourceFacts S) (start : DeviceStart S R) (done : DeviceDone S R) : Type 0 where
  pub source : S
  pub source_is : done.source ≡ Some source
  pub bytes : Goes (TakesBy done.end) (facts.content start.source) (facts.content source)
  pub edges : EdgesRead facts done.end (edge_source_of start.edges) done.edges
