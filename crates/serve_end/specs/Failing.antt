-- Which devices had a source that failed.
use Rattle.std.specs.Prelude.{◌≡◌, ◌<◌, ◌⊎◌, ℕ, true, List, [], ◌∷◌, Option, Some, None, option_map}
use Rattle.gps_lane.specs.declared.piece.Ending.TheVariants.{Failed}
use Rattle.serve_workers.specs.declared.reading.ReaderDone.{ReaderDone}
use Rattle.serve_end.specs.declared.done.DeviceDone.{DeviceDone}
use Rattle.serve_end.specs.declared.device.DeviceRun.{DeviceRun}

-- the reader of its edges met a fault
abbrev pub EdgeFailed : {S R : Type 0} → Option (ReaderDone S R) → Type 0
EdgeFailed None = ⊥
EdgeFailed (Some run) = run.failed ≡ true

-- a reader of the device met a fault
abbrev pub MetFault : {S R : Type 0} → DeviceRun S R → Type 0
MetFault run = (run.bytes.failed ≡ true) ⊎ EdgeFailed run.edges

-- the reader of its edges told its lane that the source failed
abbrev pub EdgeSaysFailed : {S R : Type 0} → Option (ReaderDone S R) → Type 0
EdgeSaysFailed None = ⊥
EdgeSaysFailed (Some run) = run.ending ≡ Some Failed

-- a reader of the device told its lane so
abbrev pub SaysFailed : {S R : Type 0} → DeviceRun S R → Type 0
SaysFailed run = (run.bytes.ending ≡ Some Failed) ⊎ EdgeSaysFailed run.edges

-- the faults of the source are above 0
abbrev pub SourceFailed : {S : Type 0} → (S → ℕ) → Option S → Type 0
SourceFailed faults None = ⊥
SourceFailed faults (Some source) = 0 < faults source

-- the source of a reader, if there is one
abbrev pub source_of : {S R : Type 0} → Option (ReaderDone S R) → Option S
source_of {S} {R} reader = option_map (λ (r : ReaderDone S R). r.source) reader

-- a source of the device failed, as its readers hand the sources back
abbrev pub RunFailed : {S R : Type 0} → (S → ℕ) → DeviceRun S R → Type 0
RunFailed faults run = SourceFailed faults (Some run.bytes.source) ⊎ SourceFailed faults (source_of run.edges)

-- the same, as the device is handed back
abbrev pub DeviceFailed : {S R : Type 0} → (S → ℕ) → DeviceDone S R → Type 0
DeviceFailed faults device = SourceFailed faults device.source ⊎ SourceFailed faults device.edges

-- P holds of one of these
abbrev pub AnyOf : {X : Type 0} → (X → Type 0) → List X → Type 0
AnyOf P [] = ⊥
AnyOf P (x ∷ xs) = P x ⊎ AnyOf P xs
