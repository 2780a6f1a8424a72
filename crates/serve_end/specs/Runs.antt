-- What the readers of the devices did.
use Rattle.std.specs.Prelude.{◌≡◌, ◌<◌, ℕ, true, List, [], ◌∷◌, Option, Some, None}
use Rattle.gps_fixed.specs.Moment.{Moment}
use Rattle.gps_lane.specs.Ends.{Putting}
use Rattle.gps_outside.specs.declared.source.Source.{Ghosts as SourceGhosts}
use Rattle.gps_outside.specs.Told.{Stream}
use Rattle.gps_lane.specs.Carried.{device_part}
use Rattle.gps_lane.specs.declared.piece.Ending.TheVariants.{Failed}
use Rattle.gps_lane.specs.declared.piece.Piece.{Piece}
use Rattle.serve_workers.specs.Readings.{IsDevicePiece}
use Rattle.serve_workers.specs.declared.reading.ReaderDone.{ReaderDone}
use Rattle.serve_workers.specs.Reading.{Reads, ReadsLines, counts}
use Rattle.serve_end.specs.declared.device.DeviceRun.{DeviceRun}
use Rattle.serve_end.specs.Lanes.{ZipOption}

-- what a source tells, and what it counts
pub record SourceFacts (S : Type 0) : Type 0 where
  pub content : S → Option Stream
  pub faults : S → ℕ
  pub quiets : S → ℕ

abbrev pub source_facts : {S : Type 0} → SourceGhosts S → SourceFacts S
source_facts source = record { content = source.content; faults = source.faults; quiets = source.quiets }

-- what a reader begins with: its source, and its end of the lane
pub record ReaderStart (S : Type 0) : Type 0 where
  pub source : S
  pub pieces : Putting Piece

-- what the readers of a device begin with
pub record ReaderStarts (S : Type 0) : Type 0 where
  pub bytes : ReaderStart S
  pub edges : Option (ReaderStart S)

-- nothing was put into a reader's lane before
abbrev pub EdgeStartsEmpty : {S : Type 0} → Option (ReaderStart S) → Type 0
EdgeStartsEmpty None = Unit {0}
EdgeStartsEmpty (Some start) = start.pieces.put ≡ []

pub record StartsEmpty {S : Type 0} (start : ReaderStarts S) : Type 0 where
  pub bytes : start.bytes.pieces.put ≡ []
  pub edges : EdgeStartsEmpty start.edges

abbrev pub EdgesRan : {S R : Type 0} → SourceFacts S → Option (ReaderStart S) → Option (ReaderDone S R) → Type 0
EdgesRan {S} {R} facts = ZipOption (λ (start : ReaderStart S) (run : ReaderDone S R).
    ReadsLines run.failed run.ending start.pieces run.pieces (facts.content start.source) (facts.content run.source)
    (counts (facts.faults start.source) (facts.quiets start.source)) (counts (facts.faults run.source) (facts.quiets run.source)))

-- both readers of a device did their work on what they began with
pub record Ran {S R : Type 0} (may : Option (List Moment)) (facts : SourceFacts S) (start : ReaderStarts S) (run : DeviceRun S R) : Type 0 where
  pub bytes : Reads device_part (IsDevicePiece may) run.bytes.failed run.bytes.ending start.bytes.pieces run.bytes.pieces
      (facts.content start.bytes.source) (facts.content run.bytes.source)
      (counts (facts.faults start.bytes.source) (facts.quiets start.bytes.source)) (counts (facts.faults run.bytes.source) (facts.quiets run.bytes.source))
  pub edges : EdgesRan facts start.edges run.edges

-- a reader met a fault only if the faults of its source are above 0, and told its lane of one only if it met one
pub record ReaderCause {S R : Type 0} (faults : S → ℕ) (run : ReaderDone S R) : Type 0 where
  pub rose : run.failed ≡ true → 0 < faults run.source
  pub said : run.ending ≡ Some Failed → run.failed ≡ true

abbrev pub EdgeCause : {S R : Type 0} → (S → ℕ) → Option (ReaderDone S R) → Type 0
EdgeCause faults None = Unit {0}
EdgeCause faults (Some run) = ReaderCause faults run

-- the same of both readers of a device
pub record RunCause {S R : Type 0} (faults : S → ℕ) (run : DeviceRun S R) : Type 0 where
  pub bytes : ReaderCause faults run.bytes
  pub edges : EdgeCause faults run.edges

abbrev pub EachRun : {X : Type 0} → (X → Type 0) → List X → Type 0
EachRun P [] = Unit {0}
EachRun P (run ∷ runs) = P run × EachRun P runs
