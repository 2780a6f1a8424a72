-- What the counts of the sources say once the threads have ended.
use Rattle.std.proofs.Common.{◌≡◌, ℕ, ◌<◌, true, inl, inr, List, [], ◌∷◌, ◌++◌, Option, Some, None, sym, subst, arith}
use Rattle.gps_lane.specs.Ends.{Putting}
use Rattle.gps_outside.specs.Counts.{Rose, Tally}
use Rattle.gps_outside.specs.Told.{Stream}
use Rattle.gps_lane.specs.declared.piece.Piece.{Piece}
use Rattle.serve_workers.specs.Readings.{Meets}
use Rattle.serve_workers.specs.Reading.{Reads, ReadsLines, counts}
use Rattle.serve_workers.specs.declared.reading.ReaderDone.{ReaderDone}
use Rattle.serve_end.specs.declared.done.DeviceDone.{DeviceDone}
use Rattle.serve_end.specs.declared.device.DeviceRun.{DeviceRun}
use Rattle.serve_end.specs.Failing.{AnyOf, DeviceFailed, EdgeFailed, EdgeSaysFailed, MetFault, RunFailed, SaysFailed, SourceFailed, source_of}
use Rattle.serve_end.specs.Runs.{EachRun, EdgeCause, ReaderCause, RunCause}

rose_some : (before now : ℕ) → Rose before now → 0 < now
rose_some before now rose = omega (arith, rose)

cause_of : {S R : Type 0} (faults : S → ℕ) (run : ReaderDone S R) (old : ℕ) → Meets run.failed run.ending old (faults run.source) → ReaderCause faults run
cause_of faults run old meets = record { rose = λ e. rose_some old (faults run.source) (meets.rose e); said = meets.said }

pub reads_cause : {S R : Type 0} (faults : S → ℕ) (run : ReaderDone S R) (part : Piece → List ℕ) (P : Piece → Type 0) (tx tx' : Putting Piece) (before after : Option Stream)
    (old : Tally) (quiets : ℕ)
    → Reads part P run.failed run.ending tx tx' before after old (counts (faults run.source) quiets) → ReaderCause faults run
reads_cause faults run part P tx tx' before after old quiets reads = cause_of faults run old.faults reads.meets

pub lines_cause : {S R : Type 0} (faults : S → ℕ) (run : ReaderDone S R) (tx tx' : Putting Piece) (before after : Option Stream) (old : Tally) (quiets : ℕ)
    → ReadsLines run.failed run.ending tx tx' before after old (counts (faults run.source) quiets) → ReaderCause faults run
lines_cause faults run tx tx' before after old quiets reads = cause_of faults run old.faults reads.meets

pub each_run_more : {X : Type 0} (P : X → Type 0) (runs : List X) (run : X) → EachRun P runs → P run → EachRun P (runs ++ run ∷ [])
each_run_more P [] run each p = (p, tt)
each_run_more P (first ∷ runs) run each p = (each.0, each_run_more P runs run each.1 p)

pub failed_front : {X : Type 0} (P : X → Type 0) (xs : List X) (x : X) → AnyOf P xs → AnyOf P (xs ++ x ∷ [])
failed_front P [] x some = absurd some
failed_front P (first ∷ xs) x some = elim some [ inl here ↦ inl here | inr later ↦ inr (failed_front P xs x later) ]

pub failed_last : {X : Type 0} (P : X → Type 0) (xs : List X) (x : X) → P x → AnyOf P (xs ++ x ∷ [])
failed_last P [] x p = inl p
failed_last P (first ∷ xs) x p = inr (failed_last P xs x p)

edge_failed : {S R : Type 0} (faults : S → ℕ) (edges : Option (ReaderDone S R)) → EdgeFailed edges → EdgeCause faults edges → SourceFailed faults (source_of edges)
edge_failed faults None failed cause = absurd failed
edge_failed faults (Some run) failed cause = cause.rose failed

pub bytes_failed : {S R : Type 0} (faults : S → ℕ) (run : DeviceRun S R) → RunCause faults run → run.bytes.failed ≡ true → RunFailed faults run
bytes_failed faults run cause failed = inl (cause.bytes.rose failed)

pub edges_failed : {S R : Type 0} (faults : S → ℕ) (run : DeviceRun S R) → RunCause faults run → EdgeFailed run.edges → RunFailed faults run
edges_failed faults run cause failed = inr (edge_failed faults run.edges failed cause.edges)

edge_met : {S R : Type 0} (faults : S → ℕ) (edges : Option (ReaderDone S R)) → EdgeSaysFailed edges → EdgeCause faults edges → EdgeFailed edges
edge_met faults None said cause = absurd said
edge_met faults (Some run) said cause = cause.said said

-- a fault that a lane was told of was met
pub said_met : {S R : Type 0} (faults : S → ℕ) (run : DeviceRun S R) → RunCause faults run → SaysFailed run → MetFault run
said_met faults run cause said = elim said [
  | inl bytes ↦ inl (cause.bytes.said bytes)
  | inr lines ↦ inr (edge_met faults run.edges lines cause.edges)
]

-- the device that is handed back has the sources of its readers
pub failed_done : {S R : Type 0} (faults : S → ℕ) (device : DeviceDone S R) (run : DeviceRun S R)
    → RunFailed faults run → device.source ≡ Some run.bytes.source → device.edges ≡ source_of run.edges → DeviceFailed faults device
failed_done faults device run failed source edges = elim failed [
  | inl bytes ↦ inl (subst (SourceFailed faults) (sym source) bytes)
  | inr lines ↦ inr (subst (SourceFailed faults) (sym edges) lines)
]
