-- How a command ends: its exit status, and what must have happened outside for it.
use Rattle.std.specs.Prelude.{◌≡◌, ◌≢◌, ◌≤◌, ℕ, ◌⊎◌}
use Rattle.gps_outside.specs.Counts.{many_more}
use Rattle.gps_outside.specs.ReadSteps.{IsQuietSometimes}
use Rattle.gps_outside.specs.Calls.{ReadFailed, SinkCall, SourceCall, WasQuiet, WriteFailed}
use Rattle.gps_outside.specs.declared.outcome.CommandOutcome.{CommandOutcome}
use Rattle.gps_outside.specs.declared.outcome.CommandOutcome.TheVariants.{Done, ReadFault, TooQuiet, WriteFault, Full, BadLine, NoMemory}

abbrev pub status_of : CommandOutcome → ℕ
status_of Done = 0
status_of ReadFault = 3
status_of TooQuiet = 3
status_of WriteFault = 4
status_of Full = 5
status_of (BadLine number) = 6
status_of NoMemory = 7

-- fewer than a thousand reads were quiet
abbrev pub IsLively : SourceCall → Type 0
IsLively source = IsQuietSometimes source.before.quiets source.after.quiets

-- no read failed, and fewer than a thousand were quiet
abbrev pub NoReadFailed : SourceCall → Type 0
NoReadFailed source = (source.after.faults ≡ source.before.faults) × IsLively source

abbrev pub NoWriteFailed : SinkCall → Type 0
NoWriteFailed sink = sink.after.faults ≡ sink.before.faults

-- a read failed, after fewer than a thousand quiet ones
abbrev pub EndsByReadFault : SourceCall → Type 0
EndsByReadFault source = ReadFailed source × IsLively source

-- no read failed, and the last one was the thousandth quiet one
abbrev pub EndsTooQuiet : SourceCall → Type 0
EndsTooQuiet source = (source.after.faults ≡ source.before.faults) × (source.after.quiets ≡ many_more 1000 source.before.quiets)

abbrev pub NothingFailed : SourceCall → SinkCall → Type 0
NothingFailed source sink = NoReadFailed source × NoWriteFailed sink

-- What the source and the sink counted if a command ends so. A command ends at the first fault: the source's faults rose exactly if it ends by a
-- read fault, and the sink's exactly if by a write fault. It is too quiet exactly at the thousandth quiet read.
abbrev pub HasCause : CommandOutcome → SourceCall → SinkCall → Type 0
HasCause Done source sink = NothingFailed source sink
HasCause ReadFault source sink = EndsByReadFault source × NoWriteFailed sink
HasCause TooQuiet source sink = EndsTooQuiet source × NoWriteFailed sink
HasCause WriteFault source sink = NoReadFailed source × WriteFailed sink
HasCause Full source sink = NothingFailed source sink
HasCause (BadLine number) source sink = NothingFailed source sink
HasCause NoMemory source sink = NothingFailed source sink

-- the reading broke off
abbrev pub ReadBroke : SourceCall → Type 0
ReadBroke source = EndsByReadFault source ⊎ EndsTooQuiet source

-- The same of a command that still writes what waits when the reading broke off: that write may fail too.
abbrev pub HasLateCause : CommandOutcome → SourceCall → SinkCall → Type 0
HasLateCause outcome source sink = HasCause outcome source sink ⊎ ((outcome ≡ WriteFault) × ReadBroke source × WriteFailed sink)

-- What the counts say of a status, and the status of the counts. 3: a read failed, or the thousandth quiet one came. 4: a write failed. Any
-- other: nothing failed.
abbrev pub StatusHasCause : ℕ → SourceCall → SinkCall → Type 0
StatusHasCause status source sink =
    ((status ≡ 3) × ReadBroke source × NoWriteFailed sink)
    ⊎ (((status ≡ 4) × (NoReadFailed source ⊎ ReadBroke source) × WriteFailed sink)
    ⊎ ((status ≢ 3) × (status ≢ 4) × NothingFailed source sink))

-- a read failed, or a thousand reads or more were quiet
abbrev pub HasReadCause : SourceCall → Type 0
HasReadCause source = ReadFailed source ⊎ WasQuiet 1000 source

-- no read and no write failed, and fewer than a thousand reads were quiet
abbrev pub NothingFails : SourceCall → SinkCall → Type 0
NothingFails source sink = (ReadFailed source → ⊥) × (WasQuiet 1000 source → ⊥) × (WriteFailed sink → ⊥)

-- no count of a fault or of a quiet read fell
pub record CountsStay (source : SourceCall) (sink : SinkCall) : Type 0 where
  pub faults : source.before.faults ≤ source.after.faults
  pub quiets : source.before.quiets ≤ source.after.quiets
  pub sink_faults : sink.before.faults ≤ sink.after.faults
