-- What `decode` and `pseudo` promise of the bytes that they read, of the stamps that they ask for, and of the bytes that they write: for each report
-- what is said of it.
use Rattle.std.specs.Prelude.{◌≡◌, ℕ, ◌≤◌, ◌⊎◌, List, ◌++◌, length, Option, Some, None, Result, Ok, Err}
use Rattle.gps_report.specs.declared.edge.Symbol.{Symbol}
use Rattle.gps_report.specs.declared.report.Body.{Body}
use Rattle.gps_outside.specs.Counts.{Rose}
use Rattle.gps_outside.specs.Told.{Stream, Goes, Appends, AppendsPart}
use Rattle.gps_outside.specs.Waiting.{Waits}
use Rattle.gps_outside.specs.Ticks.{Dial, GivesAll}
use Rattle.device_core.specs.Reports.{Gains}
use Rattle.device_core.specs.Standing.{DeviceKept, StandsFor}
use Rattle.gps_outside.specs.declared.outcome.CommandOutcome.{CommandOutcome}
use Rattle.gps_outside.specs.declared.outcome.CommandOutcome.TheVariants.{Done, ReadFault, TooQuiet, WriteFault, Full, BadLine, NoMemory}
use Rattle.gps_outside.specs.Ends.{Ends, Wrote}
use Rattle.gps_decode.specs.declared.fault.Fault.{Fault}
use Rattle.gps_decode.specs.declared.fault.Fault.TheVariants.{Sink, NoMemory as NoMemoryFault}
use Rattle.gps_decode.specs.Readings.{ArePieces, PassHistory, Reading, bytes_of, stamps_of, stream_of}
use Rattle.gps_decode.specs.Texts.{Texts, texts_of, texts_so_far, texts_to_end}

-- Which bytes one reading has: those of one read, and if the history was passed the last has what lay within it. No line is refused, since none is read.
abbrev pub AreReads : CommandOutcome → List Reading → Type 0
AreReads Done readings = ArePieces readings
AreReads ReadFault readings = ArePieces readings
AreReads TooQuiet readings = ArePieces readings
AreReads WriteFault readings = ArePieces readings ⊎ PassHistory readings
AreReads Full readings = PassHistory readings
AreReads (BadLine number) readings = ⊥
AreReads NoMemory readings = ArePieces readings ⊎ PassHistory readings

-- There are readings such that their bytes were read, the clock gave one stamp for each of them, in order, and what is said of their stream's reports was
-- written. Of an object whose contents are not modelled nothing is said here: then the readings may be any.
pub record Decoded (says : Texts) (outcome : CommandOutcome) (history : ℕ) (source source' : Option Stream) (clock clock' : Option Dial)
    (sink sink' : Option (List ℕ)) : Type 0 where
  pub readings : List Reading
  pub reads : AreReads outcome readings
  pub stamps : Goes (GivesAll (stamps_of readings)) clock clock'
  pub ends : Ends outcome history (bytes_of readings) source source'
      (Wrote outcome (texts_so_far says (stream_of readings)) sink sink') (Wrote outcome (texts_to_end says (stream_of readings)) sink sink')

-- a prefix of what waited and of the lines after it was written, and the rest waits; or the sink failed; or, out of memory, what waited was written
abbrev pub Written : {X : Type 0} → Result X Fault → List ℕ → List ℕ → List ℕ → Option (List ℕ) → Option (List ℕ) → Type 0
Written (Ok _) lines waited waits before after = Waits (waited ++ lines) waits before after
Written (Err Sink) lines waited waits before after = Goes (AppendsPart (waited ++ lines)) before after
Written (Err NoMemoryFault) lines waited waits before after = Goes (Appends waited) before after

-- out of memory, what waited was written, or the sink failed
abbrev pub GaveUp : Fault → List ℕ → Option (List ℕ) → Option (List ℕ) → Type 0
GaveUp Sink waited before after = Goes (AppendsPart waited) before after
GaveUp NoMemoryFault waited before after = Goes (Appends waited) before after

-- the sink's faults rose exactly if the sink failed
abbrev pub FaultCause : Fault → ℕ → ℕ → Type 0
FaultCause Sink before after = Rose before after
FaultCause NoMemoryFault before after = after ≡ before

abbrev pub WriteCause : {X : Type 0} → Result X Fault → ℕ → ℕ → Type 0
WriteCause (Ok _) before after = after ≡ before
WriteCause (Err Sink) before after = Rose before after
WriteCause (Err NoMemoryFault) before after = after ≡ before

-- the lines of what a stream gains by more of it were written or wait, after what waited, and what is kept then is a summary of the longer stream;
-- or the sink failed, and a prefix of them was written; or, out of memory, what waited was written
abbrev pub HandsOn : {X : Type 0} → Texts → Result X Fault → List Symbol → List Symbol → DeviceKept → List ℕ → List ℕ → Option (List ℕ)
    → Option (List ℕ) → Type 0
HandsOn says (Ok _) stream more kept waited waits before after =
    StandsFor kept (stream ++ more) × ((out : List Body) × (Gains stream more out × Waits (waited ++ texts_of says out) waits before after))
HandsOn says (Err Sink) stream more kept waited waits before after =
    (out : List Body) × (Gains stream more out × Goes (AppendsPart (waited ++ texts_of says out)) before after)
HandsOn says (Err NoMemoryFault) stream more kept waited waits before after = Goes (Appends waited) before after
