-- How the reading of an input ends, and what was counted then.
use Rattle.std.specs.Prelude.{◌≡◌, ℕ, ◌≤◌, List, length, Option}
use Rattle.gps_outside.specs.Told.{Stream, Goes, Passes}
use Rattle.gps_outside.specs.ReadSteps.{PassesMore, TakesSome}
use Rattle.gps_outside.specs.Calls.{SourceCall}
use Rattle.gps_outside.specs.Outcomes.{EndsByReadFault, EndsTooQuiet, NoReadFailed}
use Rattle.gps_outside.specs.Ends.{HasReadAll, HasReadSoFar}
use Rattle.class_counts.specs.declared.counting.Count.{Count}
use Rattle.class_counts.specs.declared.reading.Reading.{Reading}
use Rattle.class_counts.specs.declared.reading.Reading.TheVariants.{End, Stopped, Full, Failed, TooQuiet}
use Rattle.class_counts.specs.Standing.{CountStands, Stops}

-- the bytes of an input
abbrev pub most_bytes : ℕ
most_bytes = 1_073_741_824

abbrev pub ReadsBytes : Reading → Count → List ℕ → Option Stream → Option Stream → Type 0
ReadsBytes End count bytes before after = HasReadAll most_bytes bytes before after × CountStands count bytes
ReadsBytes (Stopped stop) count bytes before after = HasReadSoFar most_bytes bytes before after × Stops stop count bytes
ReadsBytes Full count bytes before after = (length bytes ≡ most_bytes) × Goes (PassesMore bytes) before after × CountStands count bytes
ReadsBytes Failed count bytes before after = (length bytes ≤ most_bytes) × Goes (TakesSome bytes) before after × CountStands count bytes
ReadsBytes TooQuiet count bytes before after = (length bytes ≤ most_bytes) × Goes (Passes bytes) before after × CountStands count bytes

-- there are bytes that were read so
abbrev pub Reads : Reading → Count → Option Stream → Option Stream → Type 0
Reads reading count before after = (bytes : List ℕ) × ReadsBytes reading count bytes before after

-- what the source counted if the reading ends so
abbrev pub ReadCause : Reading → SourceCall → Type 0
ReadCause End source = NoReadFailed source
ReadCause (Stopped stop) source = NoReadFailed source
ReadCause Full source = NoReadFailed source
ReadCause Failed source = EndsByReadFault source
ReadCause TooQuiet source = EndsTooQuiet source
