-- The results that one read of a source may have.
use Rattle.std.specs.Prelude.{◌≡◌, ℕ, ◌≤◌, List, take, Option}
use Rattle.gps_outside.specs.declared.source.ReadStep.{ReadStep}
use Rattle.gps_outside.specs.declared.source.ReadStep.TheVariants.{Got, End, Quiet, Failed}
use Rattle.gps_outside.specs.Counts.{one_more}
use Rattle.gps_outside.specs.Told.{Stream, Goes, Stays, Passes, IsAtEnd, MayLose}

-- bytes that were read are some, and no more than the buffer has room for
abbrev pub FitsBuffer : ReadStep → ℕ → Type 0
FitsBuffer (Got n) room = (1 ≤ n) × (n ≤ room)
FitsBuffer End room = Unit {0}
FitsBuffer Quiet room = Unit {0}
FitsBuffer Failed room = Unit {0}

-- what an answer says of the content, with the buffer after the read
abbrev pub Reads : ReadStep → List ℕ → Option Stream → Option Stream → Type 0
Reads (Got n) buffer before after = Goes (Passes (take n buffer)) before after
Reads End buffer before after = Goes IsAtEnd before after
Reads Quiet buffer before after = Goes Stays before after
Reads Failed buffer before after = Goes MayLose before after

-- a source's faults rise only if it answers Failed
abbrev pub FailsOnly : ReadStep → ℕ → ℕ → Type 0
FailsOnly (Got n) before after = after ≡ before
FailsOnly End before after = after ≡ before
FailsOnly Quiet before after = after ≡ before
FailsOnly Failed before after = Unit {0}

-- a source counts each answer Quiet once, and no other answer
abbrev pub CountsQuiet : ReadStep → ℕ → ℕ → Type 0
CountsQuiet (Got n) before after = after ≡ before
CountsQuiet End before after = after ≡ before
CountsQuiet Quiet before after = after ≡ one_more before
CountsQuiet Failed before after = after ≡ before
