-- What the reading of a head, and of what follows it, says of the bytes that it reads from its source.
use Rattle.std.specs.Prelude.{◌≡◌, ◌≢◌, ℕ, ◌<◌, ◌≤◌, List, [], take, Option}
use Rattle.gps_outside.specs.Counts.{one_more}
use Rattle.gps_outside.specs.Told.{Stream, Goes, Passes}
use Rattle.gps_outside.specs.ReadSteps.{TakesAll, TakesSome}
use Rattle.upstream_laws.specs.declared.stage.Stage.{Stage}
use Rattle.upstream_laws.specs.declared.stage.Stage.TheVariants.{Behind, Nowhere}
use Rattle.upstream_laws.specs.Head.{Stand, taken, behind, most}
use Rattle.gps_upstream.specs.declared.reading.HeadStep.{HeadStep}
use Rattle.gps_upstream.specs.declared.reading.HeadStep.TheVariants.{Got, Bad, End, Quiet, Failed}

-- bytes that were read are some, and no more than the buffer has room for
abbrev pub FitsBuffer : HeadStep → ℕ → Type 0
FitsBuffer (Got n) room = (1 ≤ n) × (n ≤ room)
FitsBuffer Bad room = Unit {0}
FitsBuffer End room = Unit {0}
FitsBuffer Quiet room = Unit {0}
FitsBuffer Failed room = Unit {0}

-- the source's faults rise only if it failed; a bad head is no fault of the source
abbrev pub FailsOnly : HeadStep → ℕ → ℕ → Type 0
FailsOnly (Got n) before after = after ≡ before
FailsOnly Bad before after = after ≡ before
FailsOnly End before after = after ≡ before
FailsOnly Quiet before after = after ≡ before
FailsOnly Failed before after = Unit {0}

-- the source counts one quiet if the read was quiet, and none else
abbrev pub CountsQuiet : HeadStep → ℕ → ℕ → Type 0
CountsQuiet (Got n) before after = after ≡ before
CountsQuiet Bad before after = after ≡ before
CountsQuiet End before after = after ≡ before
CountsQuiet Quiet before after = after ≡ one_more before
CountsQuiet Failed before after = after ≡ before

-- what is handed on
abbrev pub handed_on : HeadStep → List ℕ → List ℕ
handed_on (Got n) buffer = take n buffer
handed_on Bad buffer = []
handed_on End buffer = []
handed_on Quiet buffer = []
handed_on Failed buffer = []

-- how much of the head was read then
abbrev pub StandsAt : HeadStep → Stage → Type 0
StandsAt (Got n) stage = stage ≡ Behind
StandsAt Bad stage = stage ≡ Nowhere
StandsAt End stage = stage ≢ Nowhere
StandsAt Quiet stage = stage ≢ Nowhere
StandsAt Failed stage = stage ≢ Nowhere

-- what happens to the source's content, if these bytes are read from it
abbrev pub Moves : HeadStep → List ℕ → Stream → Stream → Type 0
Moves (Got n) raw before after = Passes raw before after
Moves Bad raw before after = Passes raw before after
Moves End raw before after = TakesAll raw before after
Moves Quiet raw before after = Passes raw before after
Moves Failed raw before after = TakesSome raw before after

-- Some bytes are read from the source. Those after the head are handed on.
pub record Gives (step : HeadStep) (buffer : List ℕ) (old new : Stand) (before after : Option Stream) : Type 0 where
  pub raw : List ℕ
  pub moved : Goes (Moves step raw) before after
  pub stand : new ≡ taken old raw
  pub handed : behind old raw ≡ handed_on step buffer
  pub stage : StandsAt step new.stage

-- some bytes are read from the source, and all of them belong to the head
pub record HeadGoesOn (old new : Stand) (before after : Option Stream) : Type 0 where
  pub raw : List ℕ
  pub moved : Goes (Passes raw) before after
  pub stand : new ≡ taken old raw
  pub none : behind old raw ≡ []
  pub stage : new.stage ≢ Nowhere
  pub more : old.count < new.count
  pub few : new.count ≤ most
