-- The links that come through a door.
use Rattle.std.specs.Prelude.{◌≡◌, ℕ, List, [], ◌∷◌, ◌++◌, Option, Some, None, IfSome}
use Rattle.gps_outside.specs.declared.door.DoorStep.{DoorStep}
use Rattle.gps_outside.specs.declared.door.DoorStep.TheVariants.{Link, Quiet, Closed, Failed}
use Rattle.gps_outside.specs.Told.{Stream, Goes, Stays}

-- these links are the next of those that were left, in order
abbrev pub PassLinks : {L : Type 0} → List L → List L → List L → Type 0
PassLinks links before after = before ≡ links ++ after

-- nothing changes, and no link is left
pub record HasNoLink {L : Type 0} (before after : List L) : Type 0 where
  pub same : before ≡ after
  pub none : before ≡ []

-- what an answer of a door says of the links left
abbrev pub Admits : {I O : Type 0} → DoorStep I O → Option (List (I × O)) → Option (List (I × O)) → Type 0
Admits (Link source sink) before after = Goes (PassLinks ((source, sink) ∷ [])) before after
Admits Quiet before after = Goes Stays before after
Admits Closed before after = Goes HasNoLink before after
Admits Failed before after = Goes Stays before after

-- a door's faults rise only if it answers Failed
abbrev pub FailsOnly : {I O : Type 0} → DoorStep I O → ℕ → ℕ → Type 0
FailsOnly (Link source sink) before after = after ≡ before
FailsOnly Quiet before after = after ≡ before
FailsOnly Closed before after = after ≡ before
FailsOnly Failed before after = Unit {0}

-- nothing was read from a source, if its contents are modelled, and it counted nothing
pub record IsUnread (content : Option Stream) (faults quiets : ℕ) : Type 0 where
  pub nothing : IfSome content (λ stream. stream.taken ≡ [])
  pub no_fault : faults ≡ 0
  pub no_quiet : quiets ≡ 0

-- nothing was written to a sink, if its contents are modelled, and it counted nothing
pub record IsUnwritten (written : Option (List ℕ)) (faults : ℕ) : Type 0 where
  pub nothing : IfSome written (λ bytes. bytes ≡ [])
  pub no_fault : faults ≡ 0

-- if all that a client sends is told, it is what is left in the source of its link, whose contents are modelled
abbrev pub AsksOf : Option Stream → Option (List ℕ) → Type 0
AsksOf content None = Unit {0}
AsksOf content (Some all) = (stream : Stream) × (content ≡ Some stream) × (stream.left ≡ all)

-- what holds of the link that a door gives
abbrev pub IfLink : {I O : Type 0} → DoorStep I O → (I → O → Type 0) → Type 0
IfLink (Link source sink) P = P source sink
IfLink Quiet P = Unit {0}
IfLink Closed P = Unit {0}
IfLink Failed P = Unit {0}
