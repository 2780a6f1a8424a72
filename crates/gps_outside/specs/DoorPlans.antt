-- A door in memory that follows a plan.
use Rattle.std.specs.Prelude.{ℕ, List, [], ◌∷◌, drop, Option, Some, None}
use Rattle.gps_outside.specs.declared.door.DoorStep.{DoorStep}
use Rattle.gps_outside.specs.declared.door.DoorStep.TheVariants.{Link, Quiet, Closed, Failed}
use Rattle.gps_outside.specs.declared.plan.AtEnd.{AtEnd}
use Rattle.gps_outside.specs.declared.plan.AtEnd.TheVariants.{End as EndsByEnd, Quiet as EndsByQuiet}
use Rattle.gps_outside.specs.declared.plan.DoorPlan.{DoorPlan}
use Rattle.gps_outside.specs.declared.plan.DoorPlan.TheVariants.{Link as PlanLink, Quiet as PlanQuiet, Fail}
use Rattle.gps_outside.specs.Counts.{one_more}
use Rattle.gps_outside.specs.Plans.{first_of}

-- the entries of the door's plan that are left, what it answers after them, and its counts
pub record Gate (I K : Type 0) : Type 0 where
  pub plan : List (DoorPlan I K)
  pub at_end : AtEnd
  pub faults : ℕ
  pub quiets : ℕ

-- the links of a plan, in order
abbrev pub links_of : {I K : Type 0} → List (DoorPlan I K) → List (I × K)
links_of [] = []
links_of (PlanLink source sink ∷ plan) = (source, sink) ∷ links_of plan
links_of (PlanQuiet ∷ plan) = links_of plan
links_of (Fail ∷ plan) = links_of plan

-- each link of a plan has a source as P says, a sink as Q says, and both as R says
abbrev pub HaveLinks : {I K : Type 0} → (I → Type 0) → (K → Type 0) → (I → K → Type 0) → List (DoorPlan I K) → Type 0
HaveLinks P Q R [] = Unit {0}
HaveLinks P Q R (PlanLink source sink ∷ plan) = P source × Q sink × R source sink × HaveLinks P Q R plan
HaveLinks P Q R (PlanQuiet ∷ plan) = HaveLinks P Q R plan
HaveLinks P Q R (Fail ∷ plan) = HaveLinks P Q R plan

abbrev pub closed_or_quiet : {I K : Type 0} → AtEnd → DoorStep I K
closed_or_quiet EndsByEnd = Closed
closed_or_quiet EndsByQuiet = Quiet

-- what an entry answers, and what is answered after the plan
abbrev pub by_entry : {I K : Type 0} → Option (DoorPlan I K) → AtEnd → DoorStep I K
by_entry None at_end = closed_or_quiet at_end
by_entry (Some (PlanLink source sink)) at_end = Link source sink
by_entry (Some PlanQuiet) at_end = Quiet
by_entry (Some Fail) at_end = Failed

abbrev pub answer_of : {I K : Type 0} → Gate I K → DoorStep I K
answer_of gate = by_entry (first_of gate.plan) gate.at_end

-- the door after an answer: one entry of the plan is done, and the answer is counted
abbrev pub gate_after : {I K : Type 0} → DoorStep I K → Gate I K → Gate I K
gate_after (Link _ _) gate = record gate { plan = drop 1 gate.plan }
gate_after Quiet gate = record gate { plan = drop 1 gate.plan; quiets = one_more gate.quiets }
gate_after Closed gate = record gate { plan = drop 1 gate.plan }
gate_after Failed gate = record gate { plan = drop 1 gate.plan; faults = one_more gate.faults }
