-- A source in memory that follows a plan.
use Rattle.std.specs.Prelude.{ℕ, List, [], ◌∷◌, ◌++◌, length, take, drop, min, max, Option, Some, None}
use Rattle.gps_outside.specs.declared.plan.ReadPlan.{ReadPlan}
use Rattle.gps_outside.specs.declared.plan.ReadPlan.TheVariants.{Give, Quiet as PlanQuiet, Fail}
use Rattle.gps_outside.specs.declared.plan.AtEnd.{AtEnd}
use Rattle.gps_outside.specs.declared.plan.AtEnd.TheVariants.{End as EndsByEnd, Quiet as EndsByQuiet}
use Rattle.gps_outside.specs.declared.source.ReadStep.{ReadStep}
use Rattle.gps_outside.specs.declared.source.ReadStep.TheVariants.{Got, End, Quiet, Failed}
use Rattle.gps_outside.specs.Counts.{one_more}
use Rattle.gps_outside.specs.Told.{Stream}
use Rattle.gps_outside.specs.Plans.{first_of}

-- the source's bytes, the entries of its plan that are left, what it answers at its end, and its counts
pub record MemorySourceView : Type 0 where
  pub stream : Stream
  pub plan : List ReadPlan
  pub at_end : AtEnd
  pub faults : ℕ
  pub quiets : ℕ

abbrev pub at_its_end : AtEnd → ReadStep
at_its_end EndsByEnd = End
at_its_end EndsByQuiet = Quiet

-- at most n of the bytes left, but one at least
abbrev pub given : ℕ → List ℕ → AtEnd → ReadStep
given most [] at_end = at_its_end at_end
given most (byte ∷ left) at_end = Got (min (max 1 most) (length (byte ∷ left)))

-- what an entry answers to a buffer with this room; after the plan, as many bytes as fit
abbrev pub by_entry : Option ReadPlan → ℕ → List ℕ → AtEnd → ReadStep
by_entry None room left at_end = given room left at_end
by_entry (Some (Give most)) room left at_end = given (min most room) left at_end
by_entry (Some PlanQuiet) room left at_end = Quiet
by_entry (Some Fail) room left at_end = Failed

abbrev pub answer_of : MemorySourceView → ℕ → ReadStep
answer_of held room = by_entry (first_of held.plan) room held.stream.left held.at_end

-- the first n bytes pass from those left to those read
abbrev pub after_taking : ℕ → Stream → Stream
after_taking n stream = record { taken = stream.taken ++ take n stream.left; left = drop n stream.left }

-- the source after an answer: one entry of the plan is done, and the answer is counted
abbrev pub held_after : ReadStep → MemorySourceView → MemorySourceView
held_after (Got n) held = record held { stream = after_taking n held.stream; plan = drop 1 held.plan }
held_after End held = record held { plan = drop 1 held.plan }
held_after Quiet held = record held { plan = drop 1 held.plan; quiets = one_more held.quiets }
held_after Failed held = record held { plan = drop 1 held.plan; faults = one_more held.faults }
