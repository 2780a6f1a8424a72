-- A sink in memory that follows a plan.
use Rattle.std.specs.Prelude.{ℕ, zero, suc, ◌-◌, List, ◌++◌, length, take, drop, min, max, Option, Some, None}
use Rattle.gps_outside.specs.declared.plan.WritePlan.{WritePlan}
use Rattle.gps_outside.specs.declared.plan.WritePlan.TheVariants.{Take, Fail}
use Rattle.gps_outside.specs.declared.sink.WriteStep.{WriteStep}
use Rattle.gps_outside.specs.declared.sink.WriteStep.TheVariants.{Wrote, Failed}
use Rattle.gps_outside.specs.Counts.{one_more}
use Rattle.gps_outside.specs.Plans.{first_of}

-- the bytes that the sink holds, the entries of its plan that are left, how many bytes it has room for, and its count
pub record Filled : Type 0 where
  pub written : List ℕ
  pub plan : List WritePlan
  pub room : ℕ
  pub faults : ℕ

-- at most n of the piece's bytes, but one at least, as far as the space goes; a fault if there is none
abbrev pub taken : ℕ → ℕ → ℕ → WriteStep
taken most len zero = Failed
taken most len (suc space) = Wrote (min (max 1 most) (min len (suc space)))

-- what an entry answers to a piece of this length; after the plan, the whole piece
abbrev pub by_entry : Option WritePlan → ℕ → ℕ → WriteStep
by_entry None len space = taken len len space
by_entry (Some (Take most)) len space = taken most len space
by_entry (Some Fail) len space = Failed

abbrev pub answer_of : Filled → ℕ → WriteStep
answer_of sink len = by_entry (first_of sink.plan) len (sink.room - length sink.written)

-- the sink after an answer: one entry of the plan is done, and a fault is counted
abbrev pub filled_after : WriteStep → List ℕ → Filled → Filled
filled_after (Wrote n) piece sink = record sink { written = sink.written ++ take n piece; plan = drop 1 sink.plan }
filled_after Failed piece sink = record sink { plan = drop 1 sink.plan; faults = one_more sink.faults }
