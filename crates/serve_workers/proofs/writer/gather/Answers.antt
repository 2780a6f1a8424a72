use Rattle.std.proofs.Common.{rules}
use Rattle.serve_workers.proofs.Rounds.{gathered_more, gathered_over}
use Rattle.serve_workers.proofs.writer.gather.Goals as goal

pub returns-then-capacity-len-clause-gathers : goal.returns-then-capacity-len-clause-gathers
returns-then-capacity-len-clause-gathers g c = rw c.in-Some-pop.ensures (gathered_over _ _ _ _ c.in-Some-pop.item c.items.invariant.gathers)

pub returns-in-Err-clause-gathers : goal.returns-in-Err-clause-gathers
returns-in-Err-clause-gathers g c =
    rw (c.in-Some-pop.ensures, c.in-Err.ensures.items) (gathered_over _ _ _ _ c.in-Some-pop.item c.items.invariant.gathers)

pub items-preserved : goal.items-preserved
items-preserved g c = record {
  gathers = rw (c.in-Some-pop.ensures, c.in-Ok.ensures.items, c.bytes-in-items.ensures) (gathered_more _ _ _ _ c.in-Some-pop.item c.items.invariant.gathers);
  lane = search rules;
}
