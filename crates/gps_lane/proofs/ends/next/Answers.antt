use Rattle.std.proofs.Common.{ap}
use Rattle.gps_lane.proofs.Moves.{forks, merges, gets, holds_rest, still_gets}
use Rattle.gps_lane.proofs.ends.next.Goals as goal

pub another-lent-requires-clause-rule : goal.another-lent-requires-clause-rule
another-lent-requires-clause-rule g c = forks g.T.Due.due _ _ (ap (λ v. v.gets) c.requires.gets)

pub absorb-requires-clause-rule : goal.absorb-requires-clause-rule
absorb-requires-clause-rule g c = merges g.T.Due.due _ _ _ _ (ap (λ v. v.gets) c.another-lent.ensures.rule.1)

pub pop_as-item-requires-clause-rule : goal.pop_as-item-requires-clause-rule
pop_as-item-requires-clause-rule g c = let may = ap (λ v. v.gets) c.absorb.ensures.rule in (gets g.T.Due.due _ _ may, holds_rest g.T.Due.due _ _ may)

pub another-back-requires-clause-rule : goal.another-back-requires-clause-rule
another-back-requires-clause-rule g c = forks g.T.Due.due _ _ (still_gets g.T.Due.due _ _ _ c.pop_as-item.ensures.rule (ap (λ v. v.gets) c.absorb.ensures.rule))

pub absorb-requires-2-clause-rule : goal.absorb-requires-2-clause-rule
absorb-requires-2-clause-rule g c = merges g.T.Due.due _ _ _ _ (ap (λ v. v.gets) c.another-back.ensures.rule.1)
