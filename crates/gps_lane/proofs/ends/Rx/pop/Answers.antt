use Rattle.std.proofs.Common.{ap}
use Rattle.gps_lane.proofs.Moves.{gets, holds_rest}
use Rattle.gps_lane.proofs.ends.Rx.pop.Goals as goal

pub pop_as-requires-clause-rule : goal.pop_as-requires-clause-rule
pop_as-requires-clause-rule g c = let may = ap (λ v. v.gets) c.self.invariant.0 in (gets g.T.Due.due _ _ may, holds_rest g.T.Due.due _ _ may)
