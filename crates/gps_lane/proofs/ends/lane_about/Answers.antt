use Rattle.std.proofs.Common.{rules}
use Rattle.gps_lane.proofs.Moves.{begins, parts}
use Rattle.gps_lane.proofs.ends.lane_about.Goals as goal

pub ruled-requires-clause-rule : goal.ruled-requires-clause-rule
ruled-requires-clause-rule g c = begins g.T.Due.due

pub another-theirs-requires-clause-rule : goal.another-theirs-requires-clause-rule
another-theirs-requires-clause-rule g c = parts g.T.Due.due _ _ _ (search rules)
