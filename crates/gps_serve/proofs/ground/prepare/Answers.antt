use Rattle.gps_serve.proofs.Starting.{nothing_got}
use Rattle.gps_serve.proofs.ground.prepare.Goals as goal

pub returns-clause-nothing : goal.returns-clause-nothing
returns-clause-nothing g c = nothing_got _ _ _ c.in_ok-lanes.ensures.fresh
