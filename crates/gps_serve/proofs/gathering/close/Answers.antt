use Rattle.std.proofs.Common.{refl}
use Rattle.gps_serve.proofs.gathering.close.Goals as goal

pub returns-in-Over-clause-closed : goal.returns-in-Over-clause-closed
returns-in-Over-clause-closed g c = c.in-Over.ensures.closed refl

pub returns-in-Over-clause-stopped : goal.returns-in-Over-clause-stopped
returns-in-Over-clause-stopped g c = c.in-Over.ensures.stopped refl
