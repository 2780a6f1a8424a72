use Rattle.serve_workers.proofs.Sourcing.{device_carries}
use Rattle.serve_workers.proofs.maker.StampedMaker.piece.Goals as goal

pub returns-clause-carries : goal.returns-clause-carries
returns-clause-carries g c = device_carries g.D.Dials.may
