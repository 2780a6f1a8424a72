use Rattle.serve_workers.proofs.Sourcing.{input_carries}
use Rattle.serve_workers.proofs.maker.RequestsMaker.piece.Goals as goal

pub returns-clause-carries : goal.returns-clause-carries
returns-clause-carries g c = input_carries
