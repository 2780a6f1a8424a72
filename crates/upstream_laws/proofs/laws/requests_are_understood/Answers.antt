use Rattle.upstream_laws.proofs.Asked.{understood}
use Rattle.upstream_laws.proofs.laws.requests_are_understood.Goals as goal

pub returns : goal.returns
returns c = understood
