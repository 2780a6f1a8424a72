use Rattle.upstream_laws.proofs.HeadTheorem.{bad_exactly, ends_exactly}
use Rattle.upstream_laws.proofs.laws.heads_end_exactly.Goals as goal

pub returns : goal.returns
returns c = record { ended = ends_exactly; bad = bad_exactly }
