use Rattle.serve_workers.proofs.Sourcing.{same_begins}
use Rattle.serve_workers.proofs.puts.put.Goals as goal

pub push-requires-clause-due : goal.push-requires-clause-due
push-requires-clause-due g c = same_begins _ _ _ _ c.loop.invariant.3 c.loop.invariant.2 c.requires.due
