use Rattle.std.proofs.Common.{Some}
use Rattle.serve_workers.proofs.Stepping.{handed_last, meets}
use Rattle.serve_workers.proofs.readers.read_session.Goals as goal

pub returns-then-eq-clause-hands : goal.returns-then-eq-clause-hands
returns-then-eq-clause-hands g c = rw c.tell.ensures.puts (handed_last _ _ c.tell.result.told c.read_closed-ending.result _ _ _ c.tell.ensures.told c.read_closed-ending.ensures.took)

pub returns-then-eq-clause-meets : goal.returns-then-eq-clause-meets
returns-then-eq-clause-meets g c =
    meets (Some c.read_closed-ending.result) c.tell.result.told c.tell.result.failed _ _ c.tell.ensures.failed c.tell.ensures.told c.read_closed-ending.ensures.failed
