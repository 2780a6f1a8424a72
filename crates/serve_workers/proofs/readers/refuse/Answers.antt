use Rattle.std.proofs.Common.{Some}
use Rattle.gps_lane.specs.declared.piece.Ending.TheVariants.{NoMemory}
use Rattle.serve_workers.proofs.Stepping.{meets, refused}
use Rattle.serve_workers.proofs.readers.refuse.Goals as goal

pub returns-clause-hands : goal.returns-clause-hands
returns-clause-hands g c = rw c.tell.ensures.puts (refused _ _ c.tell.result.told _ _ _ c.finish.ensures.content c.tell.ensures.told)

pub returns-clause-meets : goal.returns-clause-meets
returns-clause-meets g c = meets (Some NoMemory) c.tell.result.told c.tell.result.failed _ _ c.tell.ensures.failed c.tell.ensures.told c.finish.ensures.faults
