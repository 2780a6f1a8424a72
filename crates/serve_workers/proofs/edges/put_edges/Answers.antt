use Rattle.std.proofs.Common.{Some, refl}
use Rattle.gps_lane.specs.declared.piece.Ending.TheVariants.{NoMemory}
use Rattle.serve_workers.proofs.LineStepping.{handed_lines_by, lines_refused}
use Rattle.serve_workers.proofs.Stepping.{meets}
use Rattle.serve_workers.proofs.edges.put_edges.Goals as goal

pub returns-clause-hands : goal.returns-clause-hands
returns-clause-hands g c =
    rw c.tell-2.ensures.puts (handed_lines_by c.cut_all-met.result c.tell-2.result.told _ _ _ _ c.tell-2.ensures.told c.cut_all-met.ensures.cuts)

pub returns-clause-meets : goal.returns-clause-meets
returns-clause-meets g c = meets c.cut_all-met.result c.tell-2.result.told c.tell-2.result.failed _ _ c.tell-2.ensures.failed c.tell-2.ensures.told c.cut_all-met.ensures.failed

pub returns-then-eq-clause-hands : goal.returns-then-eq-clause-hands
returns-then-eq-clause-hands g c = rw c.tell.ensures.puts (lines_refused c.tell.result.told _ _ c.tell.ensures.told)

pub returns-then-eq-clause-meets : goal.returns-then-eq-clause-meets
returns-then-eq-clause-meets g c = meets (Some NoMemory) c.tell.result.told c.tell.result.failed _ _ c.tell.ensures.failed c.tell.ensures.told refl
