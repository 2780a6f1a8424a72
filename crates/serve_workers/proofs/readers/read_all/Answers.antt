use Rattle.std.proofs.Common.{ap}
use Rattle.gps_lane.specs.Ends.{Putting}
use Rattle.gps_lane.specs.declared.piece.Piece.{Piece}
use Rattle.serve_workers.proofs.Stamping.{stamped_last}
use Rattle.serve_workers.proofs.Stepping.{handed_by, meets}
use Rattle.serve_workers.proofs.readers.read_all.Goals as goal

pub returns-clause-hands : goal.returns-clause-hands
returns-clause-hands g c =
    rw c.tell.ensures.puts (handed_by _ _ c.read_and_close-met.result c.tell.result.told _ _ _ _ c.tell.ensures.told c.read_and_close-met.ensures.rounds)

pub returns-clause-meets : goal.returns-clause-meets
returns-clause-meets g c =
    meets c.read_and_close-met.result c.tell.result.told c.tell.result.failed _ _ c.tell.ensures.failed c.tell.ensures.told c.read_and_close-met.ensures.failed

pub returns-clause-stamps : goal.returns-clause-stamps
returns-clause-stamps g c =
    stamped_last _ c.tell.result.told _ _ _ _ _ (ap (λ (tx : Putting Piece). tx.put) c.tell.ensures.puts) c.read_and_close-met.ensures.stamps
