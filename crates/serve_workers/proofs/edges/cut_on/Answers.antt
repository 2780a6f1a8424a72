use Rattle.std.proofs.Common.{◌∙◌, ap, arith}
use Rattle.gps_lane.specs.Ends.{Putting}
use Rattle.gps_lane.specs.declared.piece.Piece.{Piece}
use Rattle.serve_workers.specs.declared.readers.ReaderStep.TheVariants.{On, Over, Closed}
use Rattle.serve_workers.proofs.LineStepping.{line_rounds_on}
use Rattle.serve_workers.proofs.edges.cut_on.Goals as goal

pub reads-preserved : goal.reads-preserved
reads-preserved g c = record {
  limit = c.in-On.ensures.limit ∙ c.reads.invariant.limit;
  rounds = line_rounds_on On _ _ _ _ _ _ _ _ _ c.reads.invariant.rounds c.in-On.ensures.rounds;
  lane = c.cut_once.ensures.lane ∙ ap (λ (end : Putting Piece). record end { put = c.cut_once.new.pieces.put }) c.reads.invariant.lane;
  from = c.in-On.ensures.from;
  faults = c.in-On.ensures.failed ∙ c.reads.invariant.faults;
  quiets = omega (arith, c.reads.invariant.quiets, c.cut_once.ensures.quiets_stay);
}

pub returns-in-Over-clause-rounds : goal.returns-in-Over-clause-rounds
returns-in-Over-clause-rounds g c = line_rounds_on (Over c.in-Over.ending) _ _ _ _ _ _ _ _ _ c.reads.invariant.rounds c.in-Over.ensures.rounds

pub returns-in-Closed-clause-rounds : goal.returns-in-Closed-clause-rounds
returns-in-Closed-clause-rounds g c = line_rounds_on Closed _ _ _ _ _ _ _ _ _ c.reads.invariant.rounds c.in-Closed.ensures.rounds
