use Rattle.std.proofs.Common.{◌≡◌, ◌≤◌, []}
use Rattle.serve_workers.specs.declared.readers.ReaderStep.TheVariants.{On}
use Rattle.gps_lane.specs.EdgeLines.{edge_limit}
use Rattle.serve_workers.specs.EdgeLines.{EdgeLineSteps}
use Rattle.serve_workers.specs.Sourced.{CutterFrom}
use Rattle.serve_workers.proofs.edges.cut_on.Given as goal

abbrev pub invariant-reads : goal.invariant-reads
invariant-reads g l = record {
  limit : l.cutter.limit ≡ edge_limit;
  rounds : EdgeLineSteps On [] l.cutter l.initial.pieces.put l.pieces.put (g.S.Source.content l.initial.source) (g.S.Source.content l.source);
  lane : l.pieces ≡ record l.initial.pieces { put = l.pieces.put };
  from : CutterFrom l.pieces.about.source l.pieces.put l.cutter (g.S.Source.content l.source);
  faults : g.S.Source.faults l.source ≡ g.S.Source.faults l.initial.source;
  quiets : g.S.Source.quiets l.initial.source ≤ g.S.Source.quiets l.source;
}
