use Rattle.std.proofs.Common.{◌≡◌, ◌≤◌}
use Rattle.serve_workers.specs.declared.readers.ReaderStep.TheVariants.{On}
use Rattle.serve_workers.specs.Readings.{ReaderSteps}
use Rattle.serve_workers.specs.Sourced.{FromSource}
use Rattle.serve_workers.specs.Stamping.{StampsPieces}
use Rattle.serve_workers.proofs.readers.read_on.Given as goal

abbrev pub invariant-reads : goal.invariant-reads
invariant-reads g l = record {
  rounds : ReaderSteps g.M.Maker.part g.M.Maker.good On l.initial.pieces.put l.pieces.put (g.S.Source.content l.initial.source) (g.S.Source.content l.source);
  stamps : StampsPieces 0 (g.M.Maker.share l.initial.maker) (g.M.Maker.share l.maker) l.initial.pieces.put l.pieces.put;
  lane : l.pieces ≡ record l.initial.pieces { put = l.pieces.put };
  from : FromSource g.M.Maker.part g.M.Maker.good l.pieces.about.source l.pieces.put (g.S.Source.content l.source);
  faults : g.S.Source.faults l.source ≡ g.S.Source.faults l.initial.source;
  quiets : g.S.Source.quiets l.initial.source ≤ g.S.Source.quiets l.source;
}
