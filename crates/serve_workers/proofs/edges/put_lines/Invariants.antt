use Rattle.std.proofs.Common.{◌≡◌, ℕ, List, length}
use Rattle.line_cut.specs.Standing.{StandsFor}
use Rattle.serve_workers.proofs.Cutting.{Cuts}
use Rattle.serve_workers.proofs.edges.put_lines.Given as goal

abbrev pub invariant-cuts : goal.invariant-cuts
invariant-cuts g l = record {
  limit : l.cutter.limit ≡ l.initial.cutter.limit;
  cuts : (bytes : List ℕ) → StandsFor l.initial.cutter bytes → Cuts bytes l.piece l.rest l.cutter l.initial.pieces.put l.pieces.put;
  lane : l.pieces ≡ record l.initial.pieces { put = l.pieces.put };
}

abbrev pub decreases-cuts : goal.decreases-cuts
decreases-cuts g l = length l.rest
