use Rattle.std.proofs.Common.{sym, subst, [], ◌∷◌, ◌++◌}
use Rattle.gps_lane.specs.Lane.{Begins}
use Rattle.gps_lane.specs.declared.piece.Piece.{Piece}
use Rattle.gps_lane.specs.Held.{AreDue, AreHeld}
use Rattle.serve_workers.proofs.edges.put_line.Goals as goal

pub put-requires-clause-due : goal.put-requires-clause-due
put-requires-clause-due g c =
    subst (λ (piece : Piece). Begins AreDue c.args.pieces.now.about (c.args.pieces.now.put ++ piece ∷ [])) (sym c.in-Ok.ensures) c.requires.due
