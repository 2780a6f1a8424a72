use Rattle.std.proofs.Common.{subst}
use Rattle.gps_lane.specs.Ends.{Putting}
use Rattle.gps_fixed.specs.Lists.{IsPrefix}
use Rattle.gps_lane.specs.declared.piece.Piece.{Piece}
use Rattle.hub_promise.proofs.Settling.{gets_one}
use Rattle.gps_hub.proofs.settling.drop_piece.Goals as goal

pub returns-clause-input : goal.returns-clause-input
returns-clause-input g c =
    gets_one c.args.pieces.now.put c.args.input.now c.settle_or_close.new.rx c.settle_or_close.result c.requires.once c.settle_or_close.ensures.rx
    (subst (λ (t : Putting Piece). IsPrefix c.settle_or_close.new.rx.got t.put) c.settle_or_close.ensures.tx c.settle_or_close.ensures.prefix)
