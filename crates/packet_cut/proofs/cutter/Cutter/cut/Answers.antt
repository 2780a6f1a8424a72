use Rattle.packet_cut.proofs.CutLaws.{if_ok, cut_gains, cut_few}
use Rattle.packet_cut.proofs.cutter.Cutter.cut.Goals as goal

pub returns-clause-gains : goal.returns-clause-gains
returns-clause-gains c =
    if_ok c.cut_behind.result _ _
    (λ cut is. cut_gains c.args.self.now c.args.at c.args.piece.now cut.packets.items cut.change (rw c.self.view_is at is))
    c.cut_behind.ensures

pub returns-clause-few : goal.returns-clause-few
returns-clause-few c =
    if_ok c.cut_behind.result _ _
    (λ cut is. cut_few c.args.self.now c.args.at c.args.piece.now cut.packets.items cut.change (rw c.self.view_is at is))
    c.cut_behind.ensures
