use Rattle.serve_end.proofs.Endings.{settled}
use Rattle.serve_end.proofs.reader.settle_lane.Goals as goal

pub returns-clause-rx : goal.returns-clause-rx
returns-clause-rx g c =
    settled c.args.tx.now c.settle.new.tx c.args.rx.now c.settle.new.rx c.settle.result c.settle.ensures.tx c.settle.ensures.rx c.requires c.settle.ensures.prefix c.settle.ensures.all
