use Rattle.epoch_core.proofs.Added.{added_next}
use Rattle.epoch_core.proofs.once.Once.add_all.Goals as goal

pub loop-item-preserved : goal.loop-item-preserved
loop-item-preserved g c =
    added_next _ _ _ _ _ _ _ c.loop-item.invariant c.loop-item-test.true c.item-item.is c.in-Ok.ensures.ok
