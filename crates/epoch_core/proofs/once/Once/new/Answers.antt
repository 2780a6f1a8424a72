use Rattle.epoch_core.proofs.Places.{once_nothing, keys_nothing}
use Rattle.epoch_core.proofs.once.Once.new.Goals as goal

pub invariant_of-result : goal.invariant_of-result
invariant_of-result g c = (once_nothing _ _ _ c.new.ensures.items, keys_nothing _ _ _ c.new.ensures.items c.new-2.ensures.items)
