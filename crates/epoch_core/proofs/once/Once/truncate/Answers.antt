use Rattle.epoch_core.proofs.Places.{once_front, keys_front}
use Rattle.epoch_core.proofs.once.Once.truncate.Goals as goal

pub invariant_of-self : goal.invariant_of-self
invariant_of-self g c = (
  once_front _ _ _ _ _ c.self.invariant.0 c.truncate.ensures.items,
  keys_front _ _ _ _ _ _ c.self.invariant.1 c.truncate.ensures.items c.truncate-2.ensures.items,
)
