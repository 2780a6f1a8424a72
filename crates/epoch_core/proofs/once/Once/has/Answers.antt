use Rattle.epoch_core.proofs.Places.{any_key}
use Rattle.epoch_core.proofs.once.Once.has.Goals as goal

pub returns-then-len-le-FEW : goal.returns-then-len-le-FEW
returns-then-len-le-FEW g c =
    any_key g.T.Keyed.key _ _ _ _ _ _ c.is_among.ensures c.as_slice.ensures.value c.self.invariant.1 c.self.view_is
