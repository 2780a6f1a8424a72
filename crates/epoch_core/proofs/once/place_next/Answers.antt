use Rattle.epoch_core.proofs.Places.{placed_push, placed_stays}
use Rattle.epoch_core.proofs.once.place_next.Goals as goal

pub returns-clause-placed : goal.returns-clause-placed
returns-clause-placed g c h =
    placed_stays _ _ _ _ _ _ (c.in_ok-place_long.ensures.placed h) c.requires.apart c.in_ok-insert.ensures.updates

pub returns-clause-next : goal.returns-clause-next
returns-clause-next g c h x e =
    placed_push _ _ x _ _ _ (c.in_ok-place_long.ensures.ok h) c.requires.apart c.in_ok-insert.ensures.updates e
