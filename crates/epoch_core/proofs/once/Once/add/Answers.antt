use Rattle.std.proofs.Common.{[], ◌∷◌, ◌++◌, ap, ◌∙◌}
use Rattle.epoch_core.proofs.Places.{once_more, keys_more, missed, next_place}
use Rattle.epoch_core.proofs.once.Once.add.Goals as goal

pub invariant_of-self-2 : goal.invariant_of-self-2
invariant_of-self-2 g c = (
  once_more _ _ _ c.args.item.now _ _ c.self.invariant.0
      (missed _ _ _ _ _ _ c.self.view_is c.has.ensures c.if-has.false c.key-key.ensures)
      (next_place _ _ _ _ _ _ c.in_ok-place_next.ensures.next c.as_slice.ensures.value c.key-key.ensures) (c.push_reserved.ensures.items ∙ ap (λ v. v ++ c.args.item.now ∷ []) c.reserve-2.ensures.items),
  keys_more _ _ _ c.args.item.now _ _ _ c.self.invariant.1 (c.push_reserved.ensures.items ∙ ap (λ v. v ++ c.args.item.now ∷ []) c.reserve-2.ensures.items) (c.push_reserved-2.ensures.items ∙ ap (λ v. v ++ c.key-key.result ∷ []) c.reserve.ensures.items) c.key-key.ensures,
)
