use Rattle.std.proofs.Common.{arith, refl}
use Rattle.book_units.proofs.Orders.{first_and_rest, begins_and_stores}
use Rattle.book_units.proofs.unit.Unit.publish_step.Goals as goal

pub returns-in-Begun-clause-steps : goal.returns-in-Begun-clause-steps
returns-in-Begun-clause-steps c =
    let begun = c.in-Begun.ensures.begins in
    let some = c.in-Some.ensures.variant.0 refl in
    let waits = first_and_rest _ _ _ (omega (arith, some, c.self.inside.waiting.ok.0)) c.in-Some.ensures.lookup c.pop_front.ensures.rest in
    begins_and_stores _ _ _ _ _ _ _ _ _ _ _ c.self.view_is begun.0 begun.1 begun.2 waits c.store-in-Begun.ensures.stores
