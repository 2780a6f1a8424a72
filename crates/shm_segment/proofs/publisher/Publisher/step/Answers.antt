-- Each arm makes the store that its phase says.
use Rattle.std.proofs.Common.{◌+◌, refl, ap, ◌∙◌}
use Rattle.shm_segment.specs.declared.publisher.Phase.TheVariants.{ToInvalid, ToOdd, ToBody, ToEven, ToValid}
use Rattle.shm_segment.specs.Publishing.{next_of}
use Rattle.shm_segment.proofs.Stepping.{was, steps_invalid, steps_odd, steps_body, steps_even, steps_valid}
use Rattle.shm_segment.proofs.publisher.Publisher.step.Goals as goal

pub returns-in-ToInvalid-clause-steps : goal.returns-in-ToInvalid-clause-steps
returns-in-ToInvalid-clause-steps c =
    let made = c.store_invalid-stored.ensures in
    (steps_invalid _ _ _ _ _ _ _ _ (was _ _ _ _ _ _ ToInvalid _ c.in-ToInvalid.is c.self.invariant c.self.view_is made.part.0) made.part.1 made.answer).1

pub returns-in-ToOdd-clause-steps : goal.returns-in-ToOdd-clause-steps
returns-in-ToOdd-clause-steps c =
    let made = c.store_odd-stored.ensures in
    (steps_odd _ _ _ _ _ _ _ _ (was _ _ _ _ _ _ ToOdd _ c.in-ToOdd.is c.self.invariant c.self.view_is made.part.0) made.part.1 made.answer).1

pub returns-in-ToEven-clause-steps : goal.returns-in-ToEven-clause-steps
returns-in-ToEven-clause-steps c =
    let made = c.store_even-stored.ensures in
    (steps_even _ _ _ _ _ _ _ _ (was _ _ _ _ _ _ ToEven _ c.in-ToEven.is c.self.invariant c.self.view_is made.part.0) made.part.1 made.answer).1

pub returns-in-ToBody-clause-steps : goal.returns-in-ToBody-clause-steps
returns-in-ToBody-clause-steps c =
    let made = c.store_body-stored.ensures in
    let next = c.next-self-inside.ensures ∙ ap next_of c.in-ToBody.is in
    (steps_body _ _ _ _ _ _ _ _ c.in-ToBody.place _ (was _ _ _ _ _ _ (ToBody c.in-ToBody.place) _ c.in-ToBody.is c.self.invariant c.self.view_is made.part.0) next made.part.1 made.answer).1

pub returns-in-ToValid-clause-steps : goal.returns-in-ToValid-clause-steps
returns-in-ToValid-clause-steps c =
    let made = c.store_valid-stored.ensures in
    (steps_valid _ _ _ _ _ _ _ _ (c.self.inside.number + 1) (was _ _ _ _ _ _ ToValid _ c.in-ToValid.is c.self.invariant c.self.view_is made.part.0) refl made.part.1 made.answer).1
