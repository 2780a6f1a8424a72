-- Each arm makes the store that its phase says.
use Rattle.std.proofs.Common.{◌+◌, refl}
use Rattle.shm_segment.specs.declared.publisher.Phase.TheVariants.{ToInvalid, ToOdd, ToBody, ToEven, ToValid}
use Rattle.shm_segment.proofs.Stepping.{was, steps_invalid, steps_odd, steps_body, steps_even, steps_valid}
use Rattle.shm_consumer.proofs.Stepping.{as_giver}
use Rattle.shm_consumer.proofs.giver.Giver.step.Goals as goal

pub returns-in-ToInvalid-clause-steps : goal.returns-in-ToInvalid-clause-steps
returns-in-ToInvalid-clause-steps c =
    let made = c.store_invalid-stored.ensures in
    (as_giver _ _ _ _ _ _ _ _ _ _ made.part.1 (steps_invalid _ _ _ _ _ _ _ _ (was _ _ _ _ _ _ ToInvalid _ c.in-ToInvalid.is c.self.invariant.keeps c.self.view_is made.part.0) refl made.answer)).1

pub returns-in-ToOdd-clause-steps : goal.returns-in-ToOdd-clause-steps
returns-in-ToOdd-clause-steps c =
    let made = c.store_odd-stored.ensures in
    (as_giver _ _ _ _ _ _ _ _ _ _ made.part.1 (steps_odd _ _ _ _ _ _ _ _ (was _ _ _ _ _ _ ToOdd _ c.in-ToOdd.is c.self.invariant.keeps c.self.view_is made.part.0) refl made.answer)).1

pub returns-in-ToEven-clause-steps : goal.returns-in-ToEven-clause-steps
returns-in-ToEven-clause-steps c =
    let made = c.store_even-stored.ensures in
    (as_giver _ _ _ _ _ _ _ _ _ _ made.part.1 (steps_even _ _ _ _ _ _ _ _ (was _ _ _ _ _ _ ToEven _ c.in-ToEven.is c.self.invariant.keeps c.self.view_is made.part.0) refl made.answer)).1

pub returns-in-ToBody-clause-steps : goal.returns-in-ToBody-clause-steps
returns-in-ToBody-clause-steps c =
    let made = c.store_body-stored.ensures in
    (as_giver _ _ _ _ _ _ _ _ _ _ made.part.1 (steps_body _ _ _ _ _ _ _ _ c.in-ToBody.place _ (was _ _ _ _ _ _ (ToBody c.in-ToBody.place) _ c.in-ToBody.is c.self.invariant.keeps c.self.view_is made.part.0) c.after_body-self-inside.ensures refl made.answer)).1

pub returns-in-ToValid-clause-steps : goal.returns-in-ToValid-clause-steps
returns-in-ToValid-clause-steps c =
    let made = c.store_valid-stored.ensures in
    (as_giver _ _ _ _ _ _ _ _ _ _ made.part.1 (steps_valid _ _ _ _ _ _ _ _ (c.self.inside.number + 1) (was _ _ _ _ _ _ ToValid _ c.in-ToValid.is c.self.invariant.keeps c.self.view_is made.part.0) refl refl made.answer)).1
