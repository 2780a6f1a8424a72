use Rattle.std.proofs.Common.{refl}
use Rattle.shm_consumer.proofs.Going.{clashes, reads}
use Rattle.shm_consumer.proofs.taker.Taker.take_count_again.Goals as goal

pub returns-then-before-after-clause-takes : goal.returns-then-before-after-clause-takes
returns-then-before-after-clause-takes c =
    let made = c.load_count_again-after.ensures in
    clashes _ _ _ _ _ _ _ _ _ c.self.invariant c.self.view_is c.requires.at made.seat.0 made.seat.1 made.last c.if-before-after.true

pub invariant_of-self-2 : goal.invariant_of-self-2
invariant_of-self-2 c =
    let made = c.load_count_again-after.ensures in
    (reads _ _ _ _ _ _ _ _ _ c.self.invariant c.self.view_is c.requires.at made.seat.0 made.seat.1 made.last c.if-before-after.false _ refl).0

pub returns-clause-takes : goal.returns-clause-takes
returns-clause-takes c =
    let made = c.load_count_again-after.ensures in
    (reads _ _ _ _ _ _ _ _ _ c.self.invariant c.self.view_is c.requires.at made.seat.0 made.seat.1 made.last c.if-before-after.false _ c.from.ensures).1
