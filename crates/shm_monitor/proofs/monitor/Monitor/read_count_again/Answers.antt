use Rattle.std.proofs.Common.{refl, arith}
use Rattle.shm_monitor.proofs.Going.{clashes, takes}
use Rattle.shm_monitor.proofs.monitor.Monitor.read_count_again.Goals as goal

pub returns-then-before-after : goal.returns-then-before-after
returns-then-before-after c =
    let made = c.load_count_again-after.ensures in
    let differ = c.if-before-after.true in
    clashes _ _ _ _ _ _ _ _ _ _ _ c.self.invariant c.self.view_is c.requires.at made.seat.0 made.seat.1 made.last (λ same. omega (arith, same, differ))

pub of_body-requires : goal.of_body-requires
of_body-requires c =
    let made = c.load_count_again-after.ensures in
    (takes _ _ _ _ _ _ _ _ _ _ _ c.self.invariant c.self.view_is c.requires.at made.seat.0 made.seat.1 made.last c.if-before-after.false _ refl).0

pub invariant_of-self-2 : goal.invariant_of-self-2
invariant_of-self-2 c =
    let made = c.load_count_again-after.ensures in
    (takes _ _ _ _ _ _ _ _ _ _ _ c.self.invariant c.self.view_is c.requires.at made.seat.0 made.seat.1 made.last c.if-before-after.false _ c.of_body.ensures).1

pub returns : goal.returns
returns c =
    let made = c.load_count_again-after.ensures in
    (takes _ _ _ _ _ _ _ _ _ _ _ c.self.invariant c.self.view_is c.requires.at made.seat.0 made.seat.1 made.last c.if-before-after.false _ c.of_body.ensures).2
