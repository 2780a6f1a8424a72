use Rattle.shm_consumer.proofs.Going.{body_seen}
use Rattle.shm_consumer.proofs.taker.Taker.take_body.Goals as goal

pub invariant_of-self : goal.invariant_of-self
invariant_of-self c =
    let made = c.load_body-word.ensures in
    (body_seen _ _ _ _ _ _ _ _ _ _ _ c.self.invariant c.self.view_is c.requires.from c.requires.to c.from.ensures made.word made.seat.0 made.seat.1).0

pub returns-clause-takes : goal.returns-clause-takes
returns-clause-takes c =
    let made = c.load_body-word.ensures in
    (body_seen _ _ _ _ _ _ _ _ _ _ _ c.self.invariant c.self.view_is c.requires.from c.requires.to c.from.ensures made.word made.seat.0 made.seat.1).1
