use Rattle.shm_segment.proofs.Stepping.{spent, begins_free}
use Rattle.shm_consumer.proofs.giver.Giver.begin.Goals as goal

pub returns-then-self-eq-GREATEST-clause-begins : goal.returns-then-self-eq-GREATEST-clause-begins
returns-then-self-eq-GREATEST-clause-begins c =
    let keeps = c.self.invariant.keeps in
    spent _ _ _ c.self.view_is keeps.keeps keeps.numbers c.in-Idle.is c.if-self-eq-GREATEST.true

pub returns-else-self-eq-GREATEST-clause-begins : goal.returns-else-self-eq-GREATEST-clause-begins
returns-else-self-eq-GREATEST-clause-begins c =
    let keeps = c.self.invariant.keeps in
    begins_free _ _ _ _ c.self.view_is keeps.keeps keeps.numbers c.in-Idle.is c.if-self-eq-GREATEST.false
