use Rattle.std.proofs.Common.{refl, arith}
use Rattle.serve_workers.proofs.Stamping.{none_stamped, stamped_on}
use Rattle.serve_workers.proofs.Stepping.{no_step, rounds_on}
use Rattle.serve_workers.proofs.readers.read_on.Goals as goal

pub reads-init : goal.reads-init
reads-init g c = record { rounds = no_step _ _ _ _; stamps = none_stamped _ _ _; lane = refl; from = c.requires.from; faults = refl; quiets = omega arith }

pub returns-in-Over-clause-rounds : goal.returns-in-Over-clause-rounds
returns-in-Over-clause-rounds g c = rounds_on _ _ _ _ _ _ _ _ _ c.reads.invariant.rounds c.in-Over.ensures.rounds

pub returns-in-Closed-clause-rounds : goal.returns-in-Closed-clause-rounds
returns-in-Closed-clause-rounds g c = rounds_on _ _ _ _ _ _ _ _ _ c.reads.invariant.rounds c.in-Closed.ensures.rounds

pub returns-in-Over-clause-stamps : goal.returns-in-Over-clause-stamps
returns-in-Over-clause-stamps g c = stamped_on _ _ _ _ _ _ _ c.reads.invariant.stamps c.in-Over.ensures.stamps

pub returns-in-Closed-clause-stamps : goal.returns-in-Closed-clause-stamps
returns-in-Closed-clause-stamps g c = stamped_on _ _ _ _ _ _ _ c.reads.invariant.stamps c.in-Closed.ensures.stamps
