use Rattle.gps_outside.proofs.Dials.{gives_at}
use Rattle.gps_outside.proofs.memory_clock.MemoryClockClock.now.Goals as goal

pub returns-in-Some-clause-gives : goal.returns-in-Some-clause-gives
returns-in-Some-clause-gives c = let found = rw c.deref.ensures.value at c.in-Some.ensures.lookup in rw (← c.self.view_is) (gives_at _ _ _ _ found.3.0 found.1)
