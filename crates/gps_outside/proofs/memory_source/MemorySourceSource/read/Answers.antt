use Rattle.gps_outside.proofs.Streams.{taken_on, passes_copied}
use Rattle.gps_outside.proofs.memory_source.MemorySourceSource.read.Goals as goal

pub returns-in-Got-clause-bytes : goal.returns-in-Got-clause-bytes
returns-in-Got-clause-bytes c = rw (← c.self.view_is) (passes_copied _ _ _ _ _ c.copy_from_slice.ensures.len (rw c.deref.ensures.value at c.copy_from_slice.ensures.after))

pub returns-in-Got-clause-after : goal.returns-in-Got-clause-after
returns-in-Got-clause-after c = rw (taken_on c.in-Got.n c.self.inside.at c.self.inside.held.items, ← c.self.view_is, c.next_entry.ensures.rest)
