use Rattle.gps_outside.proofs.Streams.{passes_copied}
use Rattle.gps_replay.proofs.held.HeldScriptSource.read.Goals as goal

pub returns-clause-bytes : goal.returns-clause-bytes
returns-clause-bytes c = rw (← c.self.view_is) (passes_copied _ _ _ _ _ c.copy_from_slice.ensures.len (rw c.as_slice.ensures at c.copy_from_slice.ensures.after))
