use Rattle.gps_decode.proofs.HandingOn.{flushed, flushed_part}
use Rattle.gps_decode.proofs.decoding.hand_on_last.Goals as goal

pub returns-then-flush-clause-lines : goal.returns-then-flush-clause-lines
returns-then-flush-clause-lines g c stream stands = flushed _ stream _ _ _ _ _ _ _ (c.in-Ok.ensures.lines stream stands) c.if-flush.ensures.bytes

pub returns-else-flush-clause-lines : goal.returns-else-flush-clause-lines
returns-else-flush-clause-lines g c stream stands = flushed_part _ stream _ _ _ _ _ _ _ (c.in-Ok.ensures.lines stream stands) c.if-flush.ensures.bytes
