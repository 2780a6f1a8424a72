use Rattle.std.proofs.Common.{take}
use Rattle.idle_client.specs.Timing.{Leaves}
use Rattle.idle_client.proofs.idle_timer.watches_after.Given as goal

abbrev pub invariant-requests : goal.invariant-requests
invariant-requests l = Leaves l.fn.watches (take l.request-index l.requests) l.after
