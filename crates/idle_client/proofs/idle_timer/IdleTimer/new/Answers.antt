use Rattle.std.proofs.Common.{false, refl}
use Rattle.std.specs.Duration.{as_nanos}
use Rattle.idle_client.proofs.Steps.{fresh}
use Rattle.idle_client.proofs.idle_timer.IdleTimer.new.Goals as goal

pub returns : goal.returns
returns c =
    fresh (record { cutter = c.new.result; watches = false; asked = false; since = as_nanos c.args.now; missed = false })
    (as_nanos c.args.now) c.new.ensures refl refl refl refl
