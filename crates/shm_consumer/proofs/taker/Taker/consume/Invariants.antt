use Rattle.std.proofs.Common.{◌+◌}
use Rattle.shm_consumer.specs.Taking.{HasLoaded}
use Rattle.shm_consumer.proofs.taker.Taker.consume.Given as goal

abbrev pub invariant-loop : goal.invariant-loop
invariant-loop l = HasLoaded l.fn.self l.self (l.counter + 2)
