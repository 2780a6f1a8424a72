use Rattle.std.proofs.Common.{◌+◌}
use Rattle.shm_monitor.specs.MonitorView.{HasLoaded}
use Rattle.shm_monitor.proofs.monitor.Monitor.try_read.Given as goal

abbrev pub invariant-loop : goal.invariant-loop
invariant-loop l = HasLoaded l.fn.self l.self (l.counter + 2)
