use Rattle.std.proofs.Common.{◌≡◌}
use Rattle.library_tests.proofs.segments.loads.Given as goal

abbrev pub invariant-loop : goal.invariant-loop
invariant-loop l = l.monitor.segment ≡ l.fn.monitor.segment
