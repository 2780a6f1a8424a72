use Rattle.std.proofs.Common.{◌≡◌}
use Rattle.library_tests.proofs.segments.in_order.Given as goal

abbrev pub invariant-loop-round : goal.invariant-loop-round
invariant-loop-round l =
    (l.publisher.segment ≡ l.fn.publisher.segment) × (l.monitor.segment ≡ l.fn.monitor.segment)
