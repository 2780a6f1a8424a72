use Rattle.std.proofs.Common.{◌≡◌}
use Rattle.library_tests.proofs.segments.stores.Given as goal

abbrev pub invariant-loop : goal.invariant-loop
invariant-loop l = l.publisher.segment ≡ l.fn.publisher.segment
