use Rattle.std.proofs.Common.{◌≡◌}
use Rattle.library_tests.proofs.hand_offs.steps.Given as goal

abbrev pub invariant-loop : goal.invariant-loop
invariant-loop l = l.taker.segment ≡ l.fn.taker.segment
