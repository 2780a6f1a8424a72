use Rattle.std.proofs.Common.{◌≡◌}
use Rattle.library_tests.proofs.hand_offs.in_order.Given as goal

abbrev pub invariant-loop-round : goal.invariant-loop-round
invariant-loop-round l = (l.giver.segment ≡ l.fn.giver.segment) × (l.taker.segment ≡ l.fn.taker.segment)

abbrev pub invariant-loop-consumption : goal.invariant-loop-consumption
invariant-loop-consumption l = l.taker.segment ≡ l.fn.taker.segment
