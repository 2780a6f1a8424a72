use Rattle.std.proofs.Common.{◌≡◌}
use Rattle.library_tests.proofs.hand_offs.stores.Given as goal

abbrev pub invariant-loop : goal.invariant-loop
invariant-loop l = l.giver.segment ≡ l.fn.giver.segment
