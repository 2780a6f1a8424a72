use Rattle.std.proofs.Common.{◌≡◌, true}
use Rattle.library_tests.proofs.lanes.put_numbers.Given as goal

abbrev pub invariant-loop-number : goal.invariant-loop-number
invariant-loop-number g l = l.tx.is_open ≡ true

abbrev pub invariant-loop : goal.invariant-loop
invariant-loop g l = (goal.iterator-loop g).can_next l.iterator' × (goal.iterator-loop g).is_finite l.iterator' × (l.tx.is_open ≡ true)
