use Rattle.std.proofs.Common.{◌≡◌}
use Rattle.serve_workers.proofs.puts.put.Given as goal

abbrev pub invariant-loop : goal.invariant-loop
invariant-loop g l =
    (goal.iterator-loop g).can_next l.iterator' × (goal.iterator-loop g).is_finite l.iterator' × (l.next ≡ l.initial.next) × (l.pieces ≡ l.initial.pieces)
