use Rattle.std.proofs.Common.{◌≡◌}
use Rattle.library_tests.proofs.segments.makes.Given as goal

abbrev pub invariant-loop-word : goal.invariant-loop-word
invariant-loop-word l = l.publisher.segment ≡ l.fn.publisher.segment
