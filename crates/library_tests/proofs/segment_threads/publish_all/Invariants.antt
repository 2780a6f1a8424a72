use Rattle.std.proofs.Common.{◌≡◌}
use Rattle.library_tests.proofs.segment_threads.publish_all.Given as goal

abbrev pub invariant-loop-number : goal.invariant-loop-number
invariant-loop-number l = l.publisher.segment ≡ l.fn.publisher.segment
