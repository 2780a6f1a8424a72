use Rattle.std.proofs.Common.{length}
use Rattle.class_counts.proofs.Feeding.{Feeding}
use Rattle.class_counts.proofs.counting.Count.feed.Given as goal

abbrev pub invariant-cuts : goal.invariant-cuts
invariant-cuts l = Feeding l.initial.self l.self l.piece l.rest

abbrev pub decreases-cuts : goal.decreases-cuts
decreases-cuts l = length l.rest
