use Rattle.std.proofs.Common.{◌≡◌, length, ◌-◌}
use Rattle.packet_cut.specs.Next.{JunkUpTo}
use Rattle.packet_cut.proofs.next.next_from.Given as goal

abbrev pub invariant-heads : goal.invariant-heads
invariant-heads l = record { junk : JunkUpTo l.bytes l.place l.start; frames : l.frames ≡ l.bytes }

abbrev pub decreases-heads : goal.decreases-heads
decreases-heads l = length l.bytes - l.start
