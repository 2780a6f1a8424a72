use Rattle.std.proofs.Common.{◌≡◌, length, ◌-◌}
use Rattle.packet_cut.proofs.Steps.{FoundUpTo}
use Rattle.packet_cut.proofs.found.cut_all.Given as goal

abbrev pub invariant-packets : goal.invariant-packets
invariant-packets l = record { found : FoundUpTo l.bytes l.found.items l.place; frames : l.frames ≡ l.bytes }

abbrev pub decreases-packets : goal.decreases-packets
decreases-packets l = length l.bytes - l.place
