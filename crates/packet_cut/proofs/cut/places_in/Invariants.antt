use Rattle.std.proofs.Common.{◌≡◌, length, map, ◌-◌}
use Rattle.packet_cut.specs.Packets.{placed_packet}
use Rattle.packet_cut.specs.Standing.{stream_of}
use Rattle.packet_cut.proofs.Steps.{CutUpTo}
use Rattle.packet_cut.proofs.cut.places_in.Given as goal

abbrev pub invariant-packets : goal.invariant-packets
invariant-packets l = record {
  cut : CutUpTo (stream_of l.kept l.at l.bytes) (map (placed_packet l.bytes) l.placed.items) l.place;
  frames : l.frames ≡ l.bytes;
}

abbrev pub decreases-packets : goal.decreases-packets
decreases-packets l = length l.bytes - l.place
