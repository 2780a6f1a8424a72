use Rattle.std.proofs.Common.{◌≡◌, map, take}
use Rattle.packet_cut.specs.Packets.{placed_packet}
use Rattle.packet_cut.proofs.placed.copies_of.Given as goal

abbrev pub invariant-placed : goal.invariant-placed
invariant-placed l = l.packets.items ≡ map (placed_packet l.bytes) (take l.each-index l.placed)
