use Rattle.packet_cut.proofs.StreamLaws.{packets_few, found_few}
use Rattle.packet_cut.proofs.laws.packets_are_long.Goals as goal

pub returns : goal.returns
returns c = record { packets = packets_few; found = found_few }
