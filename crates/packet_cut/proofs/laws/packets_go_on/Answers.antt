use Rattle.packet_cut.proofs.StreamLaws.{packets_gain, rest_gain, found_gain}
use Rattle.packet_cut.proofs.laws.packets_go_on.Goals as goal

pub returns : goal.returns
returns c = record { packets = packets_gain; rest = rest_gain; found = found_gain }
