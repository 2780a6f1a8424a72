use Rattle.packet_cut.proofs.Stamps.{packets_found, rest_bytes}
use Rattle.packet_cut.proofs.laws.stamps_change_no_packet.Goals as goal

pub returns : goal.returns
returns c = record { packets = packets_found; rest = rest_bytes }
