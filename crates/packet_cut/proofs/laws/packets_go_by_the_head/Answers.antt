use Rattle.packet_cut.proofs.Rule.{after_packet, rest_after_packet, while_pending, after_junk}
use Rattle.packet_cut.proofs.laws.packets_go_by_the_head.Goals as goal

pub returns : goal.returns
returns c = record { packet = after_packet; behind = rest_after_packet; pending = while_pending; junk = after_junk }
