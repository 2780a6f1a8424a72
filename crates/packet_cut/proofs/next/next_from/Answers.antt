use Rattle.std.proofs.Common.{sym}
use Rattle.packet_cut.proofs.Steps.{next_packet}
use Rattle.packet_cut.proofs.next.next_from.Goals as goal

pub returns-in-Packet-clause-next : goal.returns-in-Packet-clause-next
returns-in-Packet-clause-next c = next_packet c.args.bytes.now c.args.place c.heads.start c.in-Packet.len c.in-Packet.kind c.heads.invariant.junk (sym c.in-Packet.ensures.head)
