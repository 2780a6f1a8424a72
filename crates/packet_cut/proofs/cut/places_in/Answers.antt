use Rattle.std.proofs.Common.{map, take, drop, refl}
use Rattle.std.proofs.lemmas.List.{map-append}
use Rattle.packet_cut.specs.Packets.{placed_packet}
use Rattle.packet_cut.proofs.Steps.{packets_more, packets_end}
use Rattle.packet_cut.proofs.cut.places_in.Goals as goal

pub packets-preserved : goal.packets-preserved
packets-preserved c =
    let bytes = c.args.bytes.now in
    record {
      cut = rw (c.in_ok-push-in-Packet.ensures.items, map-append (placed_packet bytes) c.packets.placed.items _, c.stamp_at.ensures)
          (packets_more c.args.kept.now c.args.at bytes (map (placed_packet bytes) c.packets.placed.items) c.packets.place c.in-Packet.found
          (take c.in-Packet.found.len (drop c.in-Packet.found.start bytes)) c.requires c.packets.invariant.cut c.in-Packet.ensures.next refl);
      frames = c.next_from.ensures.frames;
    }

pub returns-in-Rest : goal.returns-in-Rest
returns-in-Rest c =
    packets_end c.args.kept.now c.args.at c.args.bytes.now (map (placed_packet c.args.bytes.now) c.packets.placed.items) c.packets.place c.in-Rest.rest
    c.requires c.packets.invariant.cut c.in-Rest.ensures.next
