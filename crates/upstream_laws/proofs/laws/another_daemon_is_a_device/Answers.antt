use Rattle.upstream_laws.proofs.Crossing.{carried_are_its_packets, first_reports_come_across, packets_come_across, reports_come_across}
use Rattle.upstream_laws.proofs.Neat.{replies_are_head}
use Rattle.upstream_laws.proofs.Watched.{alone}
use Rattle.upstream_laws.proofs.laws.another_daemon_is_a_device.Goals as goal

pub returns : goal.returns
returns c = record {
  head = replies_are_head;
  packets = packets_come_across;
  carried = carried_are_its_packets;
  reports = reports_come_across;
  first_reports = first_reports_come_across;
  alone = alone;
}
