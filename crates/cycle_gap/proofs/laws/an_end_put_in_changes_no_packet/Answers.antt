use Rattle.cycle_gap.proofs.Ends.{packets_split, end_between, rest_between}
use Rattle.cycle_gap.proofs.laws.an_end_put_in_changes_no_packet.Goals as goal

pub returns : goal.returns
returns c = record { without = packets_split; packets = end_between; rest = rest_between }
