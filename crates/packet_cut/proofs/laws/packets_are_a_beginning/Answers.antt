use Rattle.packet_cut.proofs.StreamLaws.{packets_gain, found_gain}
use Rattle.packet_cut.proofs.laws.packets_are_a_beginning.Goals as goal

pub returns : goal.returns
returns c = record {
  packets = λ stream more. (_, packets_gain stream more);
  found = λ bytes more. (_, found_gain bytes more);
}
