use Rattle.packet_cut.specs.Heads.{head_of}
use Rattle.packet_cut.proofs.PacketLaws.{rest_short}
use Rattle.packet_cut.proofs.StreamLaws.{bytes_are_stable, rest_of_short}
use Rattle.packet_cut.proofs.laws.rest_is_short.Goals as goal

pub returns : goal.returns
returns c = record { stream = rest_of_short; bytes = rest_short head_of bytes_are_stable 0 }
