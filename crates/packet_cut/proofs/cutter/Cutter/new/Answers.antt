use Rattle.packet_cut.specs.Packets.{rest_from}
use Rattle.packet_cut.proofs.cutter.Cutter.new.Goals as goal

pub returns-clause-stands : goal.returns-clause-stands
unfolding rest_from
returns-clause-stands c = c.new.ensures
