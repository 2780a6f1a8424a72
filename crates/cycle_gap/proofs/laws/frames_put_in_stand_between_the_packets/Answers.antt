use Rattle.cycle_gap.proofs.Joining.{joined_few, woven_open, woven_packets}
use Rattle.cycle_gap.proofs.laws.frames_put_in_stand_between_the_packets.Goals as goal

pub returns : goal.returns
returns c = record { packets = woven_packets; pending = woven_open; few = joined_few }
