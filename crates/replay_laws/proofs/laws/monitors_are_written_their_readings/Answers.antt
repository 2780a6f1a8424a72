use Rattle.replay_laws.proofs.Others.{taken_written}
use Rattle.replay_laws.proofs.Printed.{monitors_written}
use Rattle.replay_laws.proofs.laws.monitors_are_written_their_readings.Goals as goal

pub returns : goal.returns
returns c = record { readings = monitors_written; taken = taken_written }
