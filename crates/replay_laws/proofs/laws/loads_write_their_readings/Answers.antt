use Rattle.replay_laws.proofs.Runs.{loads_written}
use Rattle.replay_laws.proofs.laws.loads_write_their_readings.Goals as goal

pub returns : goal.returns
returns c = loads_written
