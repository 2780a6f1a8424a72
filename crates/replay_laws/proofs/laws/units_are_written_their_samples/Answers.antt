use Rattle.replay_laws.proofs.Units.{units_refused, units_written}
use Rattle.replay_laws.proofs.laws.units_are_written_their_samples.Goals as goal

pub returns : goal.returns
returns c = record { whole = units_written; refused = units_refused }
