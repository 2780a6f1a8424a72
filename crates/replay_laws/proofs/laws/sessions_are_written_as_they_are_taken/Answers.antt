use Rattle.replay_laws.proofs.Printed.{sessions_so_far}
use Rattle.replay_laws.proofs.laws.sessions_are_written_as_they_are_taken.Goals as goal

pub returns : goal.returns
returns c = sessions_so_far
