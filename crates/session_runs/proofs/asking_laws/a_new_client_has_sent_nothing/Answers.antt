use Rattle.session_runs.proofs.Sending.{nothing_sent}
use Rattle.session_runs.proofs.asking_laws.a_new_client_has_sent_nothing.Goals as goal

pub returns : goal.returns
returns c = nothing_sent
