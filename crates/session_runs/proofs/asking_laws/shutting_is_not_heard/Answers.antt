use Rattle.session_runs.proofs.Sending.{shuts_unheard}
use Rattle.session_runs.proofs.asking_laws.shutting_is_not_heard.Goals as goal

pub returns : goal.returns
returns c = shuts_unheard
