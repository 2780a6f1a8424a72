use Rattle.session_runs.proofs.Sending.{taking_unheard}
use Rattle.session_runs.proofs.asking_laws.taking_is_not_heard.Goals as goal

pub returns : goal.returns
returns c = taking_unheard
