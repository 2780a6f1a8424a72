use Rattle.session_runs.proofs.Sending.{entries_unheard}
use Rattle.session_runs.proofs.asking_laws.entries_are_not_heard.Goals as goal

pub returns : goal.returns
returns c = entries_unheard
