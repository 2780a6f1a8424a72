use Rattle.session_runs.proofs.Sending.{closings_unheard}
use Rattle.session_runs.proofs.asking_laws.a_closing_is_not_heard.Goals as goal

pub returns : goal.returns
returns c = closings_unheard
