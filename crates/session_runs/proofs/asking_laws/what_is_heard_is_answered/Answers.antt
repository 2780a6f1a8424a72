use Rattle.session_runs.proofs.Sending.{sent_more}
use Rattle.session_runs.proofs.asking_laws.what_is_heard_is_answered.Goals as goal

pub returns : goal.returns
returns c = sent_more
