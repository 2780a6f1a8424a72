use Rattle.session_runs.proofs.Sending.{sent_onward}
use Rattle.session_runs.proofs.asking_laws.what_was_sent_stays_answered.Goals as goal

pub returns : goal.returns
returns c = sent_onward
