use Rattle.session_runs.proofs.Sending.{sent_in_vain}
use Rattle.session_runs.proofs.asking_laws.what_is_sent_in_vain_has_no_answer.Goals as goal

pub returns : goal.returns
returns c = sent_in_vain
