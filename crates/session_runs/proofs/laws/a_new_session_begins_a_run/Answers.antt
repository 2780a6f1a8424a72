use Rattle.session_runs.proofs.Books.{admitted_begins}
use Rattle.session_runs.proofs.laws.a_new_session_begins_a_run.Goals as goal

pub returns : goal.returns
returns c = admitted_begins
