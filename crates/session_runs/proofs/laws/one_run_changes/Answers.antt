use Rattle.session_runs.proofs.Books.{one_changes}
use Rattle.session_runs.proofs.laws.one_run_changes.Goals as goal

pub returns : goal.returns
returns c = one_changes
