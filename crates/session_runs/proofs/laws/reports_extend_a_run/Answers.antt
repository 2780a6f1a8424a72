use Rattle.session_runs.proofs.Going.{reports_extend}
use Rattle.session_runs.proofs.laws.reports_extend_a_run.Goals as goal

pub returns : goal.returns
returns c = reports_extend
