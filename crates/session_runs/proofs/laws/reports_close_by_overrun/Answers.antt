use Rattle.session_runs.proofs.Overruns.{reports_overrun}
use Rattle.session_runs.proofs.laws.reports_close_by_overrun.Goals as goal

pub returns : goal.returns
returns c = reports_overrun
