use Rattle.session_runs.proofs.Accounting.{closed_hears}
use Rattle.session_runs.proofs.account_laws.a_closed_session_hears_nothing.Goals as goal

pub returns : goal.returns
returns c = closed_hears
