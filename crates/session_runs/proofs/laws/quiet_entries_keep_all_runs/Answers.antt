use Rattle.session_runs.proofs.Quiet.{quiet_entries}
use Rattle.session_runs.proofs.laws.quiet_entries_keep_all_runs.Goals as goal

pub returns : goal.returns
returns c = quiet_entries
