use Rattle.session_runs.proofs.Going.{shuts_end}
use Rattle.session_runs.proofs.laws.shutting_ends_a_run.Goals as goal

pub returns : goal.returns
returns c = shuts_end
