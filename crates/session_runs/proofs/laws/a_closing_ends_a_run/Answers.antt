use Rattle.session_runs.proofs.Going.{closings_end}
use Rattle.session_runs.proofs.laws.a_closing_ends_a_run.Goals as goal

pub returns : goal.returns
returns c = closings_end
