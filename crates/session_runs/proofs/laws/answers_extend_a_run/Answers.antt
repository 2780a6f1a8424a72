use Rattle.session_runs.proofs.Going.{answers_extend}
use Rattle.session_runs.proofs.laws.answers_extend_a_run.Goals as goal

pub returns : goal.returns
returns c = answers_extend
