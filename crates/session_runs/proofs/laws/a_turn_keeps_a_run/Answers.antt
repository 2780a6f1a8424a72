use Rattle.session_runs.proofs.Going.{turns_keep}
use Rattle.session_runs.proofs.laws.a_turn_keeps_a_run.Goals as goal

pub returns : goal.returns
returns c = turns_keep
