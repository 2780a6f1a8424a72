use Rattle.session_runs.proofs.Ordered.{in_order}
use Rattle.session_runs.proofs.laws.a_run_is_in_order.Goals as goal

pub returns : goal.returns
returns c = in_order
