use Rattle.session_runs.proofs.Accounting.{taking_moves}
use Rattle.session_runs.proofs.account_laws.taking_moves_an_item.Goals as goal

pub returns : goal.returns
returns c = taking_moves
