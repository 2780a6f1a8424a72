use Rattle.session_runs.proofs.Accounting.{inputs_extend}
use Rattle.session_runs.proofs.account_laws.input_extends_an_account.Goals as goal

pub returns : goal.returns
returns c = inputs_extend
