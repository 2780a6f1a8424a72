use Rattle.session_runs.proofs.Accounting.{others_keep}
use Rattle.session_runs.proofs.account_laws.others_keep_their_accounts.Goals as goal

pub returns : goal.returns
returns c = others_keep
