use Rattle.session_runs.proofs.Accounting.{shut_accounts}
use Rattle.session_runs.proofs.account_laws.shutting_ends_accounts.Goals as goal

pub returns : goal.returns
returns c = shut_accounts
