use Rattle.session_runs.proofs.Accounting.{admitted_account}
use Rattle.session_runs.proofs.account_laws.a_new_session_has_an_account.Goals as goal

pub returns : goal.returns
returns c = admitted_account
