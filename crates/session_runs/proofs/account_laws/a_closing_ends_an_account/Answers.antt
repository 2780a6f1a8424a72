use Rattle.session_runs.proofs.Accounting.{closings_account}
use Rattle.session_runs.proofs.account_laws.a_closing_ends_an_account.Goals as goal

pub returns : goal.returns
returns c = closings_account
