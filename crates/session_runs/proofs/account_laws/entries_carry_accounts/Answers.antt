use Rattle.session_runs.proofs.Accounting.{entries_carry}
use Rattle.session_runs.proofs.account_laws.entries_carry_accounts.Goals as goal

pub returns : goal.returns
returns c = entries_carry
