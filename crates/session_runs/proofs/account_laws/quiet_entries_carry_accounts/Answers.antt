use Rattle.session_runs.proofs.Accounting.{quiet_carry}
use Rattle.session_runs.proofs.account_laws.quiet_entries_carry_accounts.Goals as goal

pub returns : goal.returns
returns c = quiet_carry
