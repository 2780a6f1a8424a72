use Rattle.device_core.proofs.Decided.{gain_decided, close_decided}
use Rattle.device_core.proofs.laws.later_reports_are_decided.Goals as goal

pub returns-clause-gain : goal.returns-clause-gain
returns-clause-gain c = gain_decided

pub returns-clause-close : goal.returns-clause-close
returns-clause-close c = λ kept stream other more one two. close_decided more kept stream other one two
