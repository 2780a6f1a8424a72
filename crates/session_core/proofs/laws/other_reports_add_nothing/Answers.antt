use Rattle.session_core.proofs.Gaining.{unselected, over}
use Rattle.session_core.proofs.laws.other_reports_add_nothing.Goals as goal

pub returns-clause-unselected : goal.returns-clause-unselected
returns-clause-unselected c = unselected

pub returns-clause-closed : goal.returns-clause-closed
returns-clause-closed c = λ lines history more s stretches closing is_closed agrees. over lines closing history more s stretches is_closed agrees
