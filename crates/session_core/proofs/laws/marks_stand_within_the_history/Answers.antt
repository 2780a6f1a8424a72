use Rattle.session_core.proofs.Gaining.{marks_within}
use Rattle.session_core.proofs.laws.marks_stand_within_the_history.Goals as goal

pub returns : goal.returns
returns c = marks_within
