use Rattle.session_core.proofs.Gaining.{gains_joined}
use Rattle.session_core.proofs.laws.gains_add_up.Goals as goal

pub returns : goal.returns
returns c = gains_joined
