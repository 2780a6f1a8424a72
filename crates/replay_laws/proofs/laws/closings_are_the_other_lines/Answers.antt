use Rattle.replay_laws.proofs.Others.{closings_are_others}
use Rattle.replay_laws.proofs.laws.closings_are_the_other_lines.Goals as goal

pub returns : goal.returns
returns c = closings_are_others
