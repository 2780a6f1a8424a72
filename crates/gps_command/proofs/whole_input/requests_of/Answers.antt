use Rattle.gps_command.proofs.Pieces.{all_gained}
use Rattle.gps_command.proofs.Sets.{requests_are}
use Rattle.gps_command.proofs.whole_input.requests_of.Goals as goal

pub returns-clause-requests : goal.returns-clause-requests
returns-clause-requests c = all_gained _ _ _ _ c.new-cutter.ensures c.in_ok-out.ensures.gains

pub returns-clause-texts : goal.returns-clause-texts
returns-clause-texts c = requests_are _ _ (returns-clause-requests c)
