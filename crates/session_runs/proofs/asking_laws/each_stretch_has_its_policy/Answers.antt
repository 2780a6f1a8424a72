use Rattle.session_runs.proofs.Answering.{policies_there}
use Rattle.session_runs.proofs.asking_laws.each_stretch_has_its_policy.Goals as goal

pub returns : goal.returns
returns c = policies_there
