use Rattle.session_runs.proofs.Books.{moves_extend}
use Rattle.session_runs.proofs.laws.entries_extend_all_runs.Goals as goal

pub returns : goal.returns
returns c = moves_extend
