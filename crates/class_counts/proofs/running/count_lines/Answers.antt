use Rattle.class_counts.proofs.Within.{within}
use Rattle.class_counts.proofs.running.count_lines.Goals as goal

pub returns-clause-within : goal.returns-clause-within
returns-clause-within g c = within _ _ _ _ _ c.count-outcome.ensures.counted
