use Rattle.replay_laws.proofs.Printed.{output_lines}
use Rattle.replay_laws.proofs.laws.an_output_is_its_lines.Goals as goal

pub returns : goal.returns
returns c = output_lines
