use Rattle.command_run.proofs.Commands.{ends}
use Rattle.command_run.proofs.laws.statuses_if_nothing_fails.Goals as goal

pub returns : goal.returns
returns c = λ command outcome source sink clock done sound. ends source sink clock command outcome done sound
