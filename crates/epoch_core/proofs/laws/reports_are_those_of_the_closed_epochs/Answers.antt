use Rattle.epoch_core.proofs.EpochLaws.{reports_are_closings}
use Rattle.epoch_core.proofs.laws.reports_are_those_of_the_closed_epochs.Goals as goal

pub returns : goal.returns
returns c = reports_are_closings
