use Rattle.std.proofs.Common.{reverse}
use Rattle.epoch_core.specs.Days.{dated}
use Rattle.epoch_core.proofs.EpochLaws.{epochs_hold}
use Rattle.epoch_core.proofs.laws.epochs_hold_all_notes.Goals as goal

pub returns : goal.returns
returns c = λ notes. epochs_hold (dated (reverse notes))
