use Rattle.std.proofs.Common.{refl}
use Rattle.cycle_gap.proofs.Weaving.{at_start}
use Rattle.cycle_gap.proofs.handed.Handed.new.Goals as goal

pub returns : goal.returns
returns c = at_start _ c.new.ensures.empty refl refl
