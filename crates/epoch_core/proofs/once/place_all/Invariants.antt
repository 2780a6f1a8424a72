use Rattle.std.proofs.Common.{take}
use Rattle.epoch_core.specs.Keys.{IsPlaced}
use Rattle.epoch_core.proofs.once.place_all.Given as goal

abbrev pub invariant-loop-i : goal.invariant-loop-i
invariant-loop-i g l = IsPlaced g.T.Keyed.key (take l.i l.items) l.places
