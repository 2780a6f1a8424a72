use Rattle.std.proofs.Common.{◌≡◌, take}
use Rattle.epoch_core.specs.Keys.{by_key}
use Rattle.epoch_core.specs.Steps.{all_added}
use Rattle.epoch_core.proofs.once.Once.add_all.Given as goal

abbrev pub invariant-loop-item : goal.invariant-loop-item
invariant-loop-item g l = l.self ≡ all_added (by_key g.T.Keyed.key) l.initial.self (take l.item-index l.more)
