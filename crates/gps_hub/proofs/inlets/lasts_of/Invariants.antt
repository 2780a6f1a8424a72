use Rattle.std.proofs.Common.{◌≡◌, map, take}
use Rattle.hub_promise.specs.Keeping.{fresh_lasts}
use Rattle.gps_hub.proofs.inlets.lasts_of.Given as goal

abbrev pub invariant-devices : goal.invariant-devices
invariant-devices g l = l.lasts.items ≡ map fresh_lasts (take l.inlet-index l.inlets.items)
