use Rattle.std.proofs.Common.{◌≡◌, map, take}
use Rattle.hub_promise.specs.Keeping.{no_end}
use Rattle.gps_hub.proofs.inlets.no_ends.Given as goal

abbrev pub invariant-devices : goal.invariant-devices
invariant-devices g l = l.ends.items ≡ map no_end (take l._inlet-index l.inlets.items)
