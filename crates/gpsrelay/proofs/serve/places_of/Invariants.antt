use Rattle.std.proofs.Common.{◌≡◌, map}
use Rattle.gpsrelay.specs.Served.{place_of}
use Rattle.gpsrelay.proofs.serve.places_of.Given as goal

abbrev pub invariant-inputs : goal.invariant-inputs
invariant-inputs l = l.places.items ≡ map place_of l.yielded
