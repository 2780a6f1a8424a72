use Rattle.std.proofs.Common.{◌≡◌, map}
use Rattle.gpsrelay.specs.Served.{edge_place_of}
use Rattle.gpsrelay.proofs.serve.edge_places_of.Given as goal

abbrev pub invariant-paths : goal.invariant-paths
invariant-paths l = l.places.items ≡ map edge_place_of l.yielded
