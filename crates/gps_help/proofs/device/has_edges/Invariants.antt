use Rattle.std.proofs.Common.{◌≡◌, false, map, string_bytes}
use Rattle.gps_help.specs.DeviceCauses.{gives_edges_of}
use Rattle.gps_help.specs.Places.{any_below}
use Rattle.gps_help.proofs.device.has_edges.Given as goal

abbrev pub invariant-places : goal.invariant-places
invariant-places l = any_below (gives_edges_of (map string_bytes l.words) l.stop l.name) l.at ≡ false
