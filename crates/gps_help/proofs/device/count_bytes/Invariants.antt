use Rattle.std.proofs.Common.{◌≡◌, ◌≤◌, map, string_bytes}
use Rattle.gps_help.specs.DeviceCauses.{gives_bytes}
use Rattle.gps_help.specs.Places.{count_below}
use Rattle.gps_help.proofs.device.count_bytes.Given as goal

abbrev pub invariant-places : goal.invariant-places
invariant-places l = (l.count ≡ count_below (gives_bytes (map string_bytes l.words) l.stop) l.at) × (l.count ≤ l.at)
