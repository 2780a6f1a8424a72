use Rattle.std.proofs.Common.{◌≡◌, false, map, string_bytes}
use Rattle.gps_help.specs.Places.{any_below, names_at}
use Rattle.gps_help.proofs.place.is_named_before.Given as goal

abbrev pub invariant-places : goal.invariant-places
invariant-places l = any_below (names_at (map string_bytes l.words) l.stop l.option) l.at ≡ false
