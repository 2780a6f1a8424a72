use Rattle.std.proofs.Common.{◌≡◌, false, map, slice_get, string_bytes}
use Rattle.gps_help.specs.Places.{any_below, is_alone, passes}
use Rattle.gps_help.proofs.place.has_word_before.Given as goal

abbrev pub invariant-places : goal.invariant-places
invariant-places l =
    any_below (λ at. passes (is_alone l.command (map string_bytes l.words) l.stop at) (slice_get (map string_bytes l.words) at)) l.at ≡ false
