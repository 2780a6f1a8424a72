use Rattle.std.proofs.Common.{◌≡◌}
use Rattle.nmea_decode.specs.Fields.{skipped}
use Rattle.nmea_decode.proofs.fields.skip.Given as goal

-- what is still to be skipped leads to the same fields
abbrev pub invariant-fields : goal.invariant-fields
invariant-fields l = skipped l.left l.rest ≡ skipped l.fn.count l.fn.text

abbrev pub decreases-fields : goal.decreases-fields
decreases-fields l = l.left
