use Rattle.std.proofs.Common.{◌++◌}
use Rattle.nmea_decode.specs.Fields.{skipped}
use Rattle.nmea_decode.specs.Satellites.{ids_in}
use Rattle.nmea_decode.proofs.Walks.{IdsSoFar}
use Rattle.nmea_decode.proofs.satellites.push_ids.Given as goal

-- the ids so far, and those of the fields that are left
abbrev pub invariant-fields : goal.invariant-fields
invariant-fields l = IdsSoFar l.left l.rest l.ids.items (l.fn.ids.items ++ ids_in l.fn.fields l.fn.text) (skipped l.fn.fields l.fn.text)

abbrev pub decreases-fields : goal.decreases-fields
decreases-fields l = l.left
