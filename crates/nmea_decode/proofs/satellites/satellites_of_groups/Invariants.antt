use Rattle.nmea_decode.specs.Satellites.{satellites_in}
use Rattle.nmea_decode.proofs.Walks.{GroupsSoFar}
use Rattle.nmea_decode.proofs.satellites.satellites_of_groups.Given as goal

-- the satellites so far, and those of the groups that are left
abbrev pub invariant-groups : goal.invariant-groups
invariant-groups l =
    GroupsSoFar l.left l.fn.groups l.fn.system l.fn.signal l.rest l.sats.items (satellites_in l.fn.groups l.fn.system l.fn.signal l.fn.text)

abbrev pub decreases-groups : goal.decreases-groups
decreases-groups l = l.left
