use Rattle.std.proofs.Common.{◌-◌, length}
use Rattle.nmea_decode.proofs.Rows.{Counted}
use Rattle.nmea_decode.proofs.fields.count.Given as goal

-- the commas of the rows so far
abbrev pub invariant-rows : goal.invariant-rows
invariant-rows l = Counted l.text l.at l.commas

abbrev pub decreases-rows : goal.decreases-rows
decreases-rows l = length l.text - l.at
