use Rattle.std.proofs.Common.{◌≤◌, ◌-◌, length, take}
use Rattle.ubx_frame.proofs.Rows.{RowsAre}
use Rattle.ubx_frame.proofs.checksum.sum_up.Given as goal

abbrev pub invariant-rounds : goal.invariant-rounds
invariant-rounds l = record { within : l.at ≤ length l.covered; rows : RowsAre l.columns l.earlier (take l.at l.covered) }

abbrev pub decreases-rounds : goal.decreases-rounds
decreases-rounds l = length l.covered - l.at

abbrev pub invariant-rows : goal.invariant-rows
invariant-rows l = record { within : l.at ≤ length l.covered; rows : RowsAre l.columns l.earlier (take l.at l.covered) }

abbrev pub decreases-rows : goal.decreases-rows
decreases-rows l = length l.covered - l.at
