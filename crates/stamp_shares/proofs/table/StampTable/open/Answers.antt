use Rattle.std.proofs.Common.{ap, arith}
use Rattle.atomic_table.specs.Table.{Me}
use Rattle.stamp_shares.specs.declared.view.SeatView.{SeatView}
use Rattle.stamp_shares.proofs.Rules.{counter_cut_as}
use Rattle.stamp_shares.proofs.table.StampTable.open.Goals as goal

pub split_seat-roll-requires : goal.split_seat-roll-requires
split_seat-roll-requires g c =
    let i = c.self.invariant in (i.1, (let one = i.0 in omega arith), counter_cut_as _ _ (ap (λ (m : Me (Unit {0}) SeatView). m.0) i.2))
