use Rattle.std.proofs.Common.{ap, arith}
use Rattle.atomic_table.specs.Table.{Me}
use Rattle.stamp_shares.specs.declared.view.SeatView.{SeatView}
use Rattle.stamp_shares.proofs.Rules.{begins_as}
use Rattle.stamp_shares.proofs.steps.begin.Goals as goal

pub split_seat-requires : goal.split_seat-requires
split_seat-requires c =
    (c.requires.roll.0, (let one = c.requires.one in omega arith), begins_as _ _ (ap (λ (m : Me (Unit {0}) SeatView). m.0) c.requires.roll.1))
