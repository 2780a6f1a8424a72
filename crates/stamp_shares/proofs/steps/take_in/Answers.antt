use Rattle.std.proofs.Common.{ap, arith}
use Rattle.atomic_table.specs.Table.{Me}
use Rattle.stamp_shares.specs.declared.view.SeatView.{SeatView}
use Rattle.stamp_shares.proofs.Rules.{takes_in}
use Rattle.stamp_shares.proofs.steps.take_in.Goals as goal

pub join_seat-requires : goal.join_seat-requires
join_seat-requires c = (
  c.requires.roll.0,
  c.requires.share.0,
  ap (λ (m : Me (Unit {0}) SeatView). m.1) c.requires.share.1,
  (let one = c.requires.one in omega arith),
  takes_in _ _ _ _,
)
