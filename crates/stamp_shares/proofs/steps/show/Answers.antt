use Rattle.std.proofs.Common.{◌≡◌, [], ap, ◌∙◌, arith}
use Rattle.atomic_table.specs.Table.{Me}
use Rattle.stamp_shares.specs.declared.view.SeatView.{SeatView}
use Rattle.stamp_shares.specs.Views.{gathering}
use Rattle.stamp_shares.proofs.Rules.{giving_to, shows_as, takes_in}
use Rattle.stamp_shares.proofs.steps.show.Goals as goal

pub join_seat-requires : goal.join_seat-requires
join_seat-requires c = (
  c.requires.giver.0,
  c.requires.roll.0,
  ap (λ (m : Me (Unit {0}) SeatView). m.1) c.requires.roll.1,
  (let one = c.requires.one in omega arith),
  takes_in _ _ _ _,
)

pub load-requires : goal.load-requires
load-requires c =
    let joined = c.join_seat.ensures in
    let is : c.join_seat.new.seat.me ≡ (giving_to c.args.giver.now.me.0.given c.args.roll.me.0.shares, []) =
    joined.2 ∙ ap (λ (m : Me (Unit {0}) SeatView). (gathering m.0 c.args.roll.me.0, m.1)) c.requires.giver.1 in (
      joined.0 ∙ c.requires.giver.0,
      (let one = c.requires.one in omega arith),
      shows_as _ _ _ _ _ is,
    )
