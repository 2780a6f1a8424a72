use Rattle.std.proofs.Common.{◌≡◌, [], sym, ap, ◌∙◌, arith}
use Rattle.atomic_table.specs.Table.{Me}
use Rattle.hub_door.specs.declared.view.DoorView.{DoorView}
use Rattle.hub_door.specs.Views.{keeper, meeting}
use Rattle.hub_door.proofs.Rules.{notes, meets, checks_as}
use Rattle.hub_door.proofs.steps.compare.Goals as goal

pub split_seat-fresh-requires : goal.split_seat-fresh-requires
split_seat-fresh-requires c =
    (c.requires.hub.0, (let one = c.requires.one in omega arith), notes _ c.args.hub.now.me.0)

pub join_seat-requires : goal.join_seat-requires
join_seat-requires c = (
  c.split_seat-fresh.ensures.0 ∙ c.requires.hub.0,
  ap (λ s. s.table_id) c.replace-old.ensures.value ∙ c.requires.seat.0,
  ap (λ s. s.me.1) c.replace-old.ensures.value ∙ ap (λ (m : Me (Unit {0}) DoorView). m.1) c.requires.seat.1,
  (let one = c.requires.one in omega arith),
  meets _ _ _ _,
)

pub load-requires : goal.load-requires
load-requires c =
    let split = c.split_seat-fresh.ensures in
    let joined = c.join_seat.ensures in
    let is : c.join_seat.new.seat.me ≡ (meeting (keeper c.args.hub.now.me.0.list) c.replace-old.result.me.0.list, []) =
    joined.2 ∙ ap (λ (m : Me (Unit {0}) DoorView). (meeting m.0 c.replace-old.result.me.0.list, m.1)) (split.2 ∙ c.requires.hub.1) in (
      joined.0 ∙ (split.0 ∙ c.requires.hub.0),
      (let one = c.requires.one in omega arith),
      checks_as _ _ _ _ _ is,
    )
