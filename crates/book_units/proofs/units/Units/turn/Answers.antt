use Rattle.std.proofs.Common.{List, map, ap, ◌∙◌}
use Rattle.book_units.specs.Changes.{turned_with_room}
use Rattle.book_units.specs.Units.{RoomView}
use Rattle.book_units.proofs.Rooms.{whole_turned, all_turned_keep, turned_units, turned_list, turned_room}
use Rattle.book_units.proofs.units.Units.turn.Goals as goal

pub invariant_of-self : goal.invariant_of-self
invariant_of-self c =
    let turned = c.turn_all.ensures ∙ ap (λ (l : List RoomView). map turned_with_room l) c.as_mut_slice.ensures.value in
    all_turned_keep c.self.inside.units.items _ (whole_turned c.self.inside.units.items _ _ c.self.inside.units.ok.0 turned) c.self.invariant

pub returns-clause-turns : goal.returns-clause-turns
returns-clause-turns c =
    let turned = c.turn_all.ensures ∙ ap (λ (l : List RoomView). map turned_with_room l) c.as_mut_slice.ensures.value in
    turned_units c.self.inside.units.items _ _ c.self.view_is (whole_turned c.self.inside.units.items _ _ c.self.inside.units.ok.0 turned)

pub returns-clause-room : goal.returns-clause-room
returns-clause-room c =
    let turned = c.turn_all.ensures ∙ ap (λ (l : List RoomView). map turned_with_room l) c.as_mut_slice.ensures.value in
    turned_room c.self.inside.units.items _ _ c.self.view_is (whole_turned c.self.inside.units.items _ _ c.self.inside.units.ok.0 turned)

pub returns-clause-turned : goal.returns-clause-turned
returns-clause-turned c =
    let turned = c.turn_all.ensures ∙ ap (λ (l : List RoomView). map turned_with_room l) c.as_mut_slice.ensures.value in
    turned_list c.self.inside.units.items _ _ c.self.view_is (whole_turned c.self.inside.units.items _ _ c.self.inside.units.ok.0 turned)
