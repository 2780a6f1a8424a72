use Rattle.std.proofs.lemmas.List.Elements.{All-set}
use Rattle.book_units.specs.Units.{RoomView, IsUnit}
use Rattle.book_units.proofs.Rooms.{put_gains_seen, put_room_seen}
use Rattle.book_units.proofs.units.Units.put.Goals as goal

pub invariant_of-self : goal.invariant_of-self
invariant_of-self c = All-set (λ (r : RoomView). IsUnit r.unit) _ _ _ c.add.ensures.kept c.self.invariant

pub returns-clause-gains : goal.returns-clause-gains
returns-clause-gains c =
    put_gains_seen _ _ _ _ _ _ c.self.view_is c.requires c.index_mut-unit.ensures.value c.add.ensures.gains

pub returns-clause-room : goal.returns-clause-room
returns-clause-room c =
    put_room_seen _ _ _ _ _ _ c.self.view_is c.requires c.index_mut-unit.ensures.value c.add.ensures.room
