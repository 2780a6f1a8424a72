use Rattle.book_units.proofs.Rooms.{reserved_units, reserved_grows, seen_within, spare_now}
use Rattle.book_units.proofs.units.Units.reserve_at.Goals as goal

pub returns-clause-units : goal.returns-clause-units
returns-clause-units c = reserved_units _ _ _ _ _ c.self.view_is c.index_mut-unit.ensures.value c.reserve.ensures.unit

pub returns-clause-room : goal.returns-clause-room
returns-clause-room c =
    spare_now _ _ _ c.index_mut-unit.result.now _ _ (seen_within _ _ _ c.self.view_is c.requires) c.reserve.ensures.room

pub returns-clause-others : goal.returns-clause-others
returns-clause-others c =
    reserved_grows _ _ _ _ _ c.self.view_is c.requires c.index_mut-unit.ensures.value c.reserve.ensures.keeps
