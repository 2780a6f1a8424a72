use Rattle.std.proofs.Common.{◌≡◌, ◌++◌, take, drop, map}
use Rattle.book_units.specs.Changes.{turned_with_room}
use Rattle.book_units.proofs.units.turn_all.Given as goal

abbrev pub invariant-loop-unit : goal.invariant-loop-unit
invariant-loop-unit l =
    l.units ≡ map turned_with_room (take l.unit-index l.initial.units) ++ drop l.unit-index l.initial.units
