use Rattle.book_units.proofs.Rooms.{AreNew}
use Rattle.book_units.proofs.units.Units.new.Given as goal

abbrev pub invariant-loop-first : goal.invariant-loop-first
invariant-loop-first l = AreNew l.first-items l.first-index l.units.items
