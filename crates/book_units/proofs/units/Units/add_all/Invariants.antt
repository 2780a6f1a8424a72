use Rattle.book_units.proofs.Rooms.{IsAdded}
use Rattle.book_units.proofs.units.Units.add_all.Given as goal

abbrev pub invariant-loop-report : goal.invariant-loop-report
invariant-loop-report l = IsAdded l.reports l.report-index l.initial.self l.self
