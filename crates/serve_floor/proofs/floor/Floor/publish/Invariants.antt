use Rattle.std.proofs.Common.{◌≡◌, false}
use Rattle.serve_floor.specs.Bursts.{AreAtRest}
use Rattle.serve_floor.proofs.floor.Floor.publish.Given as goal

abbrev pub invariant-units : goal.invariant-units
invariant-units g l = record {
  sessions : l.self.hub.book.sessions ≡ l.initial.self.hub.book.sessions;
  ends : l.self.hub.ends ≡ l.initial.self.hub.ends;
  rest : l.stored ≡ false → AreAtRest l.unit l.self.hub.book.units;
  all : l.unit-end ≡ l.initial.self.units;
}
