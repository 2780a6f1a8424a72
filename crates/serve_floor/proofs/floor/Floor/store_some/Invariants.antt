use Rattle.std.proofs.Common.{◌≡◌}
use Rattle.serve_floor.proofs.floor.Floor.store_some.Given as goal

abbrev pub invariant-steps : goal.invariant-steps
invariant-steps g l = record {
  sessions : l.self.hub.book.sessions ≡ l.initial.self.hub.book.sessions;
  ends : l.self.hub.ends ≡ l.initial.self.hub.ends;
}
