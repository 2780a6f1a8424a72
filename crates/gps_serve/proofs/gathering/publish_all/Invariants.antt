use Rattle.std.proofs.Common.{◌≡◌}
use Rattle.gps_serve.proofs.gathering.publish_all.Given as goal

abbrev pub invariant-rounds : goal.invariant-rounds
invariant-rounds g l = record {
  sessions : l.floor.hub.book.sessions ≡ l.fn.floor.hub.book.sessions;
  ends : l.floor.hub.ends ≡ l.fn.floor.hub.ends;
}
