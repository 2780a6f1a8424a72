use Rattle.std.proofs.Common.{◌≡◌}
use Rattle.serve_door.specs.Released.{WritesOn}
use Rattle.serve_door.proofs.release.empty_outlet.Given as goal

abbrev pub invariant-items : goal.invariant-items
invariant-items g l = record {
  seat : l.seat ≡ l.initial.seat;
  on : WritesOn g.K.ClientSink.written g.K.ClientSink.faults l.initial.writer l.writer;
}
