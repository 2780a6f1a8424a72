use Rattle.std.proofs.Common.{◌≡◌, [], length}
use Rattle.gps_outside.specs.Waiting.{Waits}
use Rattle.gps_outside.proofs.sink.write_all.Given as goal

abbrev pub invariant-writes : goal.invariant-writes
invariant-writes g l = record {
  takes : g.K.Sink.takes l.sink;
  bytes : Waits l.piece l.rest (g.K.Sink.written l.initial.sink) (g.K.Sink.written l.sink);
  faults : g.K.Sink.faults l.sink ≡ g.K.Sink.faults l.initial.sink;
  empty : l.piece ≡ [] → l.sink ≡ l.initial.sink;
}

abbrev pub decreases-writes : goal.decreases-writes
decreases-writes g l = length l.rest
