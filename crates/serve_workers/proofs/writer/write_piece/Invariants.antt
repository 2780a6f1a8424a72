use Rattle.std.proofs.Common.{◌≡◌, length, None}
use Rattle.gps_outside.specs.Waiting.{Waits}
use Rattle.serve_workers.proofs.writer.write_piece.Given as goal

abbrev pub invariant-writes : goal.invariant-writes
invariant-writes g l = record {
  client : g.K.ClientSink.asks l.sink ≡ g.K.ClientSink.asks l.initial.sink;
  bytes : Waits l.piece l.rest (g.K.ClientSink.written l.initial.sink) (g.K.ClientSink.written l.sink);
  unmodelled : g.K.ClientSink.written l.initial.sink ≡ None → g.K.ClientSink.written l.sink ≡ None;
  faults : g.K.ClientSink.faults l.sink ≡ g.K.ClientSink.faults l.initial.sink;
}

abbrev pub decreases-writes : goal.decreases-writes
decreases-writes g l = length l.rest
