use Rattle.std.proofs.Common.{◌≡◌, None}
use Rattle.serve_workers.proofs.GoingOn.{HasBut}
use Rattle.serve_workers.proofs.Rounds.{WrittenBut}
use Rattle.serve_workers.proofs.writer.write_on.Given as goal

abbrev pub invariant-rounds : goal.invariant-rounds
invariant-rounds g l = record {
  client : g.K.ClientSink.asks l.sink ≡ g.K.ClientSink.asks l.initial.sink;
  has : HasBut l.joined.items l.items.got (g.K.ClientSink.written l.sink);
  writes : WrittenBut l.joined.items l.initial.items.got l.items.got (g.K.ClientSink.written l.initial.sink) (g.K.ClientSink.written l.sink);
  lane : l.items ≡ record l.initial.items { got = l.items.got };
  faults : g.K.ClientSink.faults l.sink ≡ g.K.ClientSink.faults l.initial.sink;
}
