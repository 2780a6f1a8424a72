use Rattle.std.proofs.Common.{◌≡◌}
use Rattle.serve_workers.specs.declared.writer.WriterEnd.TheVariants.{Drained}
use Rattle.serve_workers.specs.Writing.{MayWriteOn}
use Rattle.serve_workers.specs.Sessions.{Wrote}
use Rattle.serve_end.proofs.session.drain.Given as goal

abbrev pub invariant-items : goal.invariant-items
invariant-items g l = record {
  book : l.book ≡ l.initial.book;
  goes_on : MayWriteOn g.K.ClientSink.asks g.K.ClientSink.written g.K.ClientSink.allows l.sink l.items;
  wrote : Wrote Drained l.initial.items l.items (g.K.ClientSink.written l.initial.sink) (g.K.ClientSink.written l.sink) (g.K.ClientSink.faults l.initial.sink) (g.K.ClientSink.faults l.sink);
}
