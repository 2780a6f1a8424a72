use Rattle.std.proofs.Common.{◌<◌, ◌∙◌, length, rules}
use Rattle.gps_outside.proofs.Writing.{written_more}
use Rattle.serve_workers.proofs.GoingOn.{may_send_rest}
use Rattle.serve_workers.proofs.writer.write_piece.Goals as goal

pub writes-preserved : goal.writes-preserved
writes-preserved g c = record {
  client = c.in-Wrote.ensures.client ∙ c.writes.invariant.client;
  bytes = written_more c.in-Wrote.n _ _ _ _ _ c.writes.invariant.bytes c.in-Wrote.ensures.bytes;
  unmodelled = λ none. c.in-Wrote.ensures.unmodelled (c.writes.invariant.unmodelled none);
  faults = c.in-Wrote.ensures.fails_only ∙ c.writes.invariant.faults;
}

pub write_some-requires : goal.write_some-requires
write_some-requires g c =
    let some : 0 < length c.writes.rest.now = search rules in record {
      some = some;
      allowed =
          may_send_rest g.K.ClientSink.asks g.K.ClientSink.written g.K.ClientSink.allows c.args.sink.now c.writes.sink _ _ c.requires.allowed c.writes.invariant.bytes
          c.writes.invariant.unmodelled c.writes.invariant.client some;
    }
