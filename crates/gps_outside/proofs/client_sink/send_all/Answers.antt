use Rattle.std.proofs.Common.{◌<◌, ◌∙◌, length, rules}
use Rattle.gps_outside.proofs.Writing.{appended, written_more}
use Rattle.gps_outside.proofs.client_sink.send_all.Goals as goal

pub writes-preserved : goal.writes-preserved
writes-preserved g c = record {
  client = c.in-Wrote.ensures.client ∙ c.writes.invariant.client;
  bytes = written_more c.in-Wrote.n _ _ _ _ _ c.writes.invariant.bytes c.in-Wrote.ensures.bytes;
  unmodelled = λ none. c.in-Wrote.ensures.unmodelled (c.writes.invariant.unmodelled none);
  faults = c.in-Wrote.ensures.fails_only ∙ c.writes.invariant.faults;
}

pub write-requires : goal.write-requires
write-requires g c =
    let bytes = c.writes.invariant.bytes in
    let some : 0 < length c.writes.rest.now = search rules in record {
      some = some;
      allowed = c.requires.allowed _ bytes.front _ bytes.split some c.writes.invariant.client (appended bytes.front _ _ bytes.wrote c.writes.invariant.unmodelled);
    }
