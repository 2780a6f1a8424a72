use Rattle.std.proofs.Common.{◌≡◌, List, ℕ, ◌++◌, option_map, sym, subst}
use Rattle.gps_outside.specs.Writes.{AllowsInParts}
use Rattle.gps_outside.proofs.Writing.{appended}
use Rattle.serve_door.proofs.release.write_item.Goals as goal

pub send_all-requires : goal.send_all-requires
send_all-requires g c = record {
  allowed = subst (λ l. AllowsInParts g.K.ClientSink.asks g.K.ClientSink.written g.K.ClientSink.allows c.args.sink.now l) (sym c.bytes.ensures)
      (c.requires.allowed c.in-Drained.is);
}

pub returns-then-send_all-clause-all : goal.returns-then-send_all-clause-all
returns-then-send_all-clause-all g c = λ _. (
  c.in-Drained.is,
  subst (λ l. g.K.ClientSink.written c.send_all.new.sink ≡ option_map (λ bytes. bytes ++ l) (g.K.ClientSink.written c.args.sink.now)) c.bytes.ensures
      (appended _ _ _ c.if-send_all.ensures.bytes c.if-send_all.ensures.unmodelled),
)
