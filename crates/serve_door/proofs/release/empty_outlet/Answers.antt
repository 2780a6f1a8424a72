use Rattle.std.proofs.Common.{◌∙◌}
use Rattle.serve_door.proofs.Released.{on_more}
use Rattle.serve_door.proofs.release.empty_outlet.Goals as goal

pub returns-then-not-get_next-clause-on : goal.returns-then-not-get_next-clause-on
returns-then-not-get_next-clause-on g c =
    on_more g.K.ClientSink.written g.K.ClientSink.faults c.args.writer.now c.items.writer c.get_next.new.writer c.items.invariant.on c.if-not-get_next.ensures.on

pub items-preserved : goal.items-preserved
items-preserved g c = record {
  seat = c.if-not-get_next.ensures.seat ∙ c.items.invariant.seat;
  on = on_more g.K.ClientSink.written g.K.ClientSink.faults c.args.writer.now c.items.writer c.get_next.new.writer c.items.invariant.on c.if-not-get_next.ensures.on;
}
