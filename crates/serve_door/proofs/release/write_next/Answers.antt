use Rattle.std.proofs.Common.{subst}
use Rattle.serve_workers.proofs.GoingOn.{may_send_item, sent_item}
use Rattle.serve_workers.specs.Writers.{WriterView}
use Rattle.serve_door.specs.Released.{WritesOn}
use Rattle.serve_door.proofs.Released.{one_on}
use Rattle.serve_door.proofs.release.write_next.Goals as goal

pub write_item-writer-inside-requires : goal.write_item-writer-inside-requires
write_item-writer-inside-requires g c = record {
  allowed = λ drained.
      may_send_item g.K.ClientSink.asks g.K.ClientSink.written g.K.ClientSink.allows c.writer.inside.sink c.writer.inside.items c.next_item.new.items c.in-Some.item
      (c.writer.invariant drained) c.in-Some.ensures.items c.show_due.ensures;
}

pub invariant_of-writer-2 : goal.invariant_of-writer-2
invariant_of-writer-2 g c = λ drained.
    let all = c.write_item-writer-inside.ensures.all drained in
    sent_item g.K.ClientSink.asks g.K.ClientSink.written g.K.ClientSink.allows c.writer.inside.sink c.write_item-writer-inside.new.sink c.writer.inside.items
    c.next_item.new.items c.in-Some.item (c.writer.invariant all.0) c.in-Some.ensures.items c.write_item-writer-inside.ensures.client all.1

pub returns-clause-on : goal.returns-clause-on
returns-clause-on g c =
    let was : WriterView g.row.K.Denot = record { sink = c.writer.inside.sink; items = c.writer.inside.items; end = c.writer.inside.end } in
    let now : WriterView g.row.K.Denot =
    record { sink = c.write_item-writer-inside.new.sink; items = c.next_item.new.items; end = c.write_item-writer-inside.result } in
    subst (λ (w : WriterView g.row.K.Denot). WritesOn g.K.ClientSink.written g.K.ClientSink.faults w now) c.writer.view_is
    (one_on g.K.ClientSink.written g.K.ClientSink.faults was now c.in-Some.item c.in-Some.ensures.items c.write_item-writer-inside.ensures.item)
