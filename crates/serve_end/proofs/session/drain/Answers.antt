use Rattle.std.proofs.Common.{◌∙◌, refl, subst}
use Rattle.gps_fixed.specs.Lists.{IsPrefix}
use Rattle.report_book.specs.BookView.{BookView}
use Rattle.serve_end.specs.Outlets.{given_to}
use Rattle.gps_outside.proofs.Writing.{appended}
use Rattle.serve_workers.proofs.GoingOn.{goes_on_none, may_send_item, sent_item}
use Rattle.serve_end.proofs.Emptying.{part_emptied, wrote_item, wrote_part}
use Rattle.serve_end.proofs.session.drain.Goals as goal

pub returns-then-not-write_item-clause-outlet : goal.returns-then-not-write_item-clause-outlet
returns-then-not-write_item-clause-outlet g c = λ free.
    part_emptied (given_to c.args.number c.args.book.now free) c.args.items.now c.items.items c.next_item.new.items c.in-Some-next_item.item c.items.invariant.wrote.lane
    c.in-Some-next_item.ensures.items
    (subst (λ (b : BookView). IsPrefix c.next_item.new.items.got (given_to c.args.number b free)) c.items.invariant.book (c.in-Some-next_item.ensures.begins free))

pub returns-then-not-write_item-clause-wrote : goal.returns-then-not-write_item-clause-wrote
returns-then-not-write_item-clause-wrote g c =
    wrote_part c.args.items.now c.items.items c.next_item.new.items c.in-Some-next_item.item _ _ _ _ _ _ c.items.invariant.wrote c.in-Some-next_item.ensures.items
    c.if-not-write_item.ensures.bytes c.if-not-write_item.ensures.faults_stay (c.if-not-write_item.ensures.failed refl)

pub items-preserved : goal.items-preserved
items-preserved g c = record {
  book = c.next_item.ensures.book ∙ c.items.invariant.book;
  goes_on =
      sent_item g.K.ClientSink.asks g.K.ClientSink.written g.K.ClientSink.allows c.items.sink c.write_item.new.sink c.items.items c.next_item.new.items c.in-Some-next_item.item
      c.items.invariant.goes_on c.in-Some-next_item.ensures.items c.if-not-write_item.ensures.client
      (appended c.in-Some-next_item.item _ _ c.if-not-write_item.ensures.bytes c.if-not-write_item.ensures.unmodelled);
  wrote = wrote_item c.args.items.now c.items.items c.next_item.new.items c.in-Some-next_item.item _ _ _ _ _ _ c.items.invariant.wrote c.in-Some-next_item.ensures.items
      c.if-not-write_item.ensures.bytes (c.if-not-write_item.ensures.fails_only refl);
}

pub write_item-requires : goal.write_item-requires
write_item-requires g c = record {
  allowed =
      may_send_item g.K.ClientSink.asks g.K.ClientSink.written g.K.ClientSink.allows c.items.sink c.items.items c.next_item.new.items c.in-Some-next_item.item c.items.invariant.goes_on
      c.in-Some-next_item.ensures.items c.show_due.ensures;
}

pub returns-in-None-next_item-clause-goes_on : goal.returns-in-None-next_item-clause-goes_on
returns-in-None-next_item-clause-goes_on g c = λ _.
    goes_on_none g.K.ClientSink.asks g.K.ClientSink.written g.K.ClientSink.allows c.items.sink c.items.items c.next_item.new.items c.items.invariant.goes_on c.in-None-next_item.ensures.items
