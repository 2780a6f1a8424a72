use Rattle.std.proofs.Common.{◌∙◌, length, refl, sym, ap, subst, arith}
use Rattle.report_book.specs.BookView.{BookView}
use Rattle.serve_end.specs.Runs.{source_facts}
use Rattle.gps_serve.specs.Facts.{sink_facts}
use Rattle.gps_serve.specs.Readies.{AllServed, IsLeftOfLink}
use Rattle.gps_serve.proofs.Sessions.{is_next, next_session, none_left, same_book, sessions_all, sessions_begin, sessions_more, some_left}
use Rattle.serve_workers.proofs.Zips.{ran_begin, ran_end, ran_next}
use Rattle.gps_serve.proofs.settling.sessions_done.Goals as goal

pub sessions-init : goal.sessions-init
sessions-init g c = record {
  so_far = sessions_begin _ _ _ _ _ _ _ _ c.requires.ready c.into_iter-inputs.ensures.rest c.into_iter-runs.ensures.rest c.requires.none;
  links = ran_begin _ _ _ _ c.into_iter-runs.ensures.rest c.requires.none;
  book = refl;
  all = c.opened-number-end.ensures;
  count = omega (arith, c.requires.empty, c.into_iter-runs.ensures.len);
  room = c.requires.enough;
}

pub next_of-run-requires : goal.next_of-run-requires
next_of-run-requires g c =
    let test = c.sessions-test.true in
    (some_left _ _ _ _ _ _ _ _ c.sessions.invariant.so_far (omega (arith, test, c.sessions.invariant.all))).1

pub next_of-input-requires : goal.next_of-input-requires
next_of-input-requires g c =
    let test = c.sessions-test.true in
    (some_left _ _ _ _ _ _ _ _ c.sessions.invariant.so_far (omega (arith, test, c.sessions.invariant.all))).0

pub settled-requires-clause-ready : goal.settled-requires-clause-ready
settled-requires-clause-ready g c =
    (is_next _ _ _ _ _ _ _ _ _ _ (next_session _ _ _ _ _ _ _ _ _ _ _ _ c.sessions.invariant.so_far c.next_of-input.ensures c.next_of-run.ensures)).ready

pub sessions-preserved : goal.sessions-preserved
sessions-preserved g c = record {
  so_far = same_book _ _ c.sessions.book c.settled.new.book _ _ _ _ _ c.settled.ensures.book
      (sessions_more _ _ _ _ _ _ _ _ _ _ _ _
      (next_session _ _ _ _ _ _ _ _ _ _ _ _ c.sessions.invariant.so_far c.next_of-input.ensures c.next_of-run.ensures)
      c.settled.ensures.number c.settled.ensures.input c.settled.ensures.outlet c.push_reserved.ensures.items);
  links = ran_next (IsLeftOfLink (source_facts g.S.Source) (sink_facts g.K.ClientSink)) _ _ _ _ _ _ _
      c.sessions.invariant.links c.next_of-run.ensures c.settled.ensures.link c.push_reserved.ensures.items;
  book = c.settled.ensures.book ∙ c.sessions.invariant.book;
  all = c.sessions.invariant.all ∙ ap (λ (b : BookView). length b.sessions) (sym c.settled.ensures.book);
  count = omega (arith, c.push_reserved.ensures.len, c.sessions.invariant.count, ap length c.next_of-run.ensures);
  room = omega (arith, c.push_reserved.ensures.capacity, c.sessions.invariant.room);
}

pub returns-clause-served : goal.returns-clause-served
returns-clause-served g c =
    let P : BookView → Type 0 = λ b.
    AllServed (source_facts g.S.Source) (sink_facts g.K.ClientSink) b.sessions c.args.inputs.items
    c.sessions.done.items in
    let test = c.sessions-test.false in
    subst P c.sessions.invariant.book (sessions_all _ _ _ _ _ _ _ _ c.sessions.invariant.so_far (omega (arith, test, c.sessions.invariant.all)))

pub returns-clause-links : goal.returns-clause-links
returns-clause-links g c =
    let test = c.sessions-test.false in
    ran_end _ _ _ _ c.sessions.invariant.links (none_left _ _ _ _ _ _ _ _ c.sessions.invariant.so_far (omega (arith, test, c.sessions.invariant.all)))
