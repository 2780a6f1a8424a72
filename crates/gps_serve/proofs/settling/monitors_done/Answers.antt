use Rattle.std.proofs.Common.{refl, ◌∙◌, length, map, sym, ap, subst, arith}
use Rattle.std.specs.List.{AllZip}
use Rattle.report_book.specs.BookView.{BookView}
use Rattle.serve_end.specs.declared.done.MonitorDone.{MonitorDone}
use Rattle.gps_serve.specs.Served.{MonitorServed, monitored}
use Rattle.gps_serve.specs.Readies.{IsLeftOfWatch}
use Rattle.serve_workers.proofs.Zips.{ran_begin, ran_end, ran_next}
use Rattle.gps_serve.proofs.Monitors.{few_monitors, monitors_all, monitors_begin, monitors_count, next_monitor, next_served, none_left, numbers_all, numbers_more, same_book, some_left}
use Rattle.gps_serve.proofs.settling.monitors_done.Goals as goal

pub overflow_cast-count : goal.overflow_cast-count
overflow_cast-count g c =
    let few = few_monitors c.args.tries c.args.no_memory c.args.book.now.units c.args.watched.items c.requires.ready in
    let size = c.args.watched.ok in
    let len = c.len-count.ensures in
    let sixteen = c.requires.few in
    omega arith

pub units-init : goal.units-init
units-init g c =
    let watched = c.into_iter-watched.ensures.rest in
    let empty = c.requires.empty in
    record {
      so_far = monitors_begin _ _ _ _ _ _ c.requires.ready watched c.requires.none;
      left_of = ran_begin IsLeftOfWatch _ _ _ watched c.requires.none;
      numbers = ap (map (λ (m : MonitorDone). m.unit)) c.requires.none;
      book = refl;
      all = c.len-count.ensures ∙ c.args.watched.ok.0 ∙ monitors_count c.args.tries c.args.no_memory c.args.book.now.units c.args.watched.items c.requires.ready;
      count = omega (arith, empty, ap length watched, c.args.watched.ok.0);
      room = c.requires.enough;
    }

pub next_of-watch-requires : goal.next_of-watch-requires
next_of-watch-requires g c =
    let test = c.units-test.true in
    some_left _ _ _ _ _ _ c.units.invariant.so_far (omega (arith, test, c.units.invariant.all))

pub compared-requires-clause-there : goal.compared-requires-clause-there
compared-requires-clause-there g c = (next_monitor _ _ _ _ _ _ _ _ c.units.invariant.so_far c.next_of-watch.ensures).there

pub compared-requires-clause-ready : goal.compared-requires-clause-ready
compared-requires-clause-ready g c = (next_monitor _ _ _ _ _ _ _ _ c.units.invariant.so_far c.next_of-watch.ensures).ready

pub push_reserved-requires : goal.push_reserved-requires
push_reserved-requires g c = omega (arith, c.units.invariant.count, c.units.invariant.room, ap length c.next_of-watch.ensures)

pub units-preserved : goal.units-preserved
units-preserved g c = record {
  so_far = same_book _ _ c.units.book c.compared.new.book _ _ _ c.compared.ensures.book
      (next_served _ _ _ _ _ _ _ _ _ _ c.units.invariant.so_far c.next_of-watch.ensures c.compared.ensures.served c.push_reserved.ensures.items);
  left_of = ran_next IsLeftOfWatch _ _ _ _ _ _ _ c.units.invariant.left_of c.next_of-watch.ensures c.compared.ensures.left c.push_reserved.ensures.items;
  numbers = numbers_more _ _ _ _ c.units.invariant.numbers c.compared.ensures.unit c.push_reserved.ensures.items;
  book = c.compared.ensures.book ∙ c.units.invariant.book;
  all = c.units.invariant.all ∙ ap (λ (b : BookView). length (monitored c.args.tries b.units)) (sym c.compared.ensures.book);
  count = omega (arith, c.push_reserved.ensures.len, c.units.invariant.count, ap length c.next_of-watch.ensures);
  room = omega (arith, c.push_reserved.ensures.capacity, c.units.invariant.room);
}

pub returns-clause-book : goal.returns-clause-book
returns-clause-book g c = c.units.invariant.book

pub returns-clause-served : goal.returns-clause-served
returns-clause-served g c =
    let P : BookView → Type 0 = λ b. AllZip (MonitorServed c.args.tries c.args.no_memory) (monitored c.args.tries b.units) c.units.done.items in
    let test = c.units-test.false in
    subst P c.units.invariant.book (monitors_all _ _ _ _ _ _ c.units.invariant.so_far (omega (arith, test, c.units.invariant.all)))

pub returns-clause-left : goal.returns-clause-left
returns-clause-left g c = ran_end _ _ _ _ c.units.invariant.left_of (none_left _ _ _ _ _ _ c.units.invariant.so_far (let test = c.units-test.false in omega (arith, test, c.units.invariant.all)))

pub returns-clause-numbers : goal.returns-clause-numbers
returns-clause-numbers g c = let test = c.units-test.false in numbers_all _ _ _ _ _ _ c.units.invariant.so_far c.units.invariant.numbers
