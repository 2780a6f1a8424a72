use Rattle.std.proofs.Common.{◌<◌, ◌+◌, ℕ, List, ap, arith, get_or, length, length-drop, subst, sym, ◌∙◌}
use Rattle.std.proofs.lemmas.List.{length-set}
use Rattle.gps_report.specs.declared.report.Report.{Report}
use Rattle.session_core.specs.Allowing.{MayReport}
use Rattle.book_batch.specs.Lines.{line_for}
use Rattle.book_sessions.specs.MemberView.{MemberView}
use Rattle.book_sessions.specs.Spreading.{Spreads}
use Rattle.book_sessions.proofs.Allowing.{step_may, walk_later}
use Rattle.book_sessions.proofs.Places.{after_set}
use Rattle.book_sessions.proofs.Walking.{walk_turn}
use Rattle.book_sessions.proofs.walk.receive_each.Goals as goal

pub receive-requires-clause-may : goal.receive-requires-clause-may
receive-requires-clause-may g c =
    let lines = line_for c.args.names.now in
    let items = c.deref-n-items.result.now in
    let x = c.index_mut-member.result.now in
    let same = c.reports.ensures ∙ c.take_row-row.ensures.reports ∙ c.numbers.invariant.reports in
    let P : List Report → Type 0 = λ l. MayReport g.O.Outlet.may lines l x.session in
    subst P (sym same)
    (step_may (λ (a : MemberView). MayReport g.O.Outlet.may lines c.args.batch.reports a.session) c.args.numbers.now.items items c.numbers.members.items c.numbers.n-index x
    c.deref-n-items.ensures.value c.numbers-test.true c.numbers.invariant.may c.index_mut-member.ensures.value)

pub numbers-preserved : goal.numbers-preserved
numbers-preserved g c =
    let exact = g.O.Outlet.exact in
    let lines = line_for c.args.names.now in
    let ns = c.args.numbers.now.items in
    let items = c.deref-n-items.result.now in
    let i = c.numbers.n-index in
    let n = get_or items i 0 in
    let cur = c.numbers.members.items in
    let x = c.index_mut-member.result.now in
    let next = c.receive.new.self in
    let P : List ℕ → Type 0 = λ l. (k d : ℕ) → k < length l → get_or l k d < length c.args.members.now.items in
    let within = subst P (sym c.deref-n-items.ensures.value) c.requires.within i 0 c.numbers-test.true in
    let inside : n < length cur = omega (arith, within, c.numbers.invariant.count) in
    let same = c.reports.ensures ∙ c.take_row-row.ensures.reports ∙ c.numbers.invariant.reports in
    let S : List Report → Type 0 = λ l. Spreads exact lines c.args.first l x next in
    record {
      so_far = walk_turn (Spreads exact lines c.args.first c.args.batch.reports) ns items c.args.members.now.items cur i x next
          c.deref-n-items.ensures.value c.numbers-test.true c.numbers.invariant.so_far inside c.index_mut-member.ensures.value (subst S same c.receive.ensures.spreads);
      count = length-set cur n next ∙ c.numbers.invariant.count;
      after = after_set c.args.first n cur x next c.numbers.invariant.after inside c.index_mut-member.ensures.value c.receive.ensures.marks;
      shares = omega (arith, c.numbers.invariant.shares, c.take_row-row.ensures.shares, length-drop i ns, length-drop (i + 1) ns, ap length c.deref-n-items.ensures.value, c.numbers-test.true);
      lines = c.take_row-row.ensures.lines c.args.names.now c.numbers.invariant.lines;
      may = walk_later (λ (a : MemberView). MayReport g.O.Outlet.may lines c.args.batch.reports a.session) ns items cur i next c.deref-n-items.ensures.value c.numbers-test.true c.numbers.invariant.may;
      reports = c.take_row-row.ensures.reports ∙ c.numbers.invariant.reports;
    }
