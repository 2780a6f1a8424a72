use Rattle.std.specs.List.{AllZip}
use Rattle.std.proofs.Common.{◌≡◌, ◌≤◌, ◌<◌, List, length, get_or, sym, ap, ◌∙◌, subst, arith, take, take_all}
use Rattle.std.specs.Int.{from_bool}
use Rattle.gps_report.specs.declared.report.Report.{Report}
use Rattle.session_core.specs.Allowing.{MayReport}
use Rattle.session_core.specs.SessionView.{SessionView, last_place}
use Rattle.book_batch.specs.Lines.{line_for}
use Rattle.book_sessions.specs.Spreading.{Reports, is_live}
use Rattle.book_sessions.proofs.Walking.{count_left, left_here, left_more, zip_next}
use Rattle.book_sessions.proofs.spreading.spread.Goals as goal

pub report_row-requires-clause-after : goal.report_row-requires-clause-after
report_row-requires-clause-after g c =
    let i = c.sessions.session-index in
    let within : i < length c.args.sessions.now = c.sessions-test.true in
    let P : SessionView → Type 0 = λ s. last_place 0 s.marks ≤ c.args.first in
    subst P (sym (left_here c.args.sessions.now c.sessions.sessions i c.session-item.result c.sessions.invariant.rest)) (c.requires.after i c.session-item.result within)

pub report_row-requires-clause-may : goal.report_row-requires-clause-may
report_row-requires-clause-may g c =
    let i = c.sessions.session-index in
    let x = c.session-item.result in
    let P : SessionView → Type 0 = λ s. MayReport g.O.Outlet.may (line_for c.args.names.now) c.args.batch.reports s in
    let R : List Report → Type 0 = λ l. MayReport g.O.Outlet.may (line_for c.args.names.now) l (get_or c.sessions.sessions i x) in
    subst R (sym c.sessions.invariant.reports)
    (subst P (sym (left_here c.args.sessions.now c.sessions.sessions i x c.sessions.invariant.rest)) (c.requires.may i x c.sessions-test.true))

pub sessions-preserved : goal.sessions-preserved
sessions-preserved g c =
    let i = c.sessions.session-index in
    let xs = c.args.sessions.now in
    let ys = c.sessions.sessions in
    let x = c.session-item.result in
    let y = c.report_row.new.session in
    let same : length ys ≡ length xs = c.sessions.auto.sessions in
    let within : i < length xs = c.sessions-test.true in
    let Becomes = λ (reports : List Report). Reports g.O.Outlet.exact (line_for c.args.names.now) c.args.first reports (get_or ys i x) y in
    let count = count_left is_live xs i x within in
    let here = left_here xs ys i x c.sessions.invariant.rest in
    record {
      so_far = zip_next (Reports g.O.Outlet.exact (line_for c.args.names.now) c.args.first c.args.batch.reports) xs ys i x y within same c.sessions.invariant.so_far c.sessions.invariant.rest
          (subst Becomes c.sessions.invariant.reports c.report_row.ensures.session);
      rest = left_more xs ys i y c.sessions.invariant.rest;
      shares = omega (arith, count, ap (λ (s : SessionView). from_bool (is_live s)) here, c.sessions.invariant.shares, c.report_row.ensures.shares);
      lines = c.report_row.ensures.lines;
      reports = c.report_row.ensures.reports ∙ c.sessions.invariant.reports;
    }

pub report_row-requires-clause-shares : goal.report_row-requires-clause-shares
report_row-requires-clause-shares g c =
    let i = c.sessions.session-index in
    let xs = c.args.sessions.now in
    let x = c.session-item.result in
    let here = left_here xs c.sessions.sessions i x c.sessions.invariant.rest in
    omega (arith, count_left is_live xs i x c.sessions-test.true, ap (λ (s : SessionView). from_bool (is_live s)) here, c.sessions.invariant.shares)

pub returns : goal.returns
returns g c =
    let i = c.sessions.session-index in
    let xs = c.args.sessions.now in
    let ys = c.sessions.sessions in
    let R = Reports g.O.Outlet.exact (line_for c.args.names.now) c.args.first c.args.batch.reports in
    let past : length ys ≤ i = omega (arith, c.sessions-test.false, c.sessions.auto.sessions) in
    let P : List SessionView → Type 0 = λ l. AllZip R l ys in
    let Q : List SessionView → Type 0 = λ l. AllZip R (take i xs) l in
    subst P (take_all i xs c.sessions-test.false) (subst Q (take_all i ys past) c.sessions.invariant.so_far)
