use Rattle.std.proofs.Common.{◌≡◌, true, false, not, is_some, List, refl, sym, ap, ◌∙◌, subst}
use Rattle.gps_report.specs.declared.report.Report.{Report}
use Rattle.book_batch.specs.Lines.{line_for}
use Rattle.book_sessions.specs.Spreading.{TakesDue, due, is_live}
use Rattle.book_sessions.proofs.Receiving.{closed_means, live_means, reported, unreported}
use Rattle.book_sessions.proofs.spreading.report_row.Goals as goal

pub returns-then-is_none-clause-session : goal.returns-then-is_none-clause-session
returns-then-is_none-clause-session g c =
    let old = c.args.session.now in
    let live : is_live old ≡ true = ap (λ o. not (is_some o)) (sym c.closing.ensures) ∙ ap not c.is_none.ensures ∙ ap (λ b. not (not b)) c.if-is_none.true in
    let P : List Report → Type 0 = λ l. TakesDue g.O.Outlet.exact (due (line_for c.args.names.now) old.policy c.args.first l) old c.report_all.new.session in
    reported g.O.Outlet.exact c.args.names.now c.args.first c.args.batch.now.reports old c.report_all.new.session (live_means old live)
    (subst P (c.reports.ensures ∙ c.take_row-row.ensures.reports) c.report_all.ensures)

pub returns-else-is_none-clause-session : goal.returns-else-is_none-clause-session
returns-else-is_none-clause-session g c =
    let old = c.args.session.now in
    let closed : is_live old ≡ false = ap (λ o. not (is_some o)) (sym c.closing.ensures) ∙ ap not c.is_none.ensures ∙ ap (λ b. not (not b)) c.if-is_none.false in
    let found = closed_means old closed in
    unreported g.O.Outlet.exact (line_for c.args.names.now) c.args.first c.args.batch.now.reports found.0 old old found.1 refl
