use Rattle.std.proofs.Common.{◌≡◌, ◌+◌, List, ap, arith, drop, rules, subst, sym, ◌∙◌}
use Rattle.gps_report.specs.declared.policy.Policy.{Policy}
use Rattle.gps_report.specs.declared.report.Report.{Report}
use Rattle.session_core.specs.declared.outlet.Push.TheVariants.{Done}
use Rattle.session_core.specs.Allowing.{AllowsAll}
use Rattle.session_core.specs.SessionView.{last_place}
use Rattle.session_core.specs.Stretches.{selected}
use Rattle.book_batch.specs.Lines.{line_for}
use Rattle.book_batch.specs.Sharing.{row_of}
use Rattle.book_sessions.proofs.Allowing.{allowed_later, allowed_line, open_later, report_here, takes_later, was_put}
use Rattle.book_sessions.specs.Spreading.{TakesDue, due}
use Rattle.book_sessions.proofs.spreading.report_all.Goals as goal

pub report_some-requires-clause-may : goal.report_some-requires-clause-may
report_some-requires-clause-may g c =
    let reports = c.args.reports.now in
    let lines = line_for c.args.names.now in
    let x = c.report-item.result in
    let later = drop (c.reports.report-index + 1) reports in
    let here = report_here reports c.reports.report-index x c.reports-test.true c.report-item.is in
    let line = c.item_for-item.ensures.line (row_of c.args.names.now later) (c.reports.invariant.row ∙ ap (row_of c.args.names.now) here) ∙ ap (λ (p : Policy). lines p x) c.policy.ensures in
    let P : List Report → Type 0 = λ l. AllowsAll g.O.Outlet.may c.reports.session (selected lines c.reports.session.policy l) in
    allowed_line g.O.Outlet.may lines c.reports.session x later c.item_for-item.result line (subst P here c.reports.invariant.allowed)

pub reports-preserved : goal.reports-preserved
reports-preserved g c =
    let exact = g.O.Outlet.exact in
    let reports = c.args.reports.now in
    let lines = line_for c.args.names.now in
    let i = c.reports.report-index in
    let x = c.report-item.result in
    let later = drop (i + 1) reports in
    let old = c.reports.session in
    let now = c.report_some.new.session in
    let item = c.item_for-item.result in
    let here = report_here reports i x c.reports-test.true c.report-item.is in
    let row = c.reports.invariant.row ∙ ap (row_of c.args.names.now) here in
    let line = c.item_for-item.ensures.line (row_of c.args.names.now later) row ∙ ap (λ (p : Policy). lines p x) c.policy.ensures in
    let done : c.report_some.result ≡ Done = search rules in
    let still = open_later exact c.reports.place item c.report_some.result old now done c.report_some.ensures in
    let P : List Report → Type 0 = λ l. AllowsAll g.O.Outlet.may old (selected lines old.policy l) in
    record {
      so_far = λ new takes.
          let T : List Report → Type 0 = λ l. TakesDue exact (due lines old.policy c.reports.place l) old new in
          c.reports.invariant.so_far new (subst T (sym here) (takes_later exact lines c.reports.place x later item c.report_some.result old now line done c.report_some.ensures new takes));
      is_open = still.0 ∙ c.reports.invariant.is_open;
      after = (let after = c.reports.invariant.after in let same = ap (last_place 0) still.1 in omega (arith, after, same));
      row = c.item_for-item.ensures.rest ∙ ap (drop 1) row;
      allowed = allowed_later g.O.Outlet.may lines old now x later item line (was_put exact c.reports.place item c.report_some.result old now done c.report_some.ensures) (subst P here c.reports.invariant.allowed);
      place = (let at = c.reports.invariant.place in omega (arith, at));
    }
