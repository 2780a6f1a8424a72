-- Taking what is due of the reports that are left ends the taking of all.
use Rattle.std.proofs.Common.{◌≡◌, ◌≤◌, ◌+◌, None, drop}
use Rattle.book_batch.specs.Lines.{line_for}
use Rattle.book_batch.specs.Sharing.{row_of}
use Rattle.session_core.specs.Allowing.{AllowsAll}
use Rattle.session_core.specs.SessionView.{SessionView, last_place}
use Rattle.session_core.specs.Stretches.{selected}
use Rattle.book_sessions.specs.Spreading.{TakesDue, due}
use Rattle.book_sessions.proofs.spreading.report_all.Given as goal

abbrev pub invariant-reports : goal.invariant-reports
invariant-reports g l = record {
  so_far : (new : SessionView) → TakesDue g.O.Outlet.exact (due (line_for l.names) l.session.policy l.place (drop l.report-index l.reports)) l.session new
      → TakesDue g.O.Outlet.exact (due (line_for l.names) l.initial.session.policy l.first l.reports) l.initial.session new;
  is_open : l.session.closing ≡ None;
  after : last_place 0 l.session.marks ≤ l.first;
  row : l.row ≡ row_of l.names (drop l.report-index l.reports);
  allowed : AllowsAll g.O.Outlet.may l.session (selected (line_for l.names) l.session.policy (drop l.report-index l.reports));
  place : l.place ≡ l.first + l.report-index;
}
