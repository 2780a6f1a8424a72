-- The sessions so far were reported to, the others are as they were, and the batch has a row for each open one of these.
use Rattle.std.proofs.Common.{◌≡◌, ◌≤◌, count_by, take, drop}
use Rattle.std.specs.List.{AllZip}
use Rattle.book_batch.specs.Lines.{line_for}
use Rattle.book_batch.specs.Sharing.{SharesLines, shares_of}
use Rattle.book_sessions.specs.Spreading.{Reports, is_live}
use Rattle.book_sessions.proofs.spreading.spread.Given as goal

abbrev pub invariant-sessions : goal.invariant-sessions
invariant-sessions g l = record {
  so_far : AllZip (Reports g.O.Outlet.exact (line_for l.names) l.first l.initial.batch.reports) (take l.session-index l.initial.sessions) (take l.session-index l.sessions);
  rest : drop l.session-index l.sessions ≡ drop l.session-index l.initial.sessions;
  shares : count_by is_live (drop l.session-index l.initial.sessions) ≤ shares_of l.batch;
  lines : SharesLines l.names l.batch;
  reports : l.batch.reports ≡ l.initial.batch.reports;
}
