-- The walk over the numbers that are left ends the whole walk, and the batch has a row for each of them.
use Rattle.std.proofs.Common.{◌≡◌, ◌≤◌, List, length, drop}
use Rattle.book_batch.specs.Lines.{line_for}
use Rattle.book_batch.specs.Sharing.{SharesLines, shares_of}
use Rattle.session_core.specs.Allowing.{MayReport}
use Rattle.book_sessions.specs.MemberView.{MemberView}
use Rattle.book_sessions.specs.Roster.{IsAfterAll}
use Rattle.book_sessions.specs.Spreading.{Spreads}
use Rattle.book_sessions.specs.Walks.{MayWalk, Walks}
use Rattle.book_sessions.proofs.walk.receive_each.Given as goal

abbrev pub invariant-numbers : goal.invariant-numbers
invariant-numbers g l =
    let Becomes = Spreads g.O.Outlet.exact (line_for l.names) l.first l.initial.batch.reports in
    record {
      so_far : (new : List MemberView) → Walks Becomes (drop l.n-index l.numbers.items) l.members.items new
          → Walks Becomes l.numbers.items l.initial.members.items new;
      count : length l.members.items ≡ length l.initial.members.items;
      after : IsAfterAll l.first l.members.items;
      shares : length (drop l.n-index l.numbers.items) ≤ shares_of l.batch;
      lines : SharesLines l.names l.batch;
      may : MayWalk (λ (a : MemberView). MayReport g.O.Outlet.may (line_for l.names) l.initial.batch.reports a.session) (drop l.n-index l.numbers.items) l.members.items;
      reports : l.batch.reports ≡ l.initial.batch.reports;
    }
