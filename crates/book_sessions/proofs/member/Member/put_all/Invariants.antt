-- Putting the answers that are left ends the putting of all.
use Rattle.std.proofs.Common.{◌≡◌, ◌≤◌, None, length}
use Rattle.std.specs.Vec.Iter.{into_iter_items}
use Rattle.session_core.specs.SessionView.{last_place}
use Rattle.session_core.specs.Allowing.{AllowsAll}
use Rattle.book_sessions.specs.Allowing.{replies_left}
use Rattle.book_sessions.specs.MemberView.{MemberView}
use Rattle.book_sessions.specs.Answering.{PutsAnswers}
use Rattle.book_sessions.proofs.member.Member.put_all.Given as goal

abbrev pub invariant-replies : goal.invariant-replies
invariant-replies g l = record {
  so_far : (new : MemberView) → PutsAnswers g.O.Outlet.exact l.place l.self (into_iter_items l.reply-iterator) new
      → PutsAnswers g.O.Outlet.exact l.place l.initial.self l.fn.replies.items new;
  most : l.most_requests ≡ l.self.session.most_requests;
  is_open : l.self.session.closing ≡ None;
  room : length (into_iter_items l.reply-iterator) ≤ l.self.session.spare;
  allowed : AllowsAll g.O.Outlet.may l.self.session (replies_left l.self.session (into_iter_items l.reply-iterator));
  after : last_place 0 l.self.session.marks ≤ l.place;
}
