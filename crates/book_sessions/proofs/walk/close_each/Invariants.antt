-- The walk over the numbers that are left ends the whole walk.
use Rattle.std.proofs.Common.{◌≡◌, List, length, drop}
use Rattle.book_sessions.specs.MemberView.{MemberView}
use Rattle.book_sessions.specs.Roster.{IsAfterAll, shut_at}
use Rattle.book_sessions.specs.Walks.{Walks}
use Rattle.book_sessions.proofs.walk.close_each.Given as goal

abbrev pub invariant-numbers : goal.invariant-numbers
invariant-numbers g l = record {
  so_far : (new : List MemberView) → Walks (λ a b. b ≡ shut_at l.place l.why a) (drop l.n-index l.numbers.items) l.members.items new
      → Walks (λ a b. b ≡ shut_at l.place l.why a) l.numbers.items l.initial.members.items new;
  count : length l.members.items ≡ length l.initial.members.items;
  after : IsAfterAll l.place l.members.items;
}
