-- The walk over the numbers that are left ends the whole walk.
use Rattle.std.proofs.Common.{◌≡◌, List, length, drop}
use Rattle.book_sessions.specs.MemberView.{MemberView, renewed}
use Rattle.book_sessions.specs.Walks.{Walks}
use Rattle.book_sessions.proofs.walk.turn_each.Given as goal

abbrev pub invariant-numbers : goal.invariant-numbers
invariant-numbers g l = record {
  so_far : (new : List MemberView) → Walks (λ a b. b ≡ renewed a) (drop l.n-index l.numbers.items) l.members.items new
      → Walks (λ a b. b ≡ renewed a) l.numbers.items l.initial.members.items new;
  count : length l.members.items ≡ length l.initial.members.items;
}
