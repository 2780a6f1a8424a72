use Rattle.std.proofs.Common.{◌≡◌, ◌*◌, length}
use Rattle.replay_player.proofs.EndsPublished.{ShownSoFar}
use Rattle.replay_player.proofs.replay_book.ReplayBook.publish.Given as goal

abbrev pub invariant-units : goal.invariant-units
invariant-units l = record {
  so_far : ShownSoFar l.fn.self l.self l.u l.u-end l.initial.out l.out;
  all : l.u-end ≡ 2 * length l.fn.self.book.names;
  count : length l.self.book.names ≡ length l.fn.self.book.names;
  out : l.initial.out ≡ l.fn.out;
}
