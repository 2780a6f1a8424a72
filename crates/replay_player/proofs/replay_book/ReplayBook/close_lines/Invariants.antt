use Rattle.std.proofs.Common.{◌≡◌, length}
use Rattle.replay_player.proofs.EndsClosed.{ClosedSoFar}
use Rattle.replay_player.proofs.replay_book.ReplayBook.close_lines.Given as goal

abbrev pub invariant-sessions : goal.invariant-sessions
invariant-sessions l = record {
  so_far : ClosedSoFar l.self l.s l.initial.out l.out;
  all : l.s-end ≡ length l.self.book.sessions;
  out : l.initial.out ≡ l.fn.out;
}
