use Rattle.std.proofs.Common.{◌<◌, ◌*◌, length}
use Rattle.replay_player.proofs.Storing.{StoredSoFar}
use Rattle.replay_player.proofs.replay_book.ReplayBook.store.Given as goal

abbrev pub invariant-steps : goal.invariant-steps
invariant-steps l = record {
  so_far : StoredSoFar l.initial.self l.self l.u l.made;
  there : l.u < 2 * length l.self.book.names;
  small : l.u < 16;
}
