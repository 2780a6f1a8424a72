use Rattle.std.proofs.Common.{◌≡◌, ◌<◌, length}
use Rattle.replay_player.proofs.Taking.{TakenSoFar}
use Rattle.replay_player.proofs.replay_book.ReplayBook.take.Given as goal

abbrev pub invariant-items : goal.invariant-items
invariant-items l = record {
  so_far : TakenSoFar l.initial.self l.self l.s l.taken l.initial.out l.out;
  there : l.s < length l.self.book.sessions;
  same : l.initial.self ≡ l.fn.self;
  out : l.initial.out ≡ l.fn.out;
}
