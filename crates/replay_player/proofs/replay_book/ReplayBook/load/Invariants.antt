use Rattle.std.proofs.Common.{◌<◌, length}
use Rattle.replay_player.specs.Playing.{BookStandsFor}
use Rattle.replay_player.specs.States.{State}
use Rattle.replay_player.proofs.Loading.{LoadedSoFar}
use Rattle.replay_player.proofs.replay_book.ReplayBook.load.Given as goal

abbrev pub invariant-loads : goal.invariant-loads
invariant-loads l = record {
  so_far : LoadedSoFar l.initial.self l.self l.m l.made l.initial.out l.out;
  there : l.m < length l.self.watchers;
  known : (state : State) × BookStandsFor l.self state;
}
