use Rattle.std.proofs.Common.{◌≡◌, ◌<◌, ◌*◌, length}
use Rattle.replay_player.specs.Ending.{stores_left}
use Rattle.replay_player.proofs.EndsPublished.{StandsOn}
use Rattle.replay_player.proofs.replay_book.ReplayBook.publish_unit.Given as goal

abbrev pub invariant-stores : goal.invariant-stores
invariant-stores l = record {
  so_far : StandsOn l.initial.self l.self;
  there : l.u < 2 * length l.self.book.names;
  count : length l.self.book.names ≡ length l.initial.self.book.names;
}

abbrev pub decreases-stores : goal.decreases-stores
decreases-stores l = stores_left l.u l.self.book.units
