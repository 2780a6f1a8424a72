use Rattle.std.proofs.Common.{◌≡◌, length}
use Rattle.replay_player.proofs.EndsDevices.{EndedSoFar}
use Rattle.replay_player.proofs.replay_book.ReplayBook.end_devices.Given as goal

abbrev pub invariant-devices : goal.invariant-devices
invariant-devices l = record {
  so_far : EndedSoFar l.initial.self l.self l.d;
  count : length l.self.book.names ≡ length l.initial.self.book.names;
  all : l.d-end ≡ length l.initial.self.book.names;
  same : l.initial.self ≡ l.fn.self;
}
