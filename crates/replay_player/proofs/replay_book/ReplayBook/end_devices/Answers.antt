use Rattle.std.proofs.Common.{◌<◌, length, refl, arith, ◌∙◌}
use Rattle.replay_player.proofs.EndsDevices.{one_more_ended}
use Rattle.replay_player.proofs.replay_book.ReplayBook.end_devices.Goals as goal

pub devices-preserved : goal.devices-preserved
devices-preserved c =
    let below : c.devices.d < length c.args.self.now.book.names = let all = c.devices.invariant.all in omega (arith, all) in
    record {
      so_far = one_more_ended c.args.self.now c.devices.self c.end_one.new.self c.devices.d below c.devices.invariant.so_far c.in_ok-end_one.ensures.ended;
      count = c.end_one.ensures.count ∙ c.devices.invariant.count;
      all = c.devices.invariant.all;
      same = refl;
    }
