use Rattle.std.proofs.Common.{◌<◌, ◌*◌, refl, arith, ◌∙◌}
use Rattle.replay_player.proofs.EndsPublished.{one_more_shown}
use Rattle.replay_player.proofs.replay_book.ReplayBook.publish.Goals as goal

pub units-preserved : goal.units-preserved
units-preserved c =
    let below : c.units.u < 2 * c.self.inside.devices = omega arith in
    record {
      so_far = one_more_shown c.args.self.now c.units.self c.publish_unit.new.self c.units.u (2 * c.self.inside.devices) c.args.out.now c.units.out c.publish_unit.new.out below c.units.invariant.so_far c.in_ok-publish_unit.ensures.shows;
      all = c.units.invariant.all;
      count = c.publish_unit.ensures.count ∙ c.units.invariant.count;
      out = refl;
    }
