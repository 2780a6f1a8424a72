use Rattle.book_log.specs.Readings.{sky_in}
use Rattle.book_log.proofs.ReadingLaws.{last_next}
use Rattle.book_log.proofs.gather.last_sky.Goals as goal

pub loop-body-preserved : goal.loop-body-preserved
loop-body-preserved c = last_next sky_in c.args.bodies.now c.loop-body.body-index c.body-item.result c.loop-body.sky c.renew_sky.new.last c.loop-body-test.true c.body-item.is c.loop-body.invariant c.in_ok-renew_sky.ensures
