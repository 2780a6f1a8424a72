use Rattle.book_log.specs.Readings.{fix_in}
use Rattle.book_log.proofs.ReadingLaws.{last_next}
use Rattle.book_log.proofs.gather.last_fix.Goals as goal

pub loop-body-preserved : goal.loop-body-preserved
loop-body-preserved c = last_next fix_in c.args.bodies.now c.loop-body.body-index c.body-item.result c.loop-body.fix c.renew_fix.new.last c.loop-body-test.true c.body-item.is c.loop-body.invariant c.renew_fix.ensures
