use Rattle.serve_workers.proofs.Dialing.{gave_more, may_still}
use Rattle.serve_workers.proofs.shared_clock.SharedClock.now.Goals as goal

pub invariant_of-self : goal.invariant_of-self
invariant_of-self g c = (
  may_still g.D.Dials.may c.now-at.result _ _ c.self.invariant.0 c.now-at.ensures,
  gave_more c.self.inside.giver c.give.new.self c.now-at.result c.args.share.now g.D.Dials.first _ _ c.give.ensures.given c.self.invariant.1 c.now-at.ensures,
)
