use Rattle.book_log.proofs.Seen.{takes_here}
use Rattle.book_log.proofs.device_states.DeviceStates.feed.Goals as goal

pub returns-clause-takes : goal.returns-clause-takes
returns-clause-takes c = takes_here _ _ _ _ _ _ _ _ c.self.view_is c.in_ok-batch.ensures.takes
