use Rattle.std.proofs.lemmas.Result.{IfOk-weaker}
use Rattle.book_log.proofs.Seen.{ends_here}
use Rattle.book_log.proofs.device_states.DeviceStates.finish.Goals as goal

pub returns-clause-ends : goal.returns-clause-ends
returns-clause-ends c = IfOk-weaker _ _ _ (λ reports ends. ends_here _ _ _ _ _ _ c.self.view_is ends) c.finish_at.ensures.ends
