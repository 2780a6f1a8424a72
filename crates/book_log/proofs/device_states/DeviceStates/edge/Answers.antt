use Rattle.std.proofs.lemmas.Result.{IfOk-weaker}
use Rattle.book_log.proofs.Seen.{takes_here}
use Rattle.book_log.proofs.device_states.DeviceStates.edge.Goals as goal

pub returns-clause-takes : goal.returns-clause-takes
returns-clause-takes c = IfOk-weaker _ _ _ (λ reports takes. takes_here _ _ _ _ _ _ _ _ c.self.view_is takes) c.edge_at.ensures.takes
