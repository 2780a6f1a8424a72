use Rattle.book_log.proofs.ReadLaws.{active_read}
use Rattle.book_log.proofs.device_log.DeviceLog.active.Goals as goal

pub returns : goal.returns
returns c = active_read _ _ c.args.device c.line.result.now c.active.result c.self.invariant c.self.view_is c.requires c.line.ensures c.active.ensures
