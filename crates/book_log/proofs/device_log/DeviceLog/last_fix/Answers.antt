use Rattle.book_log.proofs.ReadLaws.{fix_read}
use Rattle.book_log.proofs.device_log.DeviceLog.last_fix.Goals as goal

pub returns : goal.returns
returns c = fix_read _ _ c.args.device c.line.result.now c.fix.result c.self.invariant c.self.view_is c.requires c.line.ensures c.fix.ensures
