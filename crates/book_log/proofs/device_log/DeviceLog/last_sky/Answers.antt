use Rattle.book_log.proofs.ReadLaws.{sky_read}
use Rattle.book_log.proofs.device_log.DeviceLog.last_sky.Goals as goal

pub returns : goal.returns
returns c = sky_read _ _ c.args.device c.line.result.now _ c.self.invariant c.self.view_is c.requires c.line.ensures c.sky.ensures
