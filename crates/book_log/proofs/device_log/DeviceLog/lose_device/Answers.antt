use Rattle.book_log.proofs.CallSteps.{lost_called, lost_stopped}
use Rattle.book_log.proofs.device_log.DeviceLog.lose_device.Goals as goal

pub invariant_of-self : goal.invariant_of-self
invariant_of-self c =
    let k = lost_called c.args.self.now c.self.inside.present c.lose.new.self c.self.inside.limit c.self.inside.generation c.self.inside.current c.push_loss.new.self c.args.device
    c.self.invariant c.self.view_is c.requires c.lose.ensures c.push_loss.ensures in
    k.holds

pub returns-clause-adds : goal.returns-clause-adds
returns-clause-adds c =
    let k = lost_called c.args.self.now c.self.inside.present c.lose.new.self c.self.inside.limit c.self.inside.generation c.self.inside.current c.push_loss.new.self c.args.device
    c.self.invariant c.self.view_is c.requires c.lose.ensures c.push_loss.ensures in
    k.adds

pub returns-clause-holds : goal.returns-clause-holds
returns-clause-holds c =
    let k = lost_called c.args.self.now c.self.inside.present c.lose.new.self c.self.inside.limit c.self.inside.generation c.self.inside.current c.push_loss.new.self c.args.device
    c.self.invariant c.self.view_is c.requires c.lose.ensures c.push_loss.ensures in
    k.holds

pub returns-clause-stopped : goal.returns-clause-stopped
returns-clause-stopped c = lost_stopped c.args.self.now c.self.inside.present c.lose.new.self c.self.inside.limit c.self.inside.generation c.self.inside.current c.args.device c.self.view_is c.requires c.lose.ensures
