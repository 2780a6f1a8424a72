use Rattle.book_log.proofs.CallSteps.{ended_called, ended_few, ended_stopped}
use Rattle.book_log.proofs.Owned.{own_ones}
use Rattle.book_log.proofs.device_log.DeviceLog.end_device.Goals as goal

pub invariant_of-self-2 : goal.invariant_of-self-2
invariant_of-self-2 c =
    let k = ended_called c.args.self.now c.self.inside.present c.finish.new.self c.self.inside.limit c.self.inside.generation c.self.inside.current c.push_end.new.self c.args.device c.in_ok-batch.batch.reports c.count_of.result
    c.self.invariant c.self.view_is c.requires.runs c.in_ok-batch.ensures.ends c.push_end.ensures c.count_of.ensures in
    k.holds

pub returns-clause-adds : goal.returns-clause-adds
returns-clause-adds c =
    let k = ended_called c.args.self.now c.self.inside.present c.finish.new.self c.self.inside.limit c.self.inside.generation c.self.inside.current c.push_end.new.self c.args.device c.in_ok-batch.batch.reports c.count_of.result
    c.self.invariant c.self.view_is c.requires.runs c.in_ok-batch.ensures.ends c.push_end.ensures c.count_of.ensures in
    k.adds

pub returns-clause-holds : goal.returns-clause-holds
returns-clause-holds c =
    let k = ended_called c.args.self.now c.self.inside.present c.finish.new.self c.self.inside.limit c.self.inside.generation c.self.inside.current c.push_end.new.self c.args.device c.in_ok-batch.batch.reports c.count_of.result
    c.self.invariant c.self.view_is c.requires.runs c.in_ok-batch.ensures.ends c.push_end.ensures c.count_of.ensures in
    k.holds

pub returns-clause-few : goal.returns-clause-few
returns-clause-few c = ended_few _ _ _ _ c.in_ok-batch.ensures.ends

pub returns-clause-stopped : goal.returns-clause-stopped
returns-clause-stopped c = ended_stopped c.args.self.now c.self.inside.present c.finish.new.self c.self.inside.limit c.self.inside.generation c.self.inside.current c.args.device _ c.self.view_is c.requires.runs c.in_ok-batch.ensures.ends

pub returns-clause-own : goal.returns-clause-own
returns-clause-own c = let k = c.in_ok-batch.ensures.ends in own_ones c.args.device _ c.in_ok-batch.batch.reports (k.lines_are.changes k.lines_are.next).1.reports_are
