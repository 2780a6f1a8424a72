use Rattle.book_log.proofs.CallSteps.{edged_called, edged_few, took_stopped}
use Rattle.book_log.proofs.Owned.{own_ones}
use Rattle.book_log.proofs.device_log.DeviceLog.edge.Goals as goal

pub invariant_of-self-2 : goal.invariant_of-self-2
invariant_of-self-2 c =
    let k = edged_called c.args.self.now c.self.inside.present c.edge.new.self c.self.inside.limit c.self.inside.generation c.begin.new.number c.self.inside.current c.begin.new.current c.in_ok-next.next c.push_edge.new.self c.turns_due-turned.result c.args.device c.args.edge.now c.in_ok-batch.batch.reports c.count_of.result
    c.self.invariant c.self.view_is c.requires.runs c.turns_due-turned.ensures c.in_ok-next.ensures c.in_ok-batch.ensures.takes c.begin.ensures.current c.begin.ensures.number c.push_edge.ensures c.count_of.ensures in
    k.holds

pub returns-clause-adds : goal.returns-clause-adds
returns-clause-adds c =
    let k = edged_called c.args.self.now c.self.inside.present c.edge.new.self c.self.inside.limit c.self.inside.generation c.begin.new.number c.self.inside.current c.begin.new.current c.in_ok-next.next c.push_edge.new.self c.turns_due-turned.result c.args.device c.args.edge.now c.in_ok-batch.batch.reports c.count_of.result
    c.self.invariant c.self.view_is c.requires.runs c.turns_due-turned.ensures c.in_ok-next.ensures c.in_ok-batch.ensures.takes c.begin.ensures.current c.begin.ensures.number c.push_edge.ensures c.count_of.ensures in
    k.adds

pub returns-clause-holds : goal.returns-clause-holds
returns-clause-holds c =
    let k = edged_called c.args.self.now c.self.inside.present c.edge.new.self c.self.inside.limit c.self.inside.generation c.begin.new.number c.self.inside.current c.begin.new.current c.in_ok-next.next c.push_edge.new.self c.turns_due-turned.result c.args.device c.args.edge.now c.in_ok-batch.batch.reports c.count_of.result
    c.self.invariant c.self.view_is c.requires.runs c.turns_due-turned.ensures c.in_ok-next.ensures c.in_ok-batch.ensures.takes c.begin.ensures.current c.begin.ensures.number c.push_edge.ensures c.count_of.ensures in
    k.holds

pub returns-clause-few : goal.returns-clause-few
returns-clause-few c = edged_few _ _ _ _ _ c.in_ok-batch.ensures.takes

pub returns-clause-stopped : goal.returns-clause-stopped
returns-clause-stopped c = took_stopped c.args.self.now c.self.inside.present c.edge.new.self c.self.inside.limit c.self.inside.generation c.self.inside.current c.args.device _ _ _ c.self.view_is c.requires.runs c.in_ok-batch.ensures.takes

pub returns-clause-own : goal.returns-clause-own
returns-clause-own c = let k = c.in_ok-batch.ensures.takes in own_ones c.args.device _ c.in_ok-batch.batch.reports (k.lines_are.changes k.lines_are.next).1.reports_are
