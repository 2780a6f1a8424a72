use Rattle.std.proofs.Common.{arith}
use Rattle.book_log.proofs.NewLines.{new_log}
use Rattle.book_log.proofs.device_log.DeviceLog.new.Goals as goal

pub invariant_of-result : goal.invariant_of-result
invariant_of-result c =
    (new_log c.in_ok-opening.opening c.in_ok-present.present c.args.devices c.args.limit c.new-2.result c.in_ok-opening.ensures c.in_ok-present.ensures.stands
    c.in_ok-present.ensures.count c.in_ok-present.ensures.run c.in_ok-present.ensures.stopped (omega arith) c.requires c.new-2.ensures).0

pub returns-clause-holds : goal.returns-clause-holds
returns-clause-holds c =
    (new_log c.in_ok-opening.opening c.in_ok-present.present c.args.devices c.args.limit c.new-2.result c.in_ok-opening.ensures c.in_ok-present.ensures.stands
    c.in_ok-present.ensures.count c.in_ok-present.ensures.run c.in_ok-present.ensures.stopped (omega arith) c.requires c.new-2.ensures).0
