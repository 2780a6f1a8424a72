use Rattle.serve_end.proofs.Published.{compared}
use Rattle.serve_end.proofs.monitor.monitor_done.Goals as goal

pub returns-clause-confirms : goal.returns-clause-confirms
returns-clause-confirms g c =
    compared c.args.book.now c.inform.new.book c.args.unit c.args.watch.monitor c.inform.new.monitor c.confirm.new.monitor c.args.watch.taken.items c.inform.ensures.book
    c.inform.ensures.told c.confirm.ensures.monitor c.confirm.ensures.bears_out
