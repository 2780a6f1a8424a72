use Rattle.std.proofs.Common.{get_or}
use Rattle.std.specs.Arc.{arc_value}
use Rattle.book_units.specs.Units.{new_unit}
use Rattle.gps_serve.proofs.Monitors.{left_of_watch, monitor_served, own_segment}
use Rattle.gps_serve.proofs.settling.compared.Goals as goal

pub monitor_done-requires-clause-monitor : goal.monitor_done-requires-clause-monitor
monitor_done-requires-clause-monitor g c = own_segment c.args.tries c.args.no_memory c.args.book.now.units c.args.unit c.args.watch c.requires.ready

pub returns-clause-left : goal.returns-clause-left
returns-clause-left g c =
    let unit = new_unit (arc_value c.args.watch.segment) in
    left_of_watch (get_or c.args.book.now.units c.args.unit unit) c.args.watch c.monitor_done.result c.monitor_done.ensures.taken (c.monitor_done.ensures.confirms unit)

pub returns-clause-served : goal.returns-clause-served
returns-clause-served g c = λ free.
    monitor_served c.args.tries c.args.no_memory (get_or c.args.book.now.units c.args.unit free) c.args.watch c.monitor_done.result (c.requires.ready free)
    c.monitor_done.ensures.taken (c.monitor_done.ensures.confirms free)
