use Rattle.ubx_frame.proofs.Windows.{begins_later}
use Rattle.ubx_frame.proofs.window.onward.Goals as goal

pub returns-clause-window : goal.returns-clause-window
returns-clause-window c =
    begins_later c.args.window c.args.bytes.now c.args.from c.sums_after.result c.requires.window c.requires.order c.requires.within c.sums_after.ensures
