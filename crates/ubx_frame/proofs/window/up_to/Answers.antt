use Rattle.std.proofs.Common.{arith}
use Rattle.ubx_frame.proofs.Windows.{ends_later}
use Rattle.ubx_frame.proofs.window.up_to.Goals as goal

pub returns-else-to-window-clause-window : goal.returns-else-to-window-clause-window
returns-else-to-window-clause-window c =
    ends_later c.args.window c.args.bytes.now c.args.to c.sums_after-after-else-to-window.result c.requires.window
    (omega (arith, c.if-to-window.false)) c.requires.inside c.sums_after-after-else-to-window.ensures
