use Rattle.std.proofs.Common.{arith}
use Rattle.ubx_frame.proofs.Windows.{gone_on}
use Rattle.ubx_frame.proofs.checksum.sums_after.Goals as goal

pub returns : goal.returns
returns c =
    gone_on c.args.sums c.sum_up-own.result c.args.more.now c.times.result (omega (arith, c.well_formed)) (omega (arith, c.well_formed))
    c.sum_up-own.ensures c.times.ensures
