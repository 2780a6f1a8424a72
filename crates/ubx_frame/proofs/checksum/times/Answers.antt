use Rattle.std.proofs.Common.{arith}
use Rattle.ubx_frame.proofs.Windows.{product}
use Rattle.ubx_frame.proofs.checksum.times.Goals as goal

pub returns : goal.returns
returns c = product c.args.count c.args.byte (omega (arith, c.ranges.byte.fits))
