use Rattle.std.proofs.Common.{arith}
use Rattle.ubx_frame.proofs.Rows.{columns_sum, columns_weighted, joined}
use Rattle.ubx_frame.proofs.checksum.join.Goals as goal

pub returns : goal.returns
returns c =
    let width = c.fits-columns in
    record {
      a = columns_sum c.args.columns;
      b = joined _ _ _ _ (columns_sum c.args.earlier) (columns_weighted c.args.columns (omega arith));
    }
