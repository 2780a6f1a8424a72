use Rattle.std.proofs.Common.{◌==◌, w8, arith}
use Rattle.std.proofs.lemmas.Simd.{bitmask_splat}
use Rattle.nmea_decode.proofs.fields.commas_of_short_row.Goals as goal

pub returns : goal.returns
returns c =
    let width = c.fits-row in
    bitmask_splat w8 (λ a b. a == b) c.args.row 8 44 (omega arith) (omega arith)
