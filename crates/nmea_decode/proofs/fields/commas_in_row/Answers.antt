use Rattle.std.proofs.Common.{ap, ◌∙◌, arith}
use Rattle.std.specs.Int.RustNames.{count_ones}
use Rattle.std.proofs.lemmas.List.Sums.{count_by-le-length}
use Rattle.std.proofs.lemmas.Simd.{ones-mask_l}
use Rattle.nmea_decode.specs.Fields.{is_comma}
use Rattle.nmea_decode.proofs.fields.commas_in_row.Goals as goal

pub returns-clause-count : goal.returns-clause-count
returns-clause-count c = ap count_ones c.commas_of_row.ensures ∙ ones-mask_l is_comma c.args.row

pub returns-clause-within : goal.returns-clause-within
returns-clause-within c =
    let width = c.fits-row in
    omega (arith, returns-clause-count c, count_by-le-length is_comma c.args.row)
