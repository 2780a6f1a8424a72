use Rattle.std.proofs.Common.{ap, ◌∙◌, arith, not}
use Rattle.std.proofs.lemmas.List.Sums.{prefix_len-le-length}
use Rattle.std.proofs.lemmas.Simd.{leading_from_mask_l, trailing_mask_l}
use lib.Count.{count_trailing_zeros}
use Rattle.nmea_decode.specs.Fields.{is_comma}
use Rattle.nmea_decode.proofs.fields.place_in_short_row.Goals as goal

pub returns-then-commas-eq0-clause-place : goal.returns-then-commas-eq0-clause-place
returns-then-commas-eq0-clause-place c =
    let width = c.fits-row in
    omega (arith, leading_from_mask_l is_comma c.args.row (omega (arith, c.commas_of_short_row-commas.ensures, c.if-commas-eq0.true)))

pub returns-else-commas-eq0-clause-place : goal.returns-else-commas-eq0-clause-place
returns-else-commas-eq0-clause-place c =
    let width = c.fits-row in
    ap (count_trailing_zeros 64) c.commas_of_short_row-commas.ensures
    ∙ trailing_mask_l is_comma 64 c.args.row (omega arith) (omega (arith, c.commas_of_short_row-commas.ensures, c.if-commas-eq0.false))

pub returns-else-commas-eq0-clause-within : goal.returns-else-commas-eq0-clause-within
returns-else-commas-eq0-clause-within c =
    let width = c.fits-row in
    omega (arith, returns-else-commas-eq0-clause-place c, prefix_len-le-length (λ x. not (is_comma x)) c.args.row)
