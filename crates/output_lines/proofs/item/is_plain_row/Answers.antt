use Rattle.std.proofs.Common.{ℕ, cond, ltb, bit_or, refl, w8}
use Rattle.std.proofs.lemmas.Bool.{eqb-true}
use Rattle.std.proofs.lemmas.Simd.{below_from_Fits, zip2_of_maps, zip2_splat, zip2_splat_left}
use Rattle.output_lines.specs.Items.{is_plain}
use Rattle.output_lines.proofs.Rows.{unmarked}
use Rattle.output_lines.proofs.item.is_plain_row.Goals as goal

pub returns : goal.returns
returns c = λ plain.
    let row = c.args.row in
    let long = c.fits-row.0 in
    unmarked is_plain _ row _ long (below_from_Fits w8 row c.fits-row.1)
    (zip2_of_maps bit_or _ _ row
    (zip2_of_maps bit_or _ _ row (zip2_splat {Y = ℕ} _ row 16 32 long) (zip2_splat_left {X = ℕ} (λ a b. cond (ltb a b) 255 0) 126 16 row long))
    (zip2_splat {Y = ℕ} _ row 16 92 long))
    refl (eqb-true _ 0 plain)
