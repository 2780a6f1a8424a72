use Rattle.std.proofs.Common.{ℕ, cond, ltb, bit_or, refl}
use Rattle.std.proofs.lemmas.Simd.{zip2_splat, zip2_splat_left, length-chunk}
use lib.Lanes.{chunk}
use Rattle.nmea_frame.specs.Sentence.{is_body_byte}
use Rattle.nmea_frame.proofs.Runs.{both, run_in}
use Rattle.nmea_frame.proofs.body_length.run_in_block.Goals as goal

pub returns : goal.returns
returns c =
    let v = chunk c.args.at 16 c.args.text.now in
    let long = length-chunk c.args.at 16 c.args.text.now c.requires in
    run_in is_body_byte _ c.args.text.now c.args.at c.first_set.result _ c.requires c.type_inv.text c.first_set.ensures
    (both bit_or _ _ v (both bit_or _ _ v (zip2_splat {Y = ℕ} _ v 16 32 long) (zip2_splat_left {X = ℕ} (λ a b. cond (ltb a b) 255 0) 126 16 v long)) (both bit_or _ _ v (zip2_splat {Y = ℕ} _ v 16 36 long) (zip2_splat {Y = ℕ} _ v 16 42 long)))
    refl
