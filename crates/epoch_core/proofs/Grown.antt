-- A running epoch that has grown goes back to what it was at a point.
use Rattle.std.proofs.Common.{◌≡◌, length, take, ap, ◌∙◌, arith}
use Rattle.std.proofs.lemmas.List.{take_all}
use Rattle.epoch_core.specs.declared.point.Point.{Point}
use Rattle.epoch_core.specs.Days.{Dated}
use Rattle.epoch_core.specs.Satellites.{same_satellite, same_used_id, used_ids_in}
use Rattle.epoch_core.specs.Kept.{Ran}
use Rattle.epoch_core.specs.Checkpoints.{point_of, ran_at, IsWithin}
use Rattle.epoch_core.specs.Steps.{all_added, ran_grown}
use Rattle.epoch_core.proofs.Added.{all_added_keep}

-- at any point since which it has only grown, one note more changes nothing
pub at_point : (p : Point) (r : Ran) (d : Dated) → IsWithin p r → ran_at p (ran_grown r d) ≡ ran_at p r
unfolding ran_grown
at_point p r d w =
    ap (λ v. record { said = p.said; sats = v; used_ids = take p.used_ids (all_added same_used_id r.used_ids (used_ids_in d.note)) }) (all_added_keep same_satellite p.sats r.sats d.note.sats w.sats).0
    ∙ ap (λ v. record { said = p.said; sats = take p.sats r.sats; used_ids = v }) (all_added_keep same_used_id p.used_ids r.used_ids (used_ids_in d.note) w.used_ids).0

pub within_more : (p : Point) (r : Ran) (d : Dated) → IsWithin p r → IsWithin p (ran_grown r d)
unfolding ran_grown
within_more p r d w = record {
  sats = (all_added_keep same_satellite p.sats r.sats d.note.sats w.sats).1;
  used_ids = (all_added_keep same_used_id p.used_ids r.used_ids (used_ids_in d.note) w.used_ids).1;
}

pub within_now : (r : Ran) → IsWithin (point_of r) r
within_now r = record { sats = omega arith; used_ids = omega arith }

pub at_now : (r : Ran) → ran_at (point_of r) r ≡ r
at_now r =
    ap (λ v. record { said = r.said; sats = v; used_ids = take (length r.used_ids) r.used_ids }) (take_all (length r.sats) r.sats (omega arith))
    ∙ ap (λ v. record { said = r.said; sats = r.sats; used_ids = v }) (take_all (length r.used_ids) r.used_ids (omega arith))

pub grown_back : (r now new : Ran) (p : Point) (d : Dated) → p ≡ point_of r → now ≡ ran_grown r d → new ≡ ran_at p now → new ≡ r
grown_back r now new p d point grown back =
    back ∙ ap (λ v. ran_at v now) point ∙ ap (ran_at (point_of r)) grown ∙ at_point (point_of r) r d (within_now r) ∙ at_now r
