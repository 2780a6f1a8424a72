-- How many satellites and used ids can be kept once: their keys are numbers below a bound, and no two are equal.
use Rattle.std.proofs.Common.{◌≡◌, ℕ, ◌+◌, ◌<◌, ◌≤◌, inl, inr, Bool, true, List, [], ◌∷◌, length, map, nat_eq, arith, eqb-true}
use Rattle.std.specs.List.{list_any, list_all, IsDistinct}
use Rattle.std.proofs.lemmas.Bool.{and_parts, or_cases}
use Rattle.std.proofs.lemmas.List.{length-map}
use Rattle.epoch_core.proofs.Sameness.{satellite_key_below, used_ids_key_below}
use Rattle.std.proofs.lemmas.Map.Steps.{length-le_from_distinct_below}
use Rattle.gps_report.specs.declared.satellite.Satellite.{Satellite}
use Rattle.gps_report.specs.Fits.{is_satellite}
use Rattle.epoch_core.specs.declared.used_id.UsedId.{UsedId}
use Rattle.epoch_core.specs.Keys.{satellite_key, used_id_key}
use Rattle.epoch_core.specs.Tidy.{is_used_id, IsTidy}

below : {X : Type 0} (key : X → ℕ) (fits : X → Bool) (n : ℕ) → ((x : X) → fits x ≡ true → key x < n) → (xs : List X) → list_all fits xs ≡ true → (q : ℕ) → list_any (nat_eq q) (map key xs) ≡ true → q < n
below key fits n small [] all q h = absurd (cc)
below key fits n small (x ∷ xs) all q h =
    let p = and_parts (fits x) (list_all fits xs) all in
    elim (or_cases (nat_eq q (key x)) (list_any (nat_eq q) (map key xs)) h) [
      | inl a ↦ let e = eqb-true q (key x) a in let l = small x p.0 in omega arith
      | inr b ↦ below key fits n small xs p.1 q b
    ]

few_of : {X : Type 0} (key : X → ℕ) (fits : X → Bool) (n : ℕ) → ((x : X) → fits x ≡ true → key x < n) → (xs : List X) → list_all fits xs ≡ true → IsDistinct nat_eq (map key xs) → length xs ≤ n
few_of key fits n small xs all d =
    let l = length-le_from_distinct_below (map key xs) n d (below key fits n small xs all) in
    omega (arith, length-map xs key)

pub few_kept : (sats : List Satellite) (used_ids : List UsedId) (n m : ℕ) → IsTidy sats used_ids → IsDistinct nat_eq (map satellite_key sats) → IsDistinct nat_eq (map used_id_key used_ids) → n ≡ length sats → m ≡ length used_ids → n + m ≤ 155_446
few_kept sats used_ids n m tidy d e a b =
    let l = few_of satellite_key is_satellite 150_451 satellite_key_below sats tidy.sats_fit d in
    let k = few_of used_id_key is_used_id 4_995 used_ids_key_below used_ids tidy.used_ids_fit e in omega arith
