-- The Fix of an epoch that has one note, by its mode.
use Rattle.std.proofs.Common.{◌≡◌, ℕ, Bool, true, false, cond, ◌||◌, is_none, is_some, unwrap_or, refl, sym, ap, ◌∙◌, subst, Option, Some, None}
use Rattle.std.specs.Prelude.{nat_eq, IsSome}
use Rattle.gps_report.specs.Fits.{where_given}
use Rattle.gps_report.specs.declared.note.Position.{Position}
use Rattle.epoch_core.specs.declared.said.Said.{Said}
use Rattle.epoch_core.specs.Fixes.{is_denied, is_number, has_no_fix, mode_of, bare_fix, flat_fix, whole_fix, fix_of}
use Rattle.pseudo_nmea.specs.Fields.{is_place, is_speed, is_course, is_height}
use Rattle.pseudo_nmea.specs.Fitting.{is_dated, is_coarse, IsFitting}

pub no_fix : (s : Said) (p : Option Position) (status : Option Bool) (dim : Option ℕ) → s.position ≡ p → s.status ≡ status → s.dim ≡ dim → has_no_fix s ≡ (is_none p || is_denied status || is_number 1 dim)
unfolding has_no_fix
no_fix s p status dim a b c = λ i. is_none (a i) || is_denied (b i) || is_number 1 (c i)

mode_is : (s : Said) (m : ℕ) → has_no_fix s ≡ false → s.dim ≡ Some m → mode_of s ≡ m
unfolding mode_of
mode_is s m has dim = ap (λ (b : Bool). cond b 1 (unwrap_or s.dim (cond (is_some s.alt_msl || is_some s.alt_hae) 3 2))) has ∙ ap (λ (o : Option ℕ). unwrap_or o (cond (is_some s.alt_msl || is_some s.alt_hae) 3 2)) dim

pub mode_one : (s : Said) → has_no_fix s ≡ true → mode_of s ≡ 1
unfolding mode_of
mode_one s none = ap (λ (b : Bool). cond b 1 (unwrap_or s.dim (cond (is_some s.alt_msl || is_some s.alt_hae) 3 2))) none

pub fix_at : (s : Said) (m : ℕ) → mode_of s ≡ m → fix_of s ≡ cond (nat_eq m 1) (bare_fix s) (cond (nat_eq m 2) (flat_fix s) (whole_fix s))
unfolding fix_of
fix_at s m e = ap (λ (k : ℕ). cond (nat_eq k 1) (bare_fix s) (cond (nat_eq k 2) (flat_fix s) (whole_fix s))) e

-- the ranges of what an epoch said
pub record IsRanged (s : Said) : Type 0 where
  pub time : where_given is_dated s.time ≡ true
  pub place : where_given is_place s.position ≡ true
  pub coarse : where_given is_coarse s.position ≡ true
  pub speed : where_given is_speed s.speed ≡ true
  pub track : where_given is_course s.track ≡ true
  pub alt_msl : where_given is_height s.alt_msl ≡ true
  pub geoid_sep : where_given is_height s.geoid_sep ≡ true

pub there : {X : Type 0} → (o : Option X) → IsSome o → (x : X) × (o ≡ Some x)
there (Some x) some = (x, refl)
there None some = absurd (cc)

bare_fits : (s : Said) → IsRanged s → IsFitting (bare_fix s)
bare_fits s r = record {
  parts = record { position = refl; alt_hae = refl; alt_msl = refl; geoid_sep = refl; track = refl; speed = refl; climb = refl };
  time = r.time;
  place = refl;
  coarse = refl;
  speed = refl;
  track = refl;
  alt_msl = refl;
  geoid_sep = refl;
}

pub none_fits : (s : Said) → s.dim ≡ Some 1 → s.status ≡ Some false → IsRanged s → IsFitting (fix_of s)
none_fits s dim status r =
    let none = no_fix s s.position (Some false) (Some 1) refl status dim in
    let is : has_no_fix s ≡ true = none ∙ denied (is_none s.position) in
    subst IsFitting (sym (fix_at s 1 (mode_one s is))) (bare_fits s r)
  where
    denied : (b : Bool) → (b || true || true) ≡ true
    denied true = refl
    denied false = refl

has_fix : (s : Said) (m : ℕ) → s.dim ≡ Some m → s.status ≡ Some true → IsSome s.position → nat_eq m 1 ≡ false → has_no_fix s ≡ false
has_fix s m dim status some other =
    let place = there s.position some in
    no_fix s (Some place.0) (Some true) (Some m) place.1 status dim ∙ other

pub flat_fits : (s : Said) → s.dim ≡ Some 2 → s.status ≡ Some true → IsSome s.position → IsRanged s → IsFitting (fix_of s)
flat_fits s dim status some r =
    subst IsFitting (sym (fix_at s 2 (mode_is s 2 (has_fix s 2 dim status some refl) dim)))
    (record {
      parts = record { position = some; alt_hae = refl; alt_msl = refl; geoid_sep = refl; climb = refl };
      time = r.time;
      place = r.place;
      coarse = r.coarse;
      speed = r.speed;
      track = r.track;
      alt_msl = refl;
      geoid_sep = refl;
    })

pub deep_fits : (s : Said) → s.dim ≡ Some 3 → s.status ≡ Some true → IsSome s.position → IsSome s.alt_msl → IsRanged s → IsFitting (fix_of s)
deep_fits s dim status some high r =
    let three = mode_is s 3 (has_fix s 3 dim status some refl) dim in
    subst IsFitting (sym (fix_at s 3 three ∙ mode_three three)) (record {
      parts = record { position = some; alt_msl = high };
      time = r.time;
      place = r.place;
      coarse = r.coarse;
      speed = r.speed;
      track = r.track;
      alt_msl = r.alt_msl;
      geoid_sep = r.geoid_sep;
    })
  where
    mode_three : mode_of s ≡ 3 → whole_fix s ≡ record { mode = 3; time = s.time; position = s.position; alt_hae = s.alt_hae; alt_msl = s.alt_msl; geoid_sep = s.geoid_sep; track = s.track; speed = s.speed; climb = s.climb }
    mode_three three = λ i. record { mode = three i; time = s.time; position = s.position; alt_hae = s.alt_hae; alt_msl = s.alt_msl; geoid_sep = s.geoid_sep; track = s.track; speed = s.speed; climb = s.climb }
