-- The Fix that an epoch's quantities make, and its mode.
use Rattle.std.specs.Prelude.{ℕ, Bool, false, ◌||◌, not, cond, Option, None, Some, nat_eq, is_none, is_some, unwrap_or}
use Rattle.gps_report.specs.declared.fix.Fix.{Fix}
use Rattle.epoch_core.specs.declared.said.Said.{Said}

abbrev pub is_denied : Option Bool → Bool
is_denied None = false
is_denied (Some status) = not status

abbrev pub is_number : ℕ → Option ℕ → Bool
is_number n None = false
is_number n (Some m) = nat_eq m n

unfoldable pub has_no_fix : Said → Bool
has_no_fix s = is_none s.position || is_denied s.status || is_number 1 s.dim

-- 1 without a position or if the receiver denies a fix; else what was said, or what the heights show
unfoldable pub mode_of : Said → ℕ
mode_of s = cond (has_no_fix s) 1 (unwrap_or s.dim (cond (is_some s.alt_msl || is_some s.alt_hae) 3 2))

abbrev pub bare_fix : Said → Fix
bare_fix s = record {
  mode = 1;
  time = s.time;
  position = None;
  alt_hae = None;
  alt_msl = None;
  geoid_sep = None;
  track = None;
  speed = None;
  climb = None;
}

abbrev pub flat_fix : Said → Fix
flat_fix s = record (bare_fix s) { mode = 2; position = s.position; track = s.track; speed = s.speed }

abbrev pub whole_fix : Said → Fix
whole_fix s = record (flat_fix s) { mode = mode_of s; alt_hae = s.alt_hae; alt_msl = s.alt_msl; geoid_sep = s.geoid_sep; climb = s.climb }

-- mode 1 has the time alone, mode 2 no heights and no climb
unfoldable pub fix_of : Said → Fix
fix_of s = cond (nat_eq (mode_of s) 1) (bare_fix s) (cond (nat_eq (mode_of s) 2) (flat_fix s) (whole_fix s))
