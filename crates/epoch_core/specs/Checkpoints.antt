-- A checkpoint, to which an Epochs can go back: what the running epoch was, and that epoch itself if it has closed since.
use Rattle.std.specs.Prelude.{◌≤◌, true, length, take, Option, None, Some, unwrap_or, ◌≡◌}
use Rattle.gps_report.specs.Fits.{where_given}
use Rattle.epoch_core.specs.declared.days.Days.{Days}
use Rattle.epoch_core.specs.declared.checkpoint.Checkpoint.{Checkpoint}
use Rattle.epoch_core.specs.declared.point.Point.{Point}
use Rattle.epoch_core.specs.Days.{is_known_day}
use Rattle.epoch_core.specs.Kept.{Ran, EpochsKept}

-- what a running epoch had said, and how long its lists were
abbrev pub point_of : Ran → Point
point_of r = record { said = r.said; sats = length r.sats; used_ids = length r.used_ids }

abbrev pub ran_at : Point → Ran → Ran
ran_at p r = record { said = p.said; sats = take p.sats r.sats; used_ids = take p.used_ids r.used_ids }

-- the epoch has only grown since
pub record IsWithin (p : Point) (r : Ran) : Type 0 where
  pub sats : p.sats ≤ length r.sats
  pub used_ids : p.used_ids ≤ length r.used_ids

abbrev pub kept_now : Days → Ran → EpochsKept
kept_now days r = record { ran = r; day = days.day; last_tod = days.last_tod }

-- what was kept at the checkpoint
abbrev pub kept_at : Checkpoint → Ran → EpochsKept
kept_at m r = kept_now m.days (ran_at m.point (unwrap_or m.aside r))

unfoldable pub back_from : Option Checkpoint → Ran → Option EpochsKept
back_from None r = None
back_from (Some m) r = Some (kept_at m r)

pub record IsCheckpoint (m : Checkpoint) (r : Ran) : Type 0 where
  pub day : where_given is_known_day m.days.day ≡ true
  pub within : IsWithin m.point (unwrap_or m.aside r)

unfoldable pub HoldsCheckpoint : Option Checkpoint → Ran → Type 0
HoldsCheckpoint None r = Unit {0}
HoldsCheckpoint (Some m) r = IsCheckpoint m r

pub record IsSound (days : Days) (r : Ran) (checkpoint : Option Checkpoint) : Type 0 where
  pub day : where_given is_known_day days.day ≡ true
  pub way_back : HoldsCheckpoint checkpoint r

-- the checkpoint after the running epoch was replaced: the old one is set aside, unless an older one is
abbrev pub moved_aside : Option Ran → Ran → Option Ran
moved_aside None r = Some r
moved_aside (Some old) r = Some old

abbrev pub put_aside : Option Checkpoint → Ran → Option Checkpoint
put_aside None r = None
put_aside (Some m) r = Some (record m { aside = moved_aside m.aside r })
