-- The checkpoint, if the running epoch is replaced or grows.
use Rattle.std.proofs.Common.{◌≡◌, [], refl, sym, ap, ◌∙◌, subst, Option, None, Some, unwrap_or}
use Rattle.epoch_core.specs.declared.checkpoint.Checkpoint.{Checkpoint}
use Rattle.epoch_core.specs.Days.{Dated, dated, day_known}
use Rattle.epoch_core.specs.Kept.{Ran, ran_of, kept_of}
use Rattle.epoch_core.specs.Epochs.{epochs}
use Rattle.epoch_core.specs.Checkpoints.{ran_at, IsWithin, kept_now, back_from, HoldsCheckpoint, moved_aside, put_aside}
use Rattle.epoch_core.specs.Steps.{nothing_ran, ran_grown}
use Rattle.epoch_core.proofs.Grown.{at_point, within_more}

moved : (o : Option Ran) (old fresh : Ran) → unwrap_or (moved_aside o old) fresh ≡ unwrap_or o old
moved None old fresh = refl
moved (Some r) old fresh = refl

pub back_stays : (checkpoint : Option Checkpoint) (old fresh : Ran) → back_from (put_aside checkpoint old) fresh ≡ back_from checkpoint old
unfolding back_from
back_stays None old fresh = refl
back_stays (Some m) old fresh = ap (λ v. Some (kept_now m.days (ran_at m.point v))) (moved m.aside old fresh)

pub checkpoint_stays : (checkpoint : Option Checkpoint) (old fresh : Ran) → HoldsCheckpoint checkpoint old → HoldsCheckpoint (put_aside checkpoint old) fresh
unfolding HoldsCheckpoint
checkpoint_stays None old fresh h = tt
checkpoint_stays (Some m) old fresh h =
    let P : Ran → Type 0 = λ v. IsWithin m.point v in record { day = h.day; within = subst P (sym (moved m.aside old fresh)) h.within }

grown_within : (p : _) (o : Option Ran) (r : Ran) (d : Dated) → IsWithin p (unwrap_or o r) → (ran_at p (unwrap_or o (ran_grown r d)) ≡ ran_at p (unwrap_or o r)) × IsWithin p (unwrap_or o (ran_grown r d))
grown_within p None r d w = (at_point p r d w, within_more p r d w)
grown_within p (Some old) r d w = (refl, w)

pub back_grown : (checkpoint : Option Checkpoint) (r now : Ran) (d : Dated) → HoldsCheckpoint checkpoint r → now ≡ ran_grown r d → back_from checkpoint now ≡ back_from checkpoint r
unfolding back_from HoldsCheckpoint
back_grown None r now d h e = refl
back_grown (Some m) r now d h e =
    ap (λ v. Some (kept_now m.days (ran_at m.point (unwrap_or m.aside v)))) e
    ∙ ap (λ v. Some (kept_now m.days v)) (grown_within m.point m.aside r d h.within).0

pub checkpoint_grown : (checkpoint : Option Checkpoint) (r now : Ran) (d : Dated) → HoldsCheckpoint checkpoint r → now ≡ ran_grown r d → HoldsCheckpoint checkpoint now
unfolding HoldsCheckpoint
checkpoint_grown None r now d h e = tt
checkpoint_grown (Some m) r now d h e =
    let P : Ran → Type 0 = λ v. IsWithin m.point (unwrap_or m.aside v) in
    record { day = h.day; within = subst P (sym e) (grown_within m.point m.aside r d h.within).1 }

-- if no note was heard
pub stands_new : (r : Ran) → r ≡ nothing_ran → kept_now (record { day = None; last_tod = None }) r ≡ kept_of []
unfolding kept_of dated epochs day_known ran_of nothing_ran
stands_new r e = ap (λ v. kept_now (record { day = None; last_tod = None }) v) e
