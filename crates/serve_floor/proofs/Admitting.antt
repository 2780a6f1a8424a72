-- A link is refused or dropped.
use Rattle.std.proofs.Common.{◌≡◌, ℕ, ◌≤◌, ◌⊎◌, inl, inr, length, refl, arith}
use Rattle.book_sessions.specs.Roster.{most_live}
use Rattle.gps_hub.specs.Admitting.{HasBound, IsFull, drop_now}
use Rattle.hub_door.specs.Admissions.{Admissions, dropping}
use Rattle.report_book.specs.BookView.{BookView}
use Rattle.serve_floor.specs.Admitting.{DropsOne}

pub full_bound : (b : BookView) (held : ℕ) → IsFull b → HasBound (drop_now held b)
full_bound b held full = elim full.bound [ inl live ↦ inl live | inr opened ↦ inr (inl opened) ]

pub drops_full : (b : BookView) (held : ℕ) (old new : Admissions) → IsFull b → length b.sessions ≡ length old.links → new ≡ dropping (drop_now held b) old → DropsOne held old new
drops_full b held old new full count is =
    record { drop = drop_now held b; bound = full_bound b held full; some = full.some; opened = count; held_is = refl; list = is }

pub drops_held : (b : BookView) (held : ℕ) (old new : Admissions) → most_live ≤ held → held ≤ length old.links → length b.sessions ≡ length old.links
    → new ≡ dropping (drop_now held b) old → DropsOne held old new
drops_held b held old new many few count is =
    record { drop = drop_now held b; bound = inr (inr many); some = omega (arith, many, few, count); opened = count; held_is = refl; list = is }
