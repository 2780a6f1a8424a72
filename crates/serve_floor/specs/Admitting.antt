-- What the door's list says of a link that is refused.
use Rattle.std.specs.Prelude.{◌≡◌, ◌≤◌, ℕ, length}
use Rattle.book_sessions.specs.Roster.{most_live}
use Rattle.gps_hub.specs.Admitting.{HasBound}
use Rattle.hub_door.specs.Admissions.{Admissions, LinkDrop, dropping}
use Rattle.serve_floor.specs.declared.floor.LinkRefusal.{LinkRefusal}
use Rattle.serve_floor.specs.declared.floor.LinkRefusal.TheVariants.{TooMany, NoMemory}

-- One more link was dropped for a bound, when this many sessions were not yet released. At least 64 had been admitted.
pub record DropsOne (held : ℕ) (old new : Admissions) : Type 0 where
  pub drop : LinkDrop
  pub bound : HasBound drop
  pub some : most_live ≤ drop.opened
  pub opened : drop.opened ≡ length old.links
  pub held_is : drop.held ≡ held
  pub list : new ≡ dropping drop old

-- A link that was refused because there are too many sessions is in the door's list; otherwise the list is as it was.
abbrev pub TurnsAway : LinkRefusal → ℕ → Admissions → Admissions → Type 0
TurnsAway TooMany held old new = DropsOne held old new
TurnsAway NoMemory held old new = new ≡ old
