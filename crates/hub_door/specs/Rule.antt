-- The rule of the door's table: each note is a prefix of the list that the hub's one seat keeps. The fixed view that a joined seat leaves
-- is that of an empty note.
use Rattle.std.specs.Prelude.{◌≡◌, ℕ, true, List}
use mathlib.Core.Option.{some}
use lib.ListN.{get_elem?}
use Rattle.atomic_table.specs.Table.{State}
use Rattle.hub_door.specs.declared.view.DoorView.{DoorView}
use Rattle.hub_door.specs.declared.view.Entry.{Entry}
use Rattle.gps_fixed.specs.Lists.{IsPrefix}

-- what holds of one seat's view, if the hub's seat has this number
pub record Fits (hub : ℕ) (all : List Entry) (seat : ℕ) (v : DoorView) : Type 0 where
  pub keeps : v.keeps ≡ true → (seat ≡ hub) × (v.list ≡ all)
  pub begins : IsPrefix v.list all
  pub told : IsPrefix v.told all

pub record DoorHolds (views : List DoorView) : Type 0 where
  pub hub : ℕ
  pub all : List Entry
  pub fits : (seat : ℕ) (v : DoorView) → get_elem? views seat ≡ some v → Fits hub all seat v

abbrev pub HoldsOf : State (Unit {0}) DoorView → Type 0
HoldsOf state = DoorHolds state.views
