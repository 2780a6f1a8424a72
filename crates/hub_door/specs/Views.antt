-- What each kind of seat of the door's table knows.
use Rattle.std.specs.Prelude.{◌≡◌, true, false, List, [], ◌++◌}
use Rattle.atomic_table.specs.Seated.{TableId}
use Rattle.atomic_table.specs.Table.{Me}
use Rattle.hub_door.specs.declared.view.DoorView.{DoorView}
use Rattle.hub_door.specs.declared.view.Entry.{Entry}

-- the hub's seat, which keeps the list
abbrev pub keeper : List Entry → DoorView
keeper list = record { keeps = true; list = list; told = [] }

-- a note of the list as it was
abbrev pub noted : List Entry → DoorView
noted list = record { keeps = false; list = list; told = [] }

-- a seat to which a note is being joined
abbrev pub meeting : DoorView → List Entry → DoorView
meeting v told = record { keeps = v.keeps; list = v.list; told = told }

-- the hub's seat of this table
abbrev pub IsKeeperOf : TableId → TableId → Me (Unit {0}) DoorView → Type 0
IsKeeperOf table at me = (at ≡ table) × (me ≡ (keeper me.0.list, []))

abbrev pub IsNoteOf : TableId → TableId → Me (Unit {0}) DoorView → Type 0
IsNoteOf table at me = (at ≡ table) × (me ≡ (noted me.0.list, []))
