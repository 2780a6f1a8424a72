-- What a list of the door's entries says: the sessions that were admitted, in order, each with its two lanes; the links that were dropped because a
-- bound was reached, in order; and whether the door has closed or failed.
use Rattle.std.specs.Prelude.{ℕ, Bool, true, false, ◌||◌, List, [], ◌∷◌, ◌++◌}
use Rattle.std.specs.List.{flat_map, list_any}
use Rattle.atomic_table.specs.Seated.{TableId}
use Rattle.gps_lane.specs.Bonds.{table_name}
use Rattle.hub_door.specs.declared.view.Entry.{Entry}
use Rattle.hub_door.specs.declared.view.Entry.TheVariants.{Link as LinkEntry, Dropped, Done}

-- a session's outlet lane, with the number of items that may wait in it, and its input lane
pub record SessionLanes : Type 0 where
  pub outlet : TableId
  pub cap : ℕ
  pub input : TableId

abbrev pub link_of : TableId → ℕ → TableId → SessionLanes
link_of outlet cap input = record { outlet = outlet; cap = cap; input = input }

-- The moment at which a link was dropped: how many sessions were live, how many had been opened, and how many were not yet released.
pub record LinkDrop : Type 0 where
  pub live : ℕ
  pub opened : ℕ
  pub held : ℕ

pub record Admissions : Type 0 where
  pub links : List SessionLanes
  pub drops : List LinkDrop
  pub done : Bool

-- before the door is asked
abbrev pub none_yet : Admissions
none_yet = record { links = []; drops = []; done = false }

abbrev pub links_in : Entry → List SessionLanes
links_in (LinkEntry outlet cap input) = record { outlet = outlet.name; cap = cap; input = input.name } ∷ []
links_in (Dropped live opened held) = []
links_in Done = []

abbrev pub drops_in : Entry → List LinkDrop
drops_in (LinkEntry outlet cap input) = []
drops_in (Dropped live opened held) = record { live = live; opened = opened; held = held } ∷ []
drops_in Done = []

abbrev pub is_done : Entry → Bool
is_done (LinkEntry outlet cap input) = false
is_done (Dropped live opened held) = false
is_done Done = true

abbrev pub admissions : List Entry → Admissions
admissions list = record { links = flat_map links_in list; drops = flat_map drops_in list; done = list_any is_done list }

abbrev pub entry_of : SessionLanes → Entry
entry_of link = LinkEntry (table_name link.outlet) link.cap (table_name link.input)

abbrev pub drop_entry : LinkDrop → Entry
drop_entry drop = Dropped drop.live drop.opened drop.held

-- one more session
abbrev pub admitting : SessionLanes → Admissions → Admissions
admitting link a = record a { links = a.links ++ link ∷ [] }

-- one more link was dropped
abbrev pub dropping : LinkDrop → Admissions → Admissions
dropping drop a = record a { drops = a.drops ++ drop ∷ [] }

-- the door has closed or failed
abbrev pub finished : Admissions → Admissions
finished a = record a { done = true }

-- which table of the door and which ledger it is
pub record DoorId : Type 0 where
  pub table : TableId
  pub ledger : ℕ
  pub parts : ℕ

-- with one more entry
abbrev pub entered : Entry → Admissions → Admissions
entered e a = record { links = a.links ++ links_in e; drops = a.drops ++ drops_in e; done = a.done || is_done e }
