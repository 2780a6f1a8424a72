-- What both ends of a lane know of it in common: which queue it goes through, and once they have dropped this queue, all that went through
-- it. Each end has a seat of one table, by which the two agree.
use Rattle.std.specs.Prelude.{◌≡◌, ℕ, true, false, List, [], Option, Some, None}
use Rattle.atomic_table.specs.Seated.{TableId}
use Rattle.atomic_table.specs.Table.{Me, State}
use Rattle.gps_lane.specs.declared.bond.Bond.{Bond}
use Rattle.gps_lane.specs.declared.order.LaneLog.{LaneLog}
use Rattle.gps_lane.specs.declared.table_name.TableName.{TableName}
use Rattle.gps_lane.specs.Lane.{AllFit, log}

abbrev pub table_name : TableId → TableName
table_name id = record { marker = record {}; name = id }

-- the lane goes through this queue
abbrev pub open_over : {T : Type 0} → TableId → Bond T
open_over queue = record { queue = table_name queue; all = None }

-- it went through this queue, and this is all that did
abbrev pub let_go : {T : Type 0} → TableId → List T → Bond T
let_go queue all = record { queue = table_name queue; all = Some all }

-- what both ends know, if they still have a queue or have dropped it
abbrev pub bond_by : {Q T : Type 0} → Option Q → TableId → List T → Bond T
bond_by (Some queue) id all = open_over id
bond_by None id all = let_go id all

-- before it goes through any queue
abbrev pub no_bond : {T : Type 0} → Bond T
no_bond = open_over (record { words = 0; slots = 0; views_name = 0; atom = 0; block = 0; offset = 0; slot_names = [] })

-- the seat of the end that puts, of the end that gets, and of both at once
abbrev pub putting : {T : Type 0} → Bond T → LaneLog (Bond T)
putting bond = log true false bond bond

abbrev pub getting : {T : Type 0} → Bond T → LaneLog (Bond T)
getting bond = log false true bond bond

abbrev pub both_ends : {T : Type 0} → Bond T → Bond T → LaneLog (Bond T)
both_ends put got = log true true put got

-- it is a seat of this table, and knows this
abbrev pub IsSeat : {T : Type 0} → TableId → TableId → Me (Unit {0}) (LaneLog (Bond T)) → LaneLog (Bond T) → Type 0
IsSeat table at me view = (at ≡ table) × (me ≡ (view, []))

-- each end knows the same of the lane
abbrev pub Agrees : {T : Type 0} → List (LaneLog (Bond T)) → Type 0
Agrees {T} views = (writer : ℕ) × (reader : ℕ) × (bond : Bond T) × AllFit writer reader bond bond views

abbrev pub AgreesOf : {T : Type 0} → State (Unit {0}) (LaneLog (Bond T)) → Type 0
AgreesOf state = Agrees state.views
