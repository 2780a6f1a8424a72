-- A lane between two ends: what was put into it is what was received from it, and then what it holds; and what was put is a prefix of something
-- that is due.
-- At most one end puts, and it has the list of what was put; the same for getting.
use Rattle.std.specs.Prelude.{◌≡◌, ◌⊎◌, ℕ, Bool, true, List, [], ◌++◌, length}
use mathlib.Core.Option.{some}
use lib.ListN.{get_elem?}
use Rattle.session_core.specs.declared.subject.Subject.{Subject}
use Rattle.session_core.specs.Naming.{OutletName, alone, of_table, untold}
use Rattle.session_runs.specs.Due.{IsDue}
use Rattle.gps_lane.specs.declared.order.Flow.{Flow}
use Rattle.gps_lane.specs.declared.order.LaneLog.{LaneLog}

abbrev pub log : {X : Type 0} → Bool → Bool → X → X → LaneLog X
log puts gets put got = record { puts = puts; gets = gets; put = put; got = got }

-- what an end knows is so, if `writer` is the number of the end that puts, and `reader` that of the end that gets
abbrev pub Fits : {X : Type 0} → ℕ → ℕ → X → X → ℕ → LaneLog X → Type 0
Fits writer reader put got end v = (v.puts ≡ true → (end ≡ writer) × (v.put ≡ put)) × (v.gets ≡ true → (end ≡ reader) × (v.got ≡ got))

-- what each end knows is so
abbrev pub AllFit : {X : Type 0} → ℕ → ℕ → X → X → List (LaneLog X) → Type 0
AllFit {X} writer reader put got views = (end : ℕ) (v : LaneLog X) → get_elem? views end ≡ some v → Fits writer reader put got end v

-- items that went through a lane, and what the lane is about
abbrev pub flow : {T : Type 0} → Subject → List T → Flow T
flow about items = record { about = about; items = items }

-- before anything goes through it
abbrev pub nothing : {T : Type 0} → Flow T
nothing = flow untold []

-- more items go through it
abbrev pub with_items : {T : Type 0} → List T → Flow T → Flow T
with_items more f = record f { items = f.items ++ more }

-- these are none, or the first of all that is due
abbrev pub Begins : {T : Type 0} → (Subject → List T → Type 0) → Subject → List T → Type 0
Begins {T} due about first = (first ≡ []) ⊎ ((rest : List T) × due about (first ++ rest))

-- what an outlet of this name may keep: if it is of a table, what begins something that is due to its client
abbrev pub MayKeep : OutletName → List (List ℕ) → Type 0
MayKeep alone items = Unit {0}
MayKeep (of_table table about) items = Begins IsDue about items

abbrev pub FlowBegins : {T : Type 0} → (Subject → List T → Type 0) → Flow T → Type 0
FlowBegins due f = Begins due f.about f.items

abbrev pub IsInOrder : {T : Type 0} → (Subject → List T → Type 0) → List T → List (LaneLog (Flow T)) → Type 0
IsInOrder {T} due items views =
    (writer : ℕ) × (reader : ℕ) × (about : Subject) × (put : List T) × (got : List T) × (put ≡ got ++ items) × Begins due about put
    × AllFit writer reader (flow about put) (flow about got) views

-- these are the last of all
abbrev pub EndsWith : {T : Type 0} → List T → List T → Type 0
EndsWith {T} last all = (front : List T) × (all ≡ front ++ last)

-- at least n items were put: these are the last of them
abbrev pub PutAtLeast : {T : Type 0} → ℕ → List T → Type 0
PutAtLeast {T} n put = (held : List T) × (length held ≡ n) × EndsWith held put
