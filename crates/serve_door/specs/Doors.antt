-- What the door worker did.
use Rattle.std.specs.Prelude.{◌≡◌, ◌<◌, ◌≤◌, ◌+◌, ◌-◌, ◌^◌, ◌⊎◌, ℕ, suc, Bool, true, false, List, [], ◌∷◌, ◌++◌, length, map, min, Option}
use Rattle.std.specs.List.{AllZip}
use Rattle.gps_outside.specs.Counts.{Rose, one_more}
use Rattle.gps_outside.specs.Links.{IsUnread, IsUnwritten, PassLinks}
use Rattle.gps_outside.specs.Told.{Goes, Stream}
use Rattle.book_sessions.specs.Roster.{most_live}
use Rattle.gps_hub.specs.Admitting.{HasBound}
use Rattle.hub_door.specs.Admissions.{Admissions, LinkDrop, SessionLanes, link_of}
use Rattle.serve_workers.specs.declared.session.SessionLink.{SessionLink}
use Rattle.serve_door.specs.declared.seated.Seated.{Seated}

-- the link on which a session's threads work
abbrev pub link_at : {S K R : Type 0} → Seated S K R → SessionLink S K R
link_at seated = seated.attended

abbrev pub links_at : {S K R : Type 0} → List (Seated S K R) → List (SessionLink S K R)
links_at seated = map link_at seated

-- its two lanes
abbrev pub lanes_of : {S K R : Type 0} → ℕ → SessionLink S K R → SessionLanes
lanes_of queue link = link_of link.items.lane queue link.pieces.lane

-- nothing went through its lanes
abbrev pub HasNewLanes : {S K R : Type 0} → SessionLink S K R → Type 0
HasNewLanes link = (link.items.got ≡ []) × (link.pieces.put ≡ [])

-- nothing was taken from its source, nor written to its sink
abbrev pub IsNewLink : {S K R : Type 0} → (S → Option Stream) → (S → ℕ) → (S → ℕ) → (K → Option (List ℕ)) → (K → ℕ) → SessionLink S K R → Type 0
IsNewLink content faults quiets written sink_faults link =
    IsUnread (content link.source) (faults link.source) (quiets link.source) × IsUnwritten (written link.sink) (sink_faults link.sink)

abbrev pub EachLink : {L : Type 0} → (L → Type 0) → List L → Type 0
EachLink P [] = Unit {0}
EachLink P (link ∷ links) = P link × EachLink P links

-- The sessions that were admitted are those of these links, in order, each with its two lanes. Nothing went through the lanes before, and P holds of
-- each link as it came.
pub record AreSeated {S K R : Type 0} (P : SessionLink S K R → Type 0) (queue : ℕ) (links : List (SessionLink S K R)) (seat : Admissions) : Type 0 where
  pub lanes : map (lanes_of queue) links ≡ seat.links
  pub unused : EachLink HasNewLanes links
  pub each : EachLink P links

-- The same, without P, for some number of items that an outlet may hold.
pub record HaveLanes {S K R : Type 0} (links : List (SessionLink S K R)) (seat : Admissions) : Type 0 where
  pub queue : ℕ
  pub lanes : map (lanes_of queue) links ≡ seat.links
  pub unused : EachLink HasNewLanes links

-- The door's faults do not fall, and it says that the door failed exactly if they rose.
pub record FailsBy (failed : Bool) (faults faults' : ℕ) : Type 0 where
  pub faults_stay : faults ≤ faults'
  pub cause : failed ≡ true → Rose faults faults'
  pub still : failed ≡ false → faults' ≡ faults

-- the door's side of a link: where its bytes come from, and where bytes to it go
abbrev pub Way : Type 0 → Type 0 → Type 0
Way S K = S × K

abbrev pub way_of : {S K R : Type 0} → SessionLink S K R → Way S K
way_of link = (link.source, link.sink)

-- the one list is the other with some left out, in order
abbrev pub IsSublist : {X : Type 0} → List X → List X → Type 0
IsSublist [] ys = Unit {0}
IsSublist (x ∷ xs) [] = ⊥
IsSublist (x ∷ xs) (y ∷ ys) = ((x ≡ y) × IsSublist xs ys) ⊎ IsSublist (x ∷ xs) ys

-- the door as it is: the links that are left, if it tells them; its counts; which links were dropped for a bound, and how many are counted; and
-- whether a link was dropped because there was no memory for it
pub record DoorNow (S K : Type 0) : Type 0 where
  pub left : Option (List (Way S K))
  pub faults : ℕ
  pub quiets : ℕ
  pub drops : List LinkDrop
  pub full : ℕ
  pub no_memory : Bool

abbrev pub door_now : {S K : Type 0} → Option (List (Way S K)) → ℕ → ℕ → List LinkDrop → ℕ → Bool → DoorNow S K
door_now left faults quiets drops full no_memory = record { left = left; faults = faults; quiets = quiets; drops = drops; full = full; no_memory = no_memory }

-- no link is left, if the door told its links
abbrev pub NoneLeft : {L : Type 0} → Option (List L) → Option (List L) → Type 0
NoneLeft told left = Goes (λ before after. after ≡ []) told left

-- it was asked: a link was taken, its quiets or faults are above 0, or no link is left
abbrev pub WasAsked : {S K : Type 0} → Option (List (Way S K)) → List (Way S K) → DoorNow S K → Type 0
WasAsked told taken now = (0 < length taken) ⊎ (0 < now.quiets) ⊎ (0 < now.faults) ⊎ NoneLeft told now.left

-- a link was dropped for a bound, when this many sessions had been admitted, which are at least 64
pub record IsDropped (admitted : ℕ) (drop : LinkDrop) : Type 0 where
  pub bound : HasBound drop
  pub some : most_live ≤ admitted
  pub opened : drop.opened ≡ admitted

-- What became of the links that were taken, in order, if this many sessions had been admitted before: each is that of the next session, or was
-- dropped for a bound or for lack of memory.
abbrev pub Dealt : {X : Type 0} → ℕ → List X → List X → List LinkDrop → Type 0
Dealt admitted [] sessions drops = (sessions ≡ []) × (drops ≡ [])
Dealt {X} admitted (way ∷ taken) sessions drops =
    ((rest : List X) × (sessions ≡ way ∷ rest) × Dealt (suc admitted) taken rest drops)
    ⊎ ((drop : LinkDrop) × (rest : List LinkDrop) × (drops ≡ drop ∷ rest) × IsDropped admitted drop × Dealt admitted taken sessions rest)
    ⊎ Dealt admitted taken sessions drops

-- The links that were taken are the next of those that the door had, in order. Each is that of a session, or was dropped for a bound or for lack of memory.
-- Those that were dropped for a bound are counted, up to the greatest value of a u64. It was out of memory only if a link was dropped for that. Those of
-- sessions are in the order of the sessions; if none was dropped, the k-th is that of session k.
pub record Taken {S K : Type 0} (told : Option (List (Way S K))) (now : DoorNow S K) (sessions : List (Way S K)) (taken : List (Way S K)) : Type 0 where
  pub passed : Goes (PassLinks taken) told now.left
  pub few : length sessions + length now.drops ≤ length taken
  pub uncounted : now.no_memory ≡ true → length sessions + length now.drops < length taken
  pub count : now.no_memory ≡ false → length taken ≡ length sessions + length now.drops
  pub full : now.full ≡ min (length now.drops) (2 ^ 64 - 1)
  pub dealt : Dealt 0 taken sessions now.drops
  pub each : length taken ≡ length sessions → sessions ≡ taken
  pub order : IsSublist sessions taken

-- So far the door was tended: it was asked, unless it is still to be asked, and says that it has closed or failed only if no link is left or its
-- faults rose.
pub record Tends {S K : Type 0} (told : Option (List (Way S K))) (now : DoorNow S K) (sessions : List (Way S K)) (done to_ask : Bool) : Type 0 where
  pub taken : List (Way S K)
  pub takes : Taken told now sessions taken
  pub asked : (to_ask ≡ true) ⊎ WasAsked told taken now
  pub closed : done ≡ true → NoneLeft told now.left ⊎ (0 < now.faults)

-- one more link was dropped for a bound, when this many sessions had been admitted and this many were not yet released
pub record Drops (admitted held : ℕ) (old new : List LinkDrop) : Type 0 where
  pub drop : LinkDrop
  pub is : IsDropped admitted drop
  pub held_is : drop.held ≡ held
  pub list : new ≡ old ++ drop ∷ []

-- the links that were dropped for a bound, how many are counted, and whether one was dropped for lack of memory
pub record Tally : Type 0 where
  pub drops : List LinkDrop
  pub full : ℕ
  pub no_memory : Bool

abbrev pub tally : List LinkDrop → ℕ → Bool → Tally
tally drops full no_memory = record { drops = drops; full = full; no_memory = no_memory }

-- What became of a link, when this many sessions were not yet released: it is that of the next session, or was dropped for a bound or
-- for lack of memory.
abbrev pub Deals : {S K : Type 0} → ℕ → Way S K → List (Way S K) → List (Way S K) → Tally → Tally → Type 0
Deals held way old new was now =
    ((new ≡ old ++ way ∷ []) × (now ≡ was))
    ⊎ ((new ≡ old) × (now.full ≡ one_more was.full) × (now.no_memory ≡ was.no_memory) × Drops (length old) held was.drops now.drops)
    ⊎ ((new ≡ old) × (now.drops ≡ was.drops) × (now.full ≡ was.full) × (now.no_memory ≡ true))

-- what became of the links that the door gave
pub record Tended {S K R Run : Type 0} (P : SessionLink S K R → Type 0) (Runs : SessionLink S K R → Run → Type 0) (queue : ℕ)
    (told : Option (List (Way S K))) (now : DoorNow S K)
    (seat : Admissions) (runs : List Run) : Type 0 where
  pub links : List (SessionLink S K R)
  pub seated : AreSeated P queue links seat
  pub ran : AllZip Runs links runs
  pub tends : Tends told now (map way_of links) seat.done false
