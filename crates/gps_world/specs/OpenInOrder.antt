-- The result of opening the outside of a daemon.
use Rattle.std.specs.Prelude.{◌≡◌, ◌≢◌, ℕ, ◌≤◌, ◌==◌, ◌⊎◌, if◌then◌else◌, List, [], ◌∷◌, ◌++◌, count_by, Result, Ok, Err, Option, Some, None, option_map}
use Rattle.std.specs.List.{AllByRecursion, AllZip}
use Rattle.gps_fixed.specs.Moment.{Moment}
use Rattle.gps_outside.specs.Counts.{Rose}
use Rattle.gps_outside.specs.Links.{IsUnread}
use Rattle.gps_outside.specs.Ticks.{Dial}
use Rattle.gps_outside.specs.Told.{Stream}
use Rattle.gps_world.specs.Asking.{Asking}
use Rattle.gps_world.specs.declared.place.Place.{Place}
use Rattle.gps_world.specs.Opening.{IsAllLeft}
use Rattle.gps_world.specs.Places.{same_place}
use Rattle.gps_world.specs.declared.opening.Stop.{Stop}
use Rattle.gps_world.specs.declared.opening.Stop.TheVariants.{Input, Listen, NoMemory}

-- the counts of a world: the inputs that could not be opened, and how often listening failed
pub record WorldFaults : Type 0 where
  pub input : ℕ
  pub listen : ℕ

abbrev pub world_faults : ℕ → ℕ → WorldFaults
world_faults input listen = record { input = input; listen = listen }

-- no count falls
pub record FaultsStay (old new : WorldFaults) : Type 0 where
  pub input : old.input ≤ new.input
  pub listen : old.listen ≤ new.listen

-- why it stopped: the count that rose
abbrev pub StopsFor : Stop → WorldFaults → WorldFaults → Type 0
StopsFor Input old new = Rose old.input new.input
StopsFor Listen old new = Rose old.listen new.listen
StopsFor NoMemory old new = Unit {0}

-- where it stopped
abbrev pub OpeningHasCause : {X : Type 0} → Result X Stop → WorldFaults → WorldFaults → Type 0
OpeningHasCause (Ok x) old new = Unit {0}
OpeningHasCause (Err stop) old new = StopsFor stop old new

-- the places of the edges, for the devices that have one
abbrev pub places_in : List (Option Place) → List Place
places_in [] = []
places_in (None ∷ places) = places_in places
places_in (Some place ∷ places) = place ∷ places_in places

-- the places asked for besides are the first of these, and all of them unless it stopped; no address is listened to
abbrev pub AsksFor : {X : Type 0} → Result X Stop → Asking → Asking → List Place → Type 0
AsksFor (Ok x) old new places = (new.places ≡ old.places ++ places) × (new.address ≡ old.address)
AsksFor (Err stop) old new places = ((rest : List Place) × (old.places ++ places ≡ new.places ++ rest)) × (new.address ≡ old.address)

-- so far the places were asked for but for those left
pub record IsAsking (places left : List Place) (old new : Asking) (faults faults' : WorldFaults) : Type 0 where
  pub asked : new.places ++ left ≡ old.places ++ places
  pub address : new.address ≡ old.address
  pub faults_stay : FaultsStay faults faults'

-- the stamps that a clock may give, if they are modelled
abbrev pub dial_of : Option Dial → Option (List Moment)
dial_of stamps = option_map (λ (dial : Dial). dial.may) stamps

-- The places asked for are the first of these. All of them were asked for and the address was listened to, unless it stopped. If it stopped after it had
-- listened, listening failed.
abbrev pub OpenAsks : {X : Type 0} → Result X Stop → Asking → Asking → List Place → List ℕ → Type 0
OpenAsks (Ok x) old new places listen = (new.places ≡ old.places ++ places) × (new.address ≡ Some listen)
OpenAsks (Err stop) old new places listen =
    ((rest : List Place) × (old.places ++ places ≡ new.places ++ rest)) × ((new.address ≡ None) ⊎ ((new.address ≡ Some listen) × (stop ≡ Listen)))

-- of a world that was asked nothing before: the places asked for are the first of these
abbrev pub AsksPrefix : Asking → List Place → List ℕ → Type 0
AsksPrefix asked places listen = ((rest : List Place) × (places ≡ asked.places ++ rest)) × ((asked.address ≡ None) ⊎ (asked.address ≡ Some listen))

-- they are all of these, and the address was listened to
abbrev pub AsksAll : Asking → List Place → List ℕ → Type 0
AsksAll asked places listen = (asked.places ≡ places) × (asked.address ≡ Some listen)

-- nothing was read from any source, if its contents are modelled, and it counted nothing
abbrev pub AreUnread : {S : Type 0} → (S → Option Stream) → (S → ℕ) → (S → ℕ) → List S → Type 0
AreUnread content faults quiets [] = Unit {0}
AreUnread content faults quiets (source ∷ sources) = IsUnread (content source) (faults source) (quiets source) × AreUnread content faults quiets sources

-- the sources of edges, for the devices that have one
abbrev pub sources_in : {S : Type 0} → List (Option S) → List S
sources_in [] = []
sources_in (None ∷ sources) = sources_in sources
sources_in (Some source ∷ sources) = source ∷ sources_in sources

-- the modelled contents of a world's door and clock are as they were
pub record TellsAsBefore {L D : Type 0} (links links' : Option L) (stamps stamps' : Option D) : Type 0 where
  pub links_are : links' ≡ links
  pub stamps_are : stamps' ≡ stamps

-- how often a place is given
abbrev pub times_given : Place → List Place → ℕ
times_given place places = count_by (same_place place) places

-- What is known of the bytes of a place if these are given: nothing of a place that is given twice, since who opens it first may take them.
abbrev pub behind_once : List Place → (Place → Option (List ℕ)) → Place → Option (List ℕ)
behind_once places behind place = if times_given place places == 1 then behind place else None

-- if the bytes of the place are known, they are all left in the source
abbrev pub IsHeld : {S : Type 0} → (Place → Option (List ℕ)) → (S → Option Stream) → Place → S → Type 0
IsHeld behind content place source = IsAllLeft (behind place) (content source)

-- the same of the edges of a device, if it has a place for them
abbrev pub IsEdgeHeld : {S : Type 0} → (Place → Option (List ℕ)) → (S → Option Stream) → Option Place → Option S → Type 0
IsEdgeHeld behind content None None = Unit {0}
IsEdgeHeld behind content (Some place) (Some source) = IsHeld behind content place source
IsEdgeHeld behind content None (Some source) = ⊥
IsEdgeHeld behind content (Some place) None = ⊥

-- it is none of these places
abbrev pub IsNoneOf : Place → List Place → Type 0
IsNoneOf other places = AllByRecursion (λ (place : Place). other ≢ place) places

-- there is one more, and P holds of it
abbrev pub HasOneMore : {X : Type 0} → (X → Type 0) → List X → List X → Type 0
HasOneMore {X} P old new = (x : X) × (new ≡ old ++ x ∷ []) × P x

-- So far all but those left were opened. What is at other places is as it was, and each source is as R says.
pub record IsOpening {A X : Type 0} (places_of : List A → List Place) (R : A → X → Type 0) (behind behind' : Place → Option (List ℕ))
    (given left : List A) (sources : List X) : Type 0 where
  pub done : List A
  pub all : done ++ left ≡ given
  pub others : (other : Place) → IsNoneOf other (places_of done) → behind' other ≡ behind other
  pub held : AllZip R done sources

abbrev pub IsOpeningInputs : {S : Type 0} → (Place → Option (List ℕ)) → (Place → Option (List ℕ)) → (S → Option Stream) → List Place → List Place
    → List S → Type 0
IsOpeningInputs behind behind' content given left sources =
    IsOpening (λ (places : List Place). places) (IsHeld (behind_once given behind) content) behind behind' given left sources

abbrev pub IsOpeningEdges : {S : Type 0} → (Place → Option (List ℕ)) → (Place → Option (List ℕ)) → (S → Option Stream) → List (Option Place)
    → List (Option Place) → List (Option S) → Type 0
IsOpeningEdges behind behind' content given left sources =
    IsOpening places_in (IsEdgeHeld (behind_once (places_in given) behind) content) behind behind' given left sources
