-- A world in memory: what it still holds.
use Rattle.std.specs.Prelude.{◌≡◌, ℕ, Bool, not, List, [], ◌∷◌, if◌then◌else◌, Option, Some, None, option_map}
use Rattle.std.specs.Option.{option_and_then}
use Rattle.gps_fixed.specs.Moment.{Moment}
use Rattle.gps_outside.specs.Counts.{one_more}
use Rattle.gps_outside.specs.ClockPlans.{Set}
use Rattle.gps_outside.specs.DoorPlans.{Gate, links_of}
use Rattle.gps_outside.specs.Told.{Stream}
use Rattle.gps_world.specs.declared.place.Place.{Place}
use Rattle.gps_world.specs.declared.world.Opened.{Opened}
use Rattle.gps_world.specs.declared.world.Opened.TheVariants.{Ready, Failed}
use Rattle.gps_world.specs.Asking.{Asking, asked_for, listened_to}
use Rattle.gps_world.specs.Places.{same_place}

-- the sources that are left, each with its place, the door until it is given, the clock that is given next, the counts and what was asked
pub record Stock (I K : Type 0) : Type 0 where
  pub places : List (Place × I)
  pub door : Option (Gate I K)
  pub clock : Set
  pub asked : Asking
  pub input_faults : ℕ
  pub listen_faults : ℕ

-- a source of another place
abbrev pub differs : {I : Type 0} → Place → Place × I → Bool
differs place first = not (same_place first.0 place)

-- the first source of a place
unfoldable pub source_at : {I : Type 0} → Place → List (Place × I) → Option I
source_at place [] = None
source_at place (first ∷ rest) = if same_place first.0 place then Some first.1 else source_at place rest

-- all but the first source of a place
unfoldable pub without_first : {I : Type 0} → Place → List (Place × I) → List (Place × I)
without_first place [] = []
without_first place (first ∷ rest) = if same_place first.0 place then rest else first ∷ without_first place rest

abbrev pub opened_of : {T : Type 0} → Option T → Opened T
opened_of (Some object) = Ready object
opened_of None = Failed

-- a refusal is counted
abbrev pub faults_after : {T : Type 0} → Option T → ℕ → ℕ
faults_after (Some object) faults = faults
faults_after None faults = one_more faults

-- a clock that gives this stamp for ever
abbrev pub stopped : Moment → Set
stopped last = record { dial = record { may = last ∷ []; left = [] }; last = last }

abbrev pub after_input : {I K : Type 0} → Place → Stock I K → Stock I K
after_input place stock =
    record stock {
      places = without_first place stock.places;
      asked = asked_for place stock.asked;
      input_faults = faults_after (source_at place stock.places) stock.input_faults;
    }

-- the bytes that are left in the first source of a place, if they are modelled
abbrev pub bytes_at : {I : Type 0} → (I → Option Stream) → List (Place × I) → Place → Option (List ℕ)
bytes_at content places place = option_and_then (λ source. option_map (λ (stream : Stream). stream.left) (content source)) (source_at place places)

-- each source is as P says
abbrev pub HaveSources : {I : Type 0} → (I → Type 0) → List (Place × I) → Type 0
HaveSources P [] = Unit {0}
HaveSources P (first ∷ rest) = P first.1 × HaveSources P rest

-- nobody asked the door yet
pub record IsUnusedGate {I K : Type 0} (gate : Gate I K) : Type 0 where
  pub no_fault : gate.faults ≡ 0
  pub no_quiet : gate.quiets ≡ 0

-- the links of the door, until it is given
abbrev pub links_in : {I K : Type 0} → Option (Gate I K) → List (I × K)
links_in None = []
links_in (Some gate) = links_of gate.plan

-- the clock, or after it one that gives its last stamp for ever
abbrev pub clock_or : Moment → Option Set → Set
clock_or last None = stopped last
clock_or last (Some clock) = clock

abbrev pub after_listen : {I K : Type 0} → List ℕ → Stock I K → Stock I K
after_listen address stock = record stock { door = None; asked = listened_to address stock.asked }

abbrev pub after_clock : {I K : Type 0} → Stock I K → Stock I K
after_clock stock = record stock { clock = stopped stock.clock.last }
