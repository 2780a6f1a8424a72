-- What contracts see of a unit: what its publisher has published, what waits, and where the last turn was.
use Rattle.std.specs.Prelude.{◌≡◌, ℕ, ◌+◌, ◌*◌, ◌≤◌, List, [], ◌∷◌, ◌++◌, length, take, drop, map, slice_index}
use Rattle.std.specs.List.{All}
use Rattle.gps_report.specs.declared.report.Report.{Report}
use Rattle.shm_segment.specs.declared.publisher.Phase.{Phase}
use Rattle.shm_segment.specs.declared.publisher.Phase.TheVariants.{ToInvalid}
use Rattle.shm_segment.specs.declared.sample.Sample.{Sample}
use Rattle.shm_segment.specs.Publishing.{Publishing, IsPublishing, opened}
use Rattle.shm_segment.specs.Seats.{SegmentId}
use Rattle.shm_segment.specs.Words.{published_after}
use Rattle.book_units.specs.Samples.{samples_of}

-- a unit: its publisher, the samples that wait for it, how many were published at the last turn, and how many that turn carried
pub record UnitView : Type 0 where
  pub publisher : Publishing
  pub waiting : List Sample
  pub from : ℕ
  pub carry : ℕ

-- a unit, and how many more samples it has room for
pub record RoomView : Type 0 where
  pub unit : UnitView
  pub spare : ℕ

-- the units of a book, and the room of each
pub record UnitsView : Type 0 where
  pub units : List UnitView
  pub spare : List ℕ

abbrev pub units_view : List RoomView → UnitsView
units_view rooms = record { units = map (λ (r : RoomView). r.unit) rooms; spare = map (λ (r : RoomView). r.spare) rooms }

-- the begun sample that has no store yet
abbrev pub unstored : Phase → Sample → List Sample
unstored ToInvalid sample = sample ∷ []
unstored phase sample = []

abbrev pub begun_by : Publishing → List Sample
begun_by p = p.samples ++ unstored p.phase p.begun

-- all samples of the run: the published ones, the one that is begun and not published, the waiting ones
abbrev pub all_of : UnitView → List Sample
all_of u = begun_by u.publisher ++ u.waiting

abbrev pub published_by : UnitView → ℕ
published_by u = published_after u.publisher.stores

-- the sample that is begun and not published, and then the waiting ones
abbrev pub left_of : UnitView → List Sample
left_of u = drop (published_by u) (all_of u)

-- the samples that were not published before the last turn
abbrev pub since_turn : UnitView → List Sample
since_turn u = drop u.from (all_of u)

-- the samples that the last turn carried
abbrev pub carried_by : UnitView → List Sample
carried_by u = take u.carry (since_turn u)

-- the samples published since the last turn
abbrev pub published_since : UnitView → List Sample
published_since u = drop u.from (take (published_by u) u.publisher.samples)

abbrev pub segment_of : UnitView → SegmentId
segment_of u = u.publisher.segment

-- what a unit keeps
pub record IsUnit (u : UnitView) : Type 0 where
  pub publishing : IsPublishing u.publisher
  pub from : u.from ≤ published_by u
  pub carry : u.from + u.carry ≤ length (all_of u)
  pub few : length u.waiting ≤ 4_294_967_294

-- the samples since the last turn are the published ones, and then those that are left
abbrev pub IsInOrder : UnitView → Type 0
IsInOrder u = since_turn u ≡ published_since u ++ left_of u

-- a unit of a new segment
abbrev pub new_unit : SegmentId → UnitView
new_unit segment = record { publisher = opened segment; waiting = []; from = 0; carry = 0 }

-- a new unit, whose samples are numbered from first + 1 on
abbrev pub IsNew : ℕ → UnitView → Type 0
IsNew first u = (u.publisher.segment.first ≡ first) × (u ≡ new_unit u.publisher.segment)

-- a unit has room for the samples that these reports give to it
abbrev pub HasRoom : List ℕ → List Report → Type 0
HasRoom spare reports = (u : ℕ) → length (samples_of u reports) ≤ slice_index spare u

-- both units of the device have room for this many more samples
abbrev pub HasRoomAt : ℕ → ℕ → List ℕ → Type 0
HasRoomAt device more spare = (more ≤ slice_index spare (2 * device)) × (more ≤ slice_index spare (2 * device + 1))

-- a unit by its parts
abbrev pub room_view : Publishing → List Sample → ℕ → ℕ → ℕ → RoomView
room_view publisher waiting from carry spare =
    record { unit = record { publisher = publisher; waiting = waiting; from = from; carry = carry }; spare = spare }

-- a unit of this segment, whose first number is this
pub record IsUnitOf (segment : SegmentId) (first : ℕ) (u : UnitView) : Type 0 where
  pub part : u.publisher.segment ≡ segment
  pub first_is : u.publisher.segment.first ≡ first
  pub keeps : IsUnit u

-- all these reports are of one device
abbrev pub AreOf : ℕ → List Report → Type 0
AreOf device reports = All (λ (r : Report). r.device ≡ device) reports
