-- What contracts see of a publisher, and what its calls do. This project's own; count and valid are those of the NTP reference clock driver 28, mode 1.
use Rattle.std.specs.Prelude.{if◌then◌else◌, nat_lt, ◌≡◌, ◌≢◌, ℕ, ◌+◌, ◌*◌, ◌/◌, ◌%◌, ◌<◌, ◌≤◌, List, [], ◌∷◌, ◌++◌, length, take, slice_set, slice_index_or}
use Rattle.atomic_table.specs.Seated.{TableId}
use Rattle.atomic_table.specs.Table.{Me}
use Rattle.shm_segment.specs.declared.publisher.Begin.{Begin}
use Rattle.shm_segment.specs.declared.publisher.Begin.TheVariants.{Begun, Busy, CountSpent}
use Rattle.shm_segment.specs.declared.publisher.Phase.{Phase}
use Rattle.shm_segment.specs.declared.publisher.Phase.TheVariants.{Idle, ToInvalid, ToOdd, ToBody, ToEven, ToValid}
use Rattle.shm_segment.specs.declared.publisher.PubStep.{PubStep}
use Rattle.shm_segment.specs.declared.publisher.PubStep.TheVariants.{Stored}
use Rattle.shm_segment.specs.declared.publisher.PubStep.TheVariants.{Idle as NothingToStore}
use Rattle.shm_segment.specs.declared.sample.Sample.{Sample}
use Rattle.shm_segment.specs.declared.view.View.{View}
use Rattle.shm_segment.specs.Samples.{IsSample, no_sample}
use Rattle.shm_segment.specs.Words.{count_after, words_of, stores_of}
use Rattle.shm_segment.specs.Views.{known, publisher}
use Rattle.shm_segment.specs.Seats.{SegmentId, Noticed}

-- a publisher: the samples whose first store was made, the number of stores, what it does next, and the sample begun last
pub record Publishing : Type 0 where
  pub segment : SegmentId
  pub samples : List Sample
  pub stores : ℕ
  pub phase : Phase
  pub begun : Sample

-- a publisher of a new segment
abbrev pub opened : SegmentId → Publishing
opened segment = record { segment = segment; samples = []; stores = 0; phase = Idle; begun = no_sample }

-- the stores of the sample that were made
abbrev pub position_of : Phase → ℕ
position_of Idle = 0
position_of ToInvalid = 0
position_of ToOdd = 1
position_of (ToBody place) = place + 2
position_of ToEven = 11
position_of ToValid = 12

-- how far count is above twice the number of the last sample that has its thirteen stores
abbrev pub flag_of : Phase → ℕ
flag_of Idle = 0
flag_of ToInvalid = 0
flag_of ToOdd = 0
flag_of (ToBody place) = 1
flag_of ToEven = 1
flag_of ToValid = 2

-- which phase follows
abbrev pub next_of : Phase → Phase
next_of Idle = Idle
next_of ToInvalid = ToOdd
next_of ToOdd = ToBody 0
next_of (ToBody place) = if nat_lt place 8 then ToBody (place + 1) else ToEven
next_of ToEven = ToValid
next_of ToValid = Idle

abbrev pub IsPlace : Phase → Type 0
IsPlace (ToBody place) = place < 9
IsPlace phase = Unit {0}

-- the samples that are begun but have no store
abbrev pub waiting_of : Phase → ℕ
waiting_of ToInvalid = 1
waiting_of phase = 0

-- what a publisher keeps: the phase is that of the stores, each sample but the one being written has its thirteen stores, and all numbers are at most
-- 1,073,741,823
pub record IsPublishing (p : Publishing) : Type 0 where
  pub position : p.stores % 13 ≡ position_of p.phase
  pub place : IsPlace p.phase
  pub count : length p.samples ≡ (p.stores + 12) / 13
  pub numbers : p.segment.first + length p.samples + waiting_of p.phase ≤ 1_073_741_823
  pub writes : 0 < position_of p.phase → p.samples ≡ take (p.stores / 13) p.samples ++ p.begun ∷ []
  pub range : IsSample p.begun

-- the same of the publisher's fields: its number is that of the last sample that has its thirteen stores
abbrev pub publishing : TableId → View → Phase → Sample → Publishing
publishing table v phase begun =
    record { segment = record { table = table; first = v.first }; samples = v.known.samples; stores = v.known.stores; phase = phase; begun = begun }

pub record IsPublisher (table : TableId) (me : Me (Unit {0}) View) (number : ℕ) (phase : Phase) (begun : Sample) : Type 0 where
  pub view : me ≡ (publisher me.0.first me.0.known.samples me.0.known.stores, [])
  pub numbers : number ≡ me.0.first + me.0.known.stores / 13
  pub keeps : IsPublishing (publishing table me.0 phase begun)

-- a notice of what it has published
abbrev pub noticed : Publishing → Noticed
noticed p = record { segment = p.segment; known = known p.samples p.stores }

abbrev pub count_of : Publishing → ℕ
count_of p = count_after p.segment.first p.stores

-- the publisher that has begun this sample
abbrev pub beginning : Publishing → Sample → Publishing
beginning p sample = record { segment = p.segment; samples = p.samples; stores = p.stores; phase = ToInvalid; begun = sample }

-- Busy exactly if the phase is not Idle, CountSpent exactly if it is Idle and count is 2,147,483,646; else the sample is begun, without a store
abbrev pub BeginsAs : Publishing → Sample → Begin → Publishing → Type 0
BeginsAs old sample Begun new =
    (old.phase ≡ Idle) × (count_of old ≢ 2_147_483_646) × (new ≡ beginning old sample)
BeginsAs old sample (Busy phase) new = (old.phase ≢ Idle) × (phase ≡ old.phase) × (new ≡ old)
BeginsAs old sample CountSpent new = (old.phase ≡ Idle) × (count_of old ≡ 2_147_483_646) × (new ≡ old)

-- the first store of a sample adds it to the list
abbrev pub samples_next : Phase → List Sample → Sample → List Sample
samples_next ToInvalid samples begun = samples ++ begun ∷ []
samples_next phase samples begun = samples

abbrev pub stepped : Publishing → Publishing
stepped p =
    record { segment = p.segment; samples = samples_next p.phase p.samples p.begun; stores = p.stores + 1; phase = next_of p.phase; begun = p.begun }

abbrev pub words_now : Publishing → List ℕ
words_now p = words_of p.segment.first p.samples p.stores

-- the store of this word is the next of the sample's thirteen, and it makes the words those of one store more
pub record IsStore (old : Publishing) (word value : ℕ) (new : Publishing) : Type 0 where
  pub order : (word, value) ≡ slice_index_or (stores_of (2 * (old.segment.first + old.stores / 13)) old.begun) (position_of old.phase) (0, 0)
  pub leads : slice_set (words_now old) word value ≡ words_now new
  pub becomes : new ≡ stepped old

-- Idle exactly if the phase is Idle
abbrev pub StepsAs : Publishing → PubStep → Publishing → Type 0
StepsAs old NothingToStore new = (old.phase ≡ Idle) × (new ≡ old)
StepsAs old (Stored word value) new = (old.phase ≢ Idle) × IsStore old word value new

-- the seat is this segment's publisher, and has made this number of stores of a sample
pub record IsWriting (segment : SegmentId) (table : TableId) (me : Me (Unit {0}) View) (position : ℕ) : Type 0 where
  pub part : table ≡ segment.table
  pub view : me ≡ (publisher segment.first me.0.known.samples me.0.known.stores, [])
  pub made : me.0.known.stores % 13 ≡ position
