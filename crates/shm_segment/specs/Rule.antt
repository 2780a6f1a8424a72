-- The rule that every step keeps: what the words are, and what each seat may know. This project's own; that count is odd while the body is written is
-- that of the NTP reference clock driver 28, mode 1.
use Rattle.std.specs.Prelude.{◌≡◌, ◌≢◌, ℕ, ◌+◌, ◌-◌, ◌*◌, ◌%◌, ◌<◌, ◌≤◌, List, [], ◌∷◌, ◌++◌, length, take, slice_get, slice_index, Some}
use Rattle.std.specs.List.{All}
use mathlib.Core.Option.{some}
use lib.ListN.{get_elem?}
use Rattle.atomic_table.specs.Table.{State}
use Rattle.shm_segment.specs.declared.sample.Sample.{Sample}
use Rattle.shm_segment.specs.declared.view.KnownSamples.{KnownSamples}
use Rattle.shm_segment.specs.declared.view.Load.{Load}
use Rattle.shm_segment.specs.declared.view.Numbered.{Numbered}
use Rattle.shm_segment.specs.declared.view.Role.TheVariants.{Publishes, Spent}
use Rattle.shm_segment.specs.declared.view.View.{View}
use Rattle.shm_segment.specs.Samples.{IsSample}
use Rattle.shm_segment.specs.Words.{published_after, count_after, body_after, words_of}

-- the publisher's samples reach every sample whose first store was made; they are in range, and the greatest number is 1,073,741,823
pub record IsSound (first : ℕ) (samples : List Sample) (stores : ℕ) : Type 0 where
  pub reaches : stores ≤ 13 * length samples
  pub ranges : All IsSample samples
  pub numbers : first + length samples ≤ 1_073_741_823

-- a number of stores not above the publisher's, and a beginning of its samples that reaches every sample whose first store is among these
pub record IsTold (samples : List Sample) (stores : ℕ) (k : KnownSamples) : Type 0 where
  pub earlier : k.stores ≤ stores
  pub reaches : k.stores ≤ 13 * length k.samples
  pub begins : (later : List Sample) × (k.samples ++ later ≡ samples)

-- the pair is the published sample of its number: the k-th published sample has the number first + k
pub record IsPublished (first : ℕ) (samples : List Sample) (stores : ℕ) (pair : Numbered) : Type 0 where
  pub above : first < pair.number
  pub reached : pair.number ≤ first + published_after stores
  pub same : slice_get samples (pair.number - first - 1) ≡ Some pair.sample

-- the load's value is its word after a number of stores, which is not below the number known before it and not above this one
abbrev pub WasShown : ℕ → List Sample → ℕ → Load → Type 0
WasShown first samples stores load =
    (n : ℕ) × (load.told ≤ n) × (n ≤ stores) × (slice_index (words_of first samples n) load.word ≡ load.value)

-- the number of the last pair, or this one
abbrev pub last_from : ℕ → List Numbered → ℕ
last_from number [] = number
last_from number (pair ∷ pairs) = last_from pair.number pairs

-- the numbers do not fall
abbrev pub Rises : ℕ → List Numbered → Type 0
Rises number [] = Unit {0}
Rises number (pair ∷ pairs) = (number ≤ pair.number) × Rises pair.number pairs

-- the first count of a reading is not above count, and twice the last taken number is not above it
pub record IsCounted (first stores last count : ℕ) : Type 0 where
  pub below : count ≤ count_after first stores
  pub last_below : 2 * last ≤ count

-- the count is even, a sample is published, and the part of the body that was loaded so far is the body now
pub record IsWhole (samples : List Sample) (stores count : ℕ) (body : List ℕ) : Type 0 where
  pub even : count % 2 ≡ 0
  pub some : 1 ≤ published_after stores
  pub same : body ≡ take (length body) (body_after samples stores)

-- a running reading: the first count, then a valid that was not 0, then words of the body
abbrev pub IsRunning : ℕ → List Sample → ℕ → ℕ → List ℕ → Type 0
IsRunning first samples stores last [] = Unit {0}
IsRunning first samples stores last (count ∷ []) = IsCounted first stores last count
IsRunning first samples stores last (count ∷ valid ∷ body) =
    IsCounted first stores last count × (0 < valid) × (count_after first stores ≡ count → IsWhole samples stores count body)

-- what holds of one seat's view; the fixed view that a joined seat leaves is excepted
pub record Fits (writer first : ℕ) (samples : List Sample) (stores seat : ℕ) (v : View) : Type 0 where
  pub first_same : v.role ≢ Spent → v.first ≡ first
  pub publishes : v.role ≡ Publishes → (seat ≡ writer) × (v.known.samples ≡ samples) × (v.known.stores ≡ stores)
  pub told : IsTold samples stores v.known
  pub met : IsTold samples stores v.met
  pub taken : All (IsPublished first samples stores) v.taken
  pub rises : Rises 0 v.taken
  pub last_below : 2 * last_from 0 v.taken ≤ count_after first stores
  pub kept : All (WasShown first samples stores) v.kept
  pub running : IsRunning first samples stores (last_from 0 v.taken) v.reading

-- the seat's view is a publisher's
abbrev pub HasPublisher : List View → ℕ → Type 0
HasPublisher views seat = (v : View) × (get_elem? views seat ≡ some v) × (v.role ≡ Publishes)

-- the words are those of the one publisher's view, and each seat's view fits
pub record SegmentHolds (first : ℕ) (words : List ℕ) (views : List View) : Type 0 where
  pub writer : ℕ
  pub samples : List Sample
  pub stores : ℕ
  pub publisher : HasPublisher views writer
  pub words_are : words ≡ words_of first samples stores
  pub sound : IsSound first samples stores
  pub fits : (seat : ℕ) (v : View) → get_elem? views seat ≡ some v → Fits writer first samples stores seat v

abbrev pub HoldsOf : ℕ → State (Unit {0}) View → Type 0
HoldsOf first state = SegmentHolds first state.words state.views

-- a monitor's pairs are published samples of this list, none excepted, and each of its loads is its word after a number of stores between those that
-- it knew of and these
pub record IsBorneOut (first : ℕ) (k : KnownSamples) (taken : List Numbered) (loads : List Load) : Type 0 where
  pub pairs : All (IsPublished first k.samples k.stores) taken
  pub rises : Rises 0 taken
  pub shown : All (WasShown first k.samples k.stores) loads
