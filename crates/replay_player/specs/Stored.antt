-- A unit by three numbers: its first number, all its samples, and how many stores its publisher has made. What it does next, and what it shows, is a
-- function of these. This project's own; count and its greatest value are those of the NTP reference clock driver 28.
use Rattle.std.specs.Prelude.{◌≡◌, ◌≢◌, ℕ, ◌+◌, ◌-◌, ◌*◌, ◌/◌, ◌%◌, ◌≤◌, Bool, true, false, not, ◌&&◌, ◌||◌, ◌==◌, nat_lt, List, length, min, if◌then◌else◌}
use Rattle.shm_segment.specs.declared.publisher.Phase.TheVariants.{ToInvalid}
use Rattle.shm_segment.specs.declared.sample.Sample.{Sample}
use Rattle.shm_segment.specs.Publishing.{IsPlace, position_of}
use Rattle.shm_segment.specs.Words.{count_after, published_after}
use Rattle.book_units.specs.declared.unit.UnitState.{UnitState}
use Rattle.book_units.specs.declared.unit.UnitStep.{UnitStep}
use Rattle.book_units.specs.declared.unit.UnitStep.TheVariants.{Stored, Empty, Spent}
use Rattle.book_units.specs.Units.{UnitView, all_of}

-- between two steps of a unit: no sample is begun that has no store, each sample with a store but the last has its thirteen, and the numbers go up to
-- 1,073,741,823
pub record IsStored (first : ℕ) (samples : List Sample) (stores : ℕ) (u : UnitView) : Type 0 where
  pub first_is : u.publisher.segment.first ≡ first
  pub stores_are : u.publisher.stores ≡ stores
  pub samples_are : all_of u ≡ samples
  pub position : stores % 13 ≡ position_of u.publisher.phase
  pub place : IsPlace u.publisher.phase
  pub begun : u.publisher.phase ≢ ToInvalid
  pub count : length u.publisher.samples ≡ (stores + 12) / 13
  pub numbers : first + (stores + 12) / 13 ≤ 1_073_741_823

-- a sample is being stored, or one is not yet published and count is not at its greatest
unfoldable pub makes_store : ℕ → List Sample → ℕ → Bool
makes_store first samples stores =
    not (stores % 13 == 0) || (nat_lt (published_after stores) (length samples) && not (count_after first stores == 2_147_483_646))

-- the number of stores after one more step
unfoldable pub stores_next : ℕ → List Sample → ℕ → ℕ
stores_next first samples stores = if makes_store first samples stores then stores + 1 else stores

abbrev pub is_store : UnitStep → Bool
is_store (Stored word value) = true
is_store Empty = false
is_store Spent = false

-- how many samples are published, count, and how many samples are left
abbrev pub shown_state : ℕ → List Sample → ℕ → UnitState
shown_state first samples stores =
    record { published = published_after stores; count = count_after first stores; left = length samples - published_after stores }

-- the number of stores if steps make no more: each sample has its thirteen, or the numbers are used up
abbrev pub stores_at_end : ℕ → List Sample → ℕ
stores_at_end first samples = 13 * min (length samples) (1_073_741_823 - first)
