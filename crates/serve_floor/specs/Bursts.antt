-- What the pump's last burst and the publisher leave: devices that have stopped, and units whose samples are all published.
use Rattle.std.specs.Prelude.{◌≡◌, ◌<◌, ◌⊎◌, ℕ, true, is_some, List, [], Option, slice_index_or}
use Rattle.book_units.specs.Units.{UnitView}
use Rattle.hub_promise.specs.declared.ends.DeviceEnd.{DeviceEnd}
use Rattle.shm_segment.specs.declared.publisher.Phase.TheVariants.{Idle}
use Rattle.shm_segment.specs.Publishing.{count_of}

-- a device has ended or was lost
abbrev pub HasStopped : Option DeviceEnd → Type 0
HasStopped end = is_some end ≡ true

-- no sample is being stored, and none waits, unless the count is spent
pub record IsAtRest (u : UnitView) : Type 0 where
  pub idle : u.publisher.phase ≡ Idle
  pub none : (u.waiting ≡ []) ⊎ (count_of u.publisher ≡ 2_147_483_646)

abbrev pub IsAtRestIn : ℕ → List UnitView → Type 0
IsAtRestIn unit units = (free : UnitView) → IsAtRest (slice_index_or units unit free)

-- the first n units
abbrev pub AreAtRest : ℕ → List UnitView → Type 0
AreAtRest count units = (unit : ℕ) → unit < count → IsAtRestIn unit units
