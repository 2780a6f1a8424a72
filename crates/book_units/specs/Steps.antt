-- One step of a unit's publisher, and what a unit shows. This project's own; count and its greatest value are those of the segment's words.
use Rattle.std.specs.Prelude.{◌≡◌, ◌≢◌, ℕ, ◌<◌, List, [], ◌∷◌, length, slice_set, slice_index_or}
use mathlib.Core.Logic.{◌⊎◌}
use Rattle.shm_segment.specs.declared.publisher.Phase.TheVariants.{Idle}
use Rattle.shm_segment.specs.declared.sample.Sample.{Sample}
use Rattle.shm_segment.specs.Publishing.{IsStore, beginning, count_of}
use Rattle.shm_segment.specs.declared.view.Load.{Load}
use Rattle.shm_segment.specs.declared.view.Numbered.{Numbered}
use Rattle.shm_segment.specs.Rule.{IsBorneOut}
use Rattle.shm_segment.specs.Views.{known}
use Rattle.book_units.specs.declared.unit.UnitState.{UnitState}
use Rattle.book_units.specs.declared.unit.UnitStep.{UnitStep}
use Rattle.book_units.specs.declared.unit.UnitStep.TheVariants.{Stored, Empty, Spent}
use Rattle.book_units.specs.Units.{UnitView, all_of, published_by, left_of, since_turn, carried_by}

-- the first waiting sample is begun
abbrev pub Begins : UnitView → UnitView → Type 0
Begins old new =
    (sample : Sample) × (old.waiting ≡ sample ∷ new.waiting) × (new ≡ record old { publisher = beginning old.publisher sample; waiting = new.waiting })

-- a unit that has a next store: if none was being made and count is not spent, the first waiting sample is begun
abbrev pub IsReady : UnitView → UnitView → Type 0
IsReady old ready =
    ((old.publisher.phase ≢ Idle) × (ready ≡ old)) ⊎ ((old.publisher.phase ≡ Idle) × (count_of old.publisher ≢ 2_147_483_646) × Begins old ready)

-- one store is made, that of the segment's rule
abbrev pub StoresAs : UnitView → UnitStep → UnitView → Type 0
StoresAs ready (Stored word value) new = IsStore ready.publisher word value new.publisher × (new ≡ record ready { publisher = new.publisher })
StoresAs ready Empty new = ⊥
StoresAs ready Spent new = ⊥

-- Empty exactly if the phase is Idle and no sample waits, Spent exactly if it is Idle, a sample waits and count is 2,147,483,646; else one store is made
abbrev pub PublishesAs : UnitView → UnitStep → UnitView → Type 0
PublishesAs old (Stored word value) new =
    (ready : UnitView) × IsReady old ready × StoresAs ready (Stored word value) new
PublishesAs old Empty new = (old.publisher.phase ≡ Idle) × (old.waiting ≡ []) × (new ≡ old)
PublishesAs old Spent new =
    (old.publisher.phase ≡ Idle) × (0 < length old.waiting) × (count_of old.publisher ≡ 2_147_483_646) × (new ≡ old)

-- a step of one unit, by which no sample is lost, taken twice or moved
pub record Steps (step : UnitStep) (old new : UnitView) : Type 0 where
  pub does : PublishesAs old step new
  pub all : all_of new ≡ all_of old
  pub since : since_turn new ≡ since_turn old
  pub carried : carried_by new ≡ carried_by old

-- this unit takes a step, and no other changes
pub record Publishes (u : ℕ) (step : UnitStep) (old new : List UnitView) : Type 0 where
  pub next : UnitView
  pub units : new ≡ slice_set old u next
  pub steps : (x : UnitView) → Steps step (slice_index_or old u x) next

-- how many samples this run has published, the word count, and how many samples are left
abbrev pub state_of : UnitView → UnitState
state_of u = record { published = published_by u; count = count_of u.publisher; left = length (left_of u) }

-- the pairs and loads of a monitor are those of the unit's own publisher
abbrev pub BearsOut : UnitView → List Numbered → List Load → Type 0
BearsOut u taken loads = IsBorneOut u.publisher.segment.first (known u.publisher.samples u.publisher.stores) taken loads
