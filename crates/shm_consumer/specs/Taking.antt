-- What contracts see of a taker, and what its calls do.
use Rattle.std.specs.Prelude.{◌≡◌, ℕ, ◌+◌, ◌<◌, ◌≤◌, List, [], ◌∷◌, ◌++◌, length, take, slice_index, Some}
use Rattle.atomic_table.specs.Seated.{TableId}
use Rattle.atomic_table.specs.Table.{Me}
use Rattle.shm_segment.specs.declared.view.Numbered.{Numbered}
use Rattle.shm_segment.specs.Rule.{last_from}
use Rattle.shm_segment.specs.Samples.{IsBody}
use Rattle.shm_segment.specs.Seats.{SegmentId}
use Rattle.shm_consumer.specs.declared.consumption.Consumption.{Consumption}
use Rattle.shm_consumer.specs.declared.consumption.Consumption.TheVariants.{Consumed, NotReady, Clash}
use Rattle.shm_consumer.specs.declared.consumption.TakeStep.{TakeStep}
use Rattle.shm_consumer.specs.declared.consumption.TakeStep.TheVariants.{Loaded, Cleared, Ended}
use Rattle.shm_consumer.specs.declared.view.Access.{Access}
use Rattle.shm_consumer.specs.declared.view.Access.TheVariants.{Load, Store}
use Rattle.shm_consumer.specs.declared.view.Role.TheVariants.{Takes}
use Rattle.shm_consumer.specs.declared.view.View.{View}
use Rattle.shm_consumer.specs.Readings.{reading_words, EndsAs, steps_of, pairs_with, IsRefusal}
use Rattle.shm_consumer.specs.Rule.{RisesStrictly}
use Rattle.shm_consumer.specs.Views.{pair_of}

-- a taker: the pairs that it consumed, its loads and stores, and the values of the running reading
pub record Taking : Type 0 where
  pub segment : SegmentId
  pub consumed : List Numbered
  pub made : List Access
  pub reading : List ℕ

-- a taker of a new segment
abbrev pub untaken : SegmentId → Taking
untaken segment = record { segment = segment; consumed = []; made = []; reading = [] }

-- the values of a reading that came so far: count, a valid of 1, the body, and count again
abbrev pub values_of : ℕ → ℕ → List ℕ → List ℕ
values_of at count body = take at (count ∷ 1 ∷ (body ++ count ∷ []))

-- the same of the taker's fields
abbrev pub taking : TableId → View → List ℕ → Taking
taking table v reading =
    record { segment = record { table = table; first = v.first }; consumed = v.consumed; made = v.made; reading = reading }

-- the code keeps the reading's values, as the view does, or after the second count the pair that they are
pub record IsTaker (me : Me (Unit {0}) View) (at count : ℕ) (body : List ℕ) : Type 0 where
  pub role : me.0.role ≡ Takes
  pub free : me.1 ≡ []
  pub places : at ≤ 12
  pub nine : length body ≡ 9
  pub values : 1 ≤ at → at ≤ 11 → me.0.reading ≡ values_of at count body
  pub whole : at ≡ 12 → IsBody body
  pub pair : at ≡ 12 → me.0.read ≡ Some (pair_of count body)
  pub rises : RisesStrictly 0 me.0.consumed

-- the seat is that of the taker of this segment
pub record IsTaking (segment : SegmentId) (table : TableId) (me : Me (Unit {0}) View) : Type 0 where
  pub part : table ≡ segment.table
  pub role : me.0.role ≡ Takes
  pub free : me.1 ≡ []

-- the taker after one more of its steps, with these pairs and this reading
abbrev pub after_step : Taking → Access → List Numbered → List ℕ → Taking
after_step t access consumed reading =
    record { segment = t.segment; consumed = consumed; made = t.made ++ access ∷ []; reading = reading }

-- the value does not end a reading of these values
pub record ReadingGoesOn (reading : List ℕ) (value : ℕ) : Type 0 where
  pub more : length reading < 12
  pub ready : length reading ≡ 1 → 0 < value
  pub same : length reading ≡ 11 → value ≡ slice_index reading 0

-- the one next load of a reading, which goes on or ends with it; after twelve values the store of valid 0, with which the pair read is consumed
abbrev pub TakesAs : Taking → TakeStep → Taking → Type 0
TakesAs old (Loaded word value) new =
    (word ≡ slice_index reading_words (length old.reading)) × ReadingGoesOn old.reading value
    × (new ≡ after_step old (Load word value) old.consumed (old.reading ++ value ∷ []))
TakesAs old (Cleared number sample) new =
    EndsAs (Consumed number sample) old.reading
    × (new ≡ after_step old (Store 9 0) (pairs_with (Consumed number sample) old.consumed) [])
TakesAs old (Ended end) new =
    (value : ℕ) × IsRefusal end × EndsAs end (old.reading ++ value ∷ [])
    × (new ≡ after_step old (Load (slice_index reading_words (length old.reading)) value) old.consumed [])

-- a reading by this call's own steps
abbrev pub HasConsumed : Taking → Consumption → Taking → Type 0
HasConsumed old result new =
    (values : List ℕ) × EndsAs result values
    × (new ≡ record {
      segment = old.segment;
      consumed = pairs_with result old.consumed;
      made = old.made ++ steps_of result values;
      reading = [];
    })

-- a consumed number is above the last one
abbrev pub IsAbove : List Numbered → Consumption → Type 0
IsAbove pairs (Consumed number sample) = last_from 0 pairs < number
IsAbove pairs (NotReady count valid) = Unit {0}
IsAbove pairs (Clash before after) = Unit {0}

-- how many steps a reading takes
abbrev pub HasSteps : Consumption → ℕ → ℕ → Type 0
HasSteps (Consumed number sample) before after = after ≡ before + 13
HasSteps (NotReady count valid) before after = after ≡ before + 2
HasSteps (Clash before_count after_count) before after = after ≡ before + 12

-- a reading of this call that goes on, after n loads
pub record HasLoaded (old now : Taking) (loads : ℕ) : Type 0 where
  pub same : now ≡ record { segment = old.segment; consumed = old.consumed; made = old.made ++ steps_of (NotReady 0 0) now.reading; reading = now.reading }
  pub long : length now.reading ≡ loads
  pub more : loads ≤ 12
