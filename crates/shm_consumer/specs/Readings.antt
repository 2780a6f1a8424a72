-- The taker's reading as the list of the values that it loaded, how it ends, and its steps. Source: the NTP reference clock driver 28, mode 1: a
-- reader looks at count before and after it copies the body, and clears valid after that. When it clears is this project's own.
use Rattle.std.specs.Prelude.{◌≡◌, ◌≢◌, ℕ, ◌/◌, ◌<◌, List, [], ◌∷◌, ◌++◌, length}
use Rattle.shm_segment.specs.declared.view.Numbered.{Numbered}
use Rattle.shm_segment.specs.Samples.{sample_of}
use Rattle.shm_consumer.specs.declared.consumption.Consumption.{Consumption}
use Rattle.shm_consumer.specs.declared.consumption.Consumption.TheVariants.{Consumed, NotReady, Clash}
use Rattle.shm_consumer.specs.declared.view.Access.{Access}
use Rattle.shm_consumer.specs.declared.view.Access.TheVariants.{Load, Store}

-- the words that a reading loads, in order: count, valid, the body, count
abbrev pub reading_words : List ℕ
reading_words = 1 ∷ 9 ∷ 2 ∷ 3 ∷ 4 ∷ 5 ∷ 6 ∷ 7 ∷ 8 ∷ 10 ∷ 11 ∷ 1 ∷ []

-- the loads of these words that gave these values
abbrev pub loads_of : List ℕ → List ℕ → List Access
loads_of words [] = []
loads_of [] (value ∷ values) = []
loads_of (word ∷ words) (value ∷ values) = Load word value ∷ loads_of words values

-- twelve values: a first count, a valid that is not 0, nine words of a body, and a last count
abbrev pub IsTwelve : List ℕ → ℕ → List ℕ → ℕ → Type 0
IsTwelve values before body after =
    (valid : ℕ) × (0 < valid) × (length body ≡ 9) × (values ≡ before ∷ valid ∷ (body ++ after ∷ []))

-- NotReady after two values, the second 0; Clash after twelve with two different counts; Consumed after twelve with one count, whose half is the
-- number, and the sample is that of the body
abbrev pub EndsAs : Consumption → List ℕ → Type 0
EndsAs (Consumed number sample) values =
    (count : ℕ) × (body : List ℕ) × IsTwelve values count body count × (number ≡ count / 2) × (sample ≡ sample_of body)
EndsAs (NotReady count valid) values = (valid ≡ 0) × (values ≡ count ∷ valid ∷ [])
EndsAs (Clash before after) values = (body : List ℕ) × IsTwelve values before body after × (before ≢ after)

-- the steps of a reading that loaded these values and ended so: only what is consumed is cleared
abbrev pub steps_of : Consumption → List ℕ → List Access
steps_of (Consumed number sample) values = loads_of reading_words values ++ Store 9 0 ∷ []
steps_of (NotReady count valid) values = loads_of reading_words values
steps_of (Clash before after) values = loads_of reading_words values

-- the pairs after a reading that ended so
abbrev pub pairs_with : Consumption → List Numbered → List Numbered
pairs_with (Consumed number sample) pairs = pairs ++ record { number = number; sample = sample } ∷ []
pairs_with (NotReady count valid) pairs = pairs
pairs_with (Clash before after) pairs = pairs

-- it ended without a sample
abbrev pub IsRefusal : Consumption → Type 0
IsRefusal (Consumed number sample) = ⊥
IsRefusal (NotReady count valid) = Unit {0}
IsRefusal (Clash before after) = Unit {0}
