-- A reading as the list of the values that it loaded, and how it ends. Source: the NTP reference clock driver 28, mode 1: a reader looks at count
-- before and after it copies the body.
use Rattle.std.specs.Prelude.{◌≡◌, ◌≢◌, ℕ, ◌/◌, ◌<◌, List, [], ◌∷◌, ◌++◌, length}
use Rattle.shm_segment.specs.declared.view.Load.{Load}
use Rattle.shm_segment.specs.declared.view.Numbered.{Numbered}
use Rattle.shm_segment.specs.Samples.{sample_of}
use Rattle.shm_monitor.specs.declared.reading.Reading.{Reading}
use Rattle.shm_monitor.specs.declared.reading.Reading.TheVariants.{Taken, NotReady, Clash}
use Rattle.shm_monitor.specs.Loads.{load}

-- the words that a reading loads, in order: count, valid, the body, count
abbrev pub reading_words : List ℕ
reading_words = 1 ∷ 9 ∷ 2 ∷ 3 ∷ 4 ∷ 5 ∷ 6 ∷ 7 ∷ 8 ∷ 10 ∷ 11 ∷ 1 ∷ []

-- the loads of these words that gave these values, after it knew of this number of stores
abbrev pub loads_of : ℕ → List ℕ → List ℕ → List Load
loads_of told words [] = []
loads_of told [] (value ∷ values) = []
loads_of told (word ∷ words) (value ∷ values) = load told word value ∷ loads_of told words values

-- twelve values: a first count, a valid that is not 0, nine words of a body, and a last count
abbrev pub IsTwelve : List ℕ → ℕ → List ℕ → ℕ → Type 0
IsTwelve values before body after =
    (valid : ℕ) × (0 < valid) × (length body ≡ 9) × (values ≡ before ∷ valid ∷ (body ++ after ∷ []))

-- NotReady after two values, the second 0; Clash after twelve with two different counts; Taken after twelve with one count, whose half is the number,
-- and the sample is that of the body
abbrev pub EndsAs : Reading → List ℕ → Type 0
EndsAs (Taken pair) values =
    (count : ℕ) × (body : List ℕ) × IsTwelve values count body count × (pair.number ≡ count / 2) × (pair.sample ≡ sample_of body)
EndsAs (NotReady count valid) values = (valid ≡ 0) × (values ≡ count ∷ valid ∷ [])
EndsAs (Clash before after) values = (body : List ℕ) × IsTwelve values before body after × (before ≢ after)

-- the pairs after a reading that ended so
abbrev pub taken_with : Reading → List Numbered → List Numbered
taken_with (Taken pair) taken = taken ++ pair ∷ []
taken_with (NotReady count valid) taken = taken
taken_with (Clash before after) taken = taken
