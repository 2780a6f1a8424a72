-- What contracts see of a monitor, and what its calls do.
use Rattle.std.specs.Prelude.{◌≡◌, ℕ, ◌+◌, ◌*◌, ◌<◌, ◌≤◌, List, [], ◌∷◌, ◌++◌, length, take, slice_index}
use Rattle.atomic_table.specs.Seated.{TableId}
use Rattle.atomic_table.specs.Table.{Me}
use Rattle.shm_segment.specs.declared.view.KnownSamples.{KnownSamples}
use Rattle.shm_segment.specs.declared.view.Load.{Load}
use Rattle.shm_segment.specs.declared.view.Numbered.{Numbered}
use Rattle.shm_segment.specs.declared.view.Role.TheVariants.{Monitors}
use Rattle.shm_segment.specs.declared.view.View.{View}
use Rattle.shm_segment.specs.Seats.{SegmentId, Accounted}
use Rattle.shm_segment.specs.Words.{published_after}
use Rattle.shm_segment.specs.Views.{nothing}
use Rattle.shm_segment.specs.Rule.{Rises, last_from}
use Rattle.shm_monitor.specs.declared.reading.MonStep.{MonStep}
use Rattle.shm_monitor.specs.declared.reading.MonStep.TheVariants.{Loaded, Done}
use Rattle.shm_monitor.specs.declared.reading.Reading.{Reading}
use Rattle.shm_monitor.specs.declared.reading.Reading.TheVariants.{Taken, NotReady, Clash}
use Rattle.shm_monitor.specs.Loads.{load, later_of}
use Rattle.shm_monitor.specs.Readings.{reading_words, loads_of, EndsAs, taken_with}

-- a monitor: how many stores it knows of, the pairs that it took, its loads, and the values of the running reading
pub record MonitorView : Type 0 where
  pub segment : SegmentId
  pub known : KnownSamples
  pub taken : List Numbered
  pub kept : List Load
  pub reading : List ℕ

-- a monitor that has not read
abbrev pub opening : SegmentId → MonitorView
opening segment = record { segment = segment; known = nothing; taken = []; kept = []; reading = [] }

-- the same of its fields
abbrev pub watching : TableId → View → List ℕ → MonitorView
watching table v reading =
    record { segment = record { table = table; first = v.first }; known = v.known; taken = v.taken; kept = v.kept; reading = reading }

-- the code keeps the reading's values, as the view does once one is loaded, and the last number
pub record IsMonitor (me : Me (Unit {0}) View) (at count valid : ℕ) (body : List ℕ) (last : ℕ) : Type 0 where
  pub role : me.0.role ≡ Monitors
  pub free : me.1 ≡ []
  pub met : me.0.met ≡ nothing
  pub places : at ≤ 11
  pub values : 1 ≤ at → me.0.reading ≡ take at (count ∷ valid ∷ body)
  pub nine : length body ≡ 9
  pub last_is : last ≡ last_from 0 me.0.taken
  pub rises : Rises 0 me.0.taken

-- one load of the next word of the reading: the monitor keeps it, and learns nothing else
abbrev pub after_load : MonitorView → ℕ → List Numbered → List ℕ → MonitorView
after_load w value taken reading =
    record {
      segment = w.segment;
      known = w.known;
      taken = taken;
      kept = w.kept ++ load w.known.stores (slice_index reading_words (length w.reading)) value ∷ [];
      reading = reading;
    }

-- the value does not end a reading of n values
pub record ReadingGoesOn (w : MonitorView) (value : ℕ) : Type 0 where
  pub more : length w.reading < 11
  pub ready : length w.reading ≡ 1 → 0 < value
  pub first : length w.reading ≡ 0 → (2 * last_from 0 w.taken ≤ value) × (2 * (w.segment.first + published_after w.known.stores) ≤ value)

-- the one next load of a reading, which goes on or ends with it
abbrev pub LoadsAs : MonitorView → MonStep → MonitorView → Type 0
LoadsAs old (Loaded word value) new =
    (word ≡ slice_index reading_words (length old.reading)) × ReadingGoesOn old value × (new ≡ after_load old value old.taken (old.reading ++ value ∷ []))
LoadsAs old (Done reading) new =
    (value : ℕ) × EndsAs reading (old.reading ++ value ∷ []) × (new ≡ after_load old value (taken_with reading old.taken) [])

-- a taken number is not below the last one, nor below any that a met notice reaches
abbrev pub IsNotOld : MonitorView → Reading → Type 0
IsNotOld old (Taken pair) =
    (last_from 0 old.taken ≤ pair.number) × (old.segment.first + published_after old.known.stores ≤ pair.number)
IsNotOld old (NotReady count valid) = Unit {0}
IsNotOld old (Clash before after) = Unit {0}

-- a reading of this call's own loads
abbrev pub HasRead : MonitorView → Reading → MonitorView → Type 0
HasRead old reading new =
    (values : List ℕ) × EndsAs reading values
    × (new ≡ record {
      segment = old.segment;
      known = old.known;
      taken = taken_with reading old.taken;
      kept = old.kept ++ loads_of old.known.stores reading_words values;
      reading = [];
    })

-- the monitor that has met a notice
abbrev pub informed : MonitorView → KnownSamples → MonitorView
informed w k = record { segment = w.segment; known = later_of w.known k; taken = w.taken; kept = w.kept; reading = w.reading }

-- the seat is that of a monitor of this segment
pub record IsMonitoring (segment : SegmentId) (table : TableId) (me : Me (Unit {0}) View) : Type 0 where
  pub part : table ≡ segment.table
  pub role : me.0.role ≡ Monitors
  pub free : me.1 ≡ []

-- an account of its pairs and loads
abbrev pub accounted : MonitorView → Accounted
accounted w = record { segment = w.segment; taken = w.taken; kept = w.kept }

-- a reading of this call that goes on
abbrev pub reading_after : MonitorView → List ℕ → MonitorView
reading_after old values =
    record { segment = old.segment; known = old.known; taken = old.taken; kept = old.kept ++ loads_of old.known.stores reading_words values; reading = values }

pub record HasLoaded (old now : MonitorView) (loads : ℕ) : Type 0 where
  pub same : now ≡ reading_after old now.reading
  pub long : length now.reading ≡ loads
  pub more : loads ≤ 11
  pub first : 1 ≤ loads → (2 * last_from 0 old.taken ≤ slice_index now.reading 0) × (2 * (old.segment.first + published_after old.known.stores) ≤ slice_index now.reading 0)
