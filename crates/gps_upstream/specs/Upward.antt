-- Another daemon as a source: what is seen of it.
use Rattle.std.specs.Prelude.{◌≡◌, ℕ, ◌+◌, Bool, ◌&&◌, ◌==◌, true, false, List, [], Option, Some, None, if◌then◌else◌}
use Rattle.std.specs.Str.{bytes_eq}
use Rattle.gps_outside.specs.Told.{Stream}
use Rattle.upstream_laws.specs.declared.stage.Stage.{Stage}
use Rattle.upstream_laws.specs.declared.stage.Stage.TheVariants as stages
use Rattle.upstream_laws.specs.Head.{Stand, fresh, taken, behind}
use Rattle.gps_upstream.specs.declared.head.Head.{Head}
use Rattle.gps_upstream.specs.declared.head.Head.TheVariants as heads
use Rattle.gps_upstream.specs.declared.upstream.Asked.{Asked}
use Rattle.gps_upstream.specs.declared.upstream.Asked.TheVariants as askings

-- The device that is asked for; how much of the head was read; the content and the counts of the source, and those of the sink.
pub record Upward : Type 0 where
  pub device : Option (List ℕ)
  pub head : Head
  pub stand : Stand
  pub source : Option Stream
  pub source_faults : ℕ
  pub quiets : ℕ
  pub written : Option (List ℕ)
  pub sink_faults : ℕ

abbrev pub head_at : Stage → Head
head_at stages.Inside = heads.Reading
head_at stages.Behind = heads.Done
head_at stages.Nowhere = heads.Bad

abbrev pub head_by : Asked → Stage → Head
head_by askings.NotYet at = heads.Start
head_by askings.Whole at = head_at at
head_by askings.Unsent at = heads.Unsent

-- a bad head is a fault
abbrev pub faults_by : Head → ℕ
faults_by heads.Start = 0
faults_by heads.Reading = 0
faults_by heads.Done = 0
faults_by heads.Bad = 1
faults_by heads.Unsent = 0

abbrev pub faults_of : Upward → ℕ
faults_of u = u.source_faults + u.sink_faults + faults_by u.head

abbrev pub same_stage : Stage → Stage → Bool
same_stage stages.Inside stages.Inside = true
same_stage stages.Inside stages.Behind = false
same_stage stages.Inside stages.Nowhere = false
same_stage stages.Behind stages.Inside = false
same_stage stages.Behind stages.Behind = true
same_stage stages.Behind stages.Nowhere = false
same_stage stages.Nowhere stages.Inside = false
same_stage stages.Nowhere stages.Behind = false
same_stage stages.Nowhere stages.Nowhere = true

unfoldable pub same_stand : Stand → Stand → Bool
same_stand a b = same_stage a.stage b.stage && bytes_eq a.begin b.begin && (a.count == b.count)

-- nothing is left if the request could not be written; if the head is bad, nothing follows it
abbrev pub left_by : Head → List ℕ → List ℕ
left_by heads.Start bytes = bytes
left_by heads.Reading bytes = bytes
left_by heads.Done bytes = bytes
left_by heads.Bad bytes = []
left_by heads.Unsent bytes = []

-- what was handed on of the bytes that were read from the source, and what will be of those that are left in it
abbrev pub handed : Head → Stand → Stream → Stream
handed at stand s = record { taken = behind fresh s.taken; left = left_by at (behind stand s.left) }

-- It is known if the source has modelled contents, and the head was cut of all bytes that were read from it: the source was new.
abbrev pub content_by : Head → Stand → Option Stream → Option Stream
content_by at stand None = None
content_by at stand (Some s) = if same_stand stand (taken fresh s.taken) then Some (handed at stand s) else None

abbrev pub content_of : Upward → Option Stream
content_of u = content_by u.head u.stand u.source

-- what is seen, from the parts
abbrev pub seen : Option (List ℕ) → Asked → Stand → Option Stream → ℕ → ℕ → Option (List ℕ) → ℕ → Upward
seen device is_asked stand source source_faults quiets written sink_faults =
    record {
      device = device;
      head = head_by is_asked stand.stage;
      stand = stand;
      source = source;
      source_faults = source_faults;
      quiets = quiets;
      written = written;
      sink_faults = sink_faults;
    }

-- before the first read
abbrev pub opened : Option (List ℕ) → Option Stream → ℕ → ℕ → Option (List ℕ) → ℕ → Upward
opened device source source_faults quiets written sink_faults = seen device askings.NotYet fresh source source_faults quiets written sink_faults

-- how the head relates to the bytes that were read of it
abbrev pub StandsBy : Head → Stand → Type 0
StandsBy heads.Start stand = stand ≡ fresh
StandsBy heads.Reading stand = stand.stage ≡ stages.Inside
StandsBy heads.Done stand = stand.stage ≡ stages.Behind
StandsBy heads.Bad stand = stand.stage ≡ stages.Nowhere
StandsBy heads.Unsent stand = Unit {0}

-- the daemon was asked, and its head may be good
abbrev pub IsOpen : Head → Type 0
IsOpen heads.Start = ⊥
IsOpen heads.Reading = Unit {0}
IsOpen heads.Done = Unit {0}
IsOpen heads.Bad = ⊥
IsOpen heads.Unsent = ⊥
