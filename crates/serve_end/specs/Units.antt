-- What a unit's monitor took, beside what the unit has published.
use Rattle.std.specs.Prelude.{◌≡◌, ℕ, List, get_or}
use Rattle.std.specs.List.{All}
use Rattle.book_units.specs.Units.{UnitView, segment_of}
use Rattle.book_units.specs.Steps.{BearsOut}
use Rattle.report_book.specs.BookView.{BookView}
use Rattle.serve_workers.specs.Watching.{IsBeginning, each_once}
use Rattle.shm_monitor.specs.MonitorView.{MonitorView, informed}
use Rattle.shm_segment.specs.declared.view.KnownSamples.{KnownSamples}
use Rattle.shm_segment.specs.declared.view.Numbered.{Numbered}
use Rattle.shm_segment.specs.Rule.{IsPublished}
use Rattle.shm_segment.specs.Seats.{SegmentId}
use Rattle.shm_segment.specs.Views.{known}

-- what the unit's publisher has published
abbrev pub published_of : UnitView → KnownSamples
published_of u = known u.publisher.samples u.publisher.stores

-- this is the segment of a unit
abbrev pub IsSegmentOf : ℕ → SegmentId → BookView → Type 0
IsSegmentOf unit segment book = (free : UnitView) → segment ≡ segment_of (get_or book.units unit free)

-- each pair is the unit's published sample of its number
abbrev pub ArePublished : UnitView → List Numbered → Type 0
ArePublished u pairs = All (IsPublished u.publisher.segment.first u.publisher.samples u.publisher.stores) pairs

-- The monitor was told of all that its unit has published, and keeps its pairs and its loads. All of them are of this unit: each pair is the
-- published sample of its number, and each load is the word as it was after some store. So the pairs that were kept of them are published too.
pub record Confirms (u : UnitView) (old new : MonitorView) (taken : List Numbered) : Type 0 where
  pub told : new ≡ informed old (published_of u)
  pub bears_out : BearsOut u old.taken old.kept
  pub published : IsBeginning taken (each_once old.taken) → ArePublished u taken
