-- The units and segments of a book, through its calls.
use Rattle.std.specs.Prelude.{◌≡◌, ℕ, ◌<◌, List, length, get_or}
use Rattle.shm_segment.specs.declared.sample.Sample.{Sample}
use Rattle.book_units.specs.Units.{UnitView, segment_of}
use Rattle.report_book.specs.BookView.{BookView}
use Rattle.replay_player.specs.Stored.{IsStored}

-- unit u of a book has this first number, these samples and this number of stores
abbrev pub IsStoredAt : ℕ → ℕ → List Sample → ℕ → BookView → Type 0
IsStoredAt u first samples stores b = (free : UnitView) → IsStored first samples stores (get_or b.units u free)

-- each unit has the segment that it had
pub record KeepSegments (old new : BookView) : Type 0 where
  pub count : length new.units ≡ length old.units
  pub each : (u : ℕ) (free : UnitView) → u < length old.units → segment_of (get_or new.units u free) ≡ segment_of (get_or old.units u free)
