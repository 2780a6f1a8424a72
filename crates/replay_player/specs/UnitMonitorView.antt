-- What contracts see of a monitor beside a book.
use Rattle.std.specs.Prelude.{◌≡◌, ℕ, ◌<◌, List, length, get_or}
use Rattle.shm_segment.specs.Publishing.{words_now}
use Rattle.shm_segment.specs.Seats.{SegmentId}
use Rattle.book_units.specs.Units.{UnitView, segment_of}
use Rattle.report_book.specs.BookView.{BookView}
use Rattle.replay_player.specs.Loads.{reading_after}

-- the number of its unit, the unit's segment, and the values that its running reading has loaded
pub record UnitMonitorView : Type 0 where
  pub unit : ℕ
  pub segment : SegmentId
  pub reading : List ℕ

abbrev pub watched : ℕ → SegmentId → List ℕ → UnitMonitorView
watched unit segment reading = record { unit = unit; segment = segment; reading = reading }

-- its unit is one of the book's, and its segment is that unit's
pub record IsOf (w : UnitMonitorView) (b : BookView) : Type 0 where
  pub unit : w.unit < length b.units
  pub part : (free : UnitView) → segment_of (get_or b.units w.unit free) ≡ w.segment

-- the words of its unit, as the unit's publisher has stored them
abbrev pub words_beside : UnitMonitorView → BookView → UnitView → List ℕ
words_beside w b free = words_now (get_or b.units w.unit free).publisher

-- the monitor after a load of these words
abbrev pub after_load : List ℕ → UnitMonitorView → UnitMonitorView
after_load words w = watched w.unit w.segment (reading_after words w.reading)
