-- The lines that close a run of a daemon, as the parts that it hands back say them.
use Rattle.std.specs.Prelude.{ℕ, List, [], ◌++◌, Option, None, slice_get}
use Rattle.std.specs.List.{enumerate_from, flat_map, last_or}
use Rattle.std.specs.Option.{option_map_or}
use Rattle.session_core.specs.declared.mark.Close.{Close}
use Rattle.shm_segment.specs.declared.view.Numbered.{Numbered}
use Rattle.shm_monitor.specs.declared.reading.Reading.TheVariants.{Taken}
use Rattle.book_sessions.specs.MemberView.{MemberView}
use Rattle.book_units.specs.Steps.{state_of}
use Rattle.book_units.specs.Units.{UnitView}
use Rattle.report_book.specs.BookView.{BookView}
use Rattle.output_lines.specs.declared.closing.SessionEnd.{SessionEnd}
use Rattle.output_lines.specs.Closings.{closing_line, unit_text}
use Rattle.output_lines.specs.Readings.{reading_line}
use Rattle.serve_end.specs.declared.done.MonitorDone.{MonitorDone}
use Rattle.serve_end.specs.declared.done.SessionDone.{SessionDone}

-- the closing line of a closed session, and nothing for an open one
abbrev pub closed_text : ℕ → SessionEnd → MemberView → List ℕ
closed_text number end a = option_map_or (λ (closing : ℕ × Close). closing_line number end closing.1 a.session.items) a.session.closing []

-- the same by its number, and nothing if the book has no such session
abbrev pub session_text : {S K R : Type 0} → List MemberView → SessionDone S K R → List ℕ
session_text sessions done = option_map_or (closed_text done.number done.end) (slice_get sessions done.number) []

-- the line of a unit that had a sample, by its number, and nothing if the book has no such unit
abbrev pub unit_text_at : List UnitView → ℕ → List ℕ
unit_text_at units unit = option_map_or (λ (u : UnitView). unit_text unit (state_of u)) (slice_get units unit) []

-- the lines of the units that had a sample, each with its number
abbrev pub units_text : List UnitView → List ℕ
units_text units = flat_map (λ (at : ℕ × UnitView). unit_text at.0 (state_of at.1)) (enumerate_from 0 units)

-- the line of the last sample that a monitor took, and nothing if it took none
abbrev pub monitor_text : MonitorDone → List ℕ
monitor_text done = option_map_or (λ (pair : Numbered). reading_line done.unit (Taken pair)) (last_or None done.taken.items) []

-- the lines of the sessions, of the units, and of the monitors
abbrev pub book_text : {S K R : Type 0} → BookView → List (SessionDone S K R) → List MonitorDone → List ℕ
book_text book sessions monitors = flat_map (session_text book.sessions) sessions ++ units_text book.units ++ flat_map monitor_text monitors

-- the same, or nothing if there is no book
abbrev pub text_of : {S K R : Type 0} → Option BookView → List (SessionDone S K R) → List MonitorDone → List ℕ
text_of book sessions monitors = option_map_or (λ (b : BookView). book_text b sessions monitors) book []
