-- A session's outlet that is settled once its threads have ended: what it still holds is written.
use Rattle.std.specs.Prelude.{◌≡◌, ℕ, List, get_or, Some}
use Rattle.book_sessions.specs.MemberView.{MemberView}
use Rattle.gps_lane.specs.Ends.{Taking}
use Rattle.gps_fixed.specs.Lists.{IsPrefix}
use Rattle.report_book.specs.BookView.{BookView}
use Rattle.output_lines.specs.declared.closing.SessionEnd.{SessionEnd}
use Rattle.output_lines.specs.declared.closing.SessionEnd.TheVariants.{Drained, WriteFault}
use Rattle.serve_workers.specs.declared.writer.WriterEnd.{WriterEnd}
use Rattle.serve_workers.specs.declared.writer.WriterEnd.TheVariants as writer
use Rattle.session_core.specs.Naming.{table_of}

-- the same end of a writer
abbrev pub writer_end : SessionEnd → WriterEnd
writer_end Drained = writer.Drained
writer_end WriteFault = writer.WriteFault

-- this is the far end of a session's outlet
abbrev pub IsOutletOf : ℕ → Taking (List ℕ) → BookView → Type 0
IsOutletOf s items book = (free : MemberView) → Some items.lane ≡ table_of (get_or book.sessions s free).session.name

-- what a session's outlet was given
abbrev pub given_to : ℕ → BookView → MemberView → List (List ℕ)
given_to s book free = (get_or book.sessions s free).session.kept

-- The items that were received are a prefix of those that the outlet was given, and are all of them if the writer drained it.
pub record Empties (end : WriterEnd) (kept : List (List ℕ)) (rx rx' : Taking (List ℕ)) : Type 0 where
  pub lane : rx'.lane ≡ rx.lane
  pub begins : IsPrefix rx'.got kept
  pub all : end ≡ writer.Drained → rx'.got ≡ kept
