-- What holds between the parts of a book: each session's items and each unit's samples are those of the history.
use Rattle.std.specs.Prelude.{◌≡◌, ◌<◌, ◌≤◌, ◌*◌, ◌++◌, ℕ, List, length, get_or}
use Rattle.std.specs.List.{All}
use Rattle.gps_report.specs.declared.report.Report.{Report}
use Rattle.book_batch.specs.Lines.{line_for}
use Rattle.book_log.specs.Entries.{Entry}
use Rattle.book_log.specs.History.{history_after}
use Rattle.book_log.specs.DeviceLogView.{LogHolds}
use Rattle.book_log.specs.Standing.{StandsFor}
use Rattle.book_sessions.specs.MemberView.{MemberView}
use Rattle.book_units.specs.Samples.{samples_of}
use Rattle.book_units.specs.Units.{UnitView, carried_by, since_turn}
use Rattle.session_core.specs.Holding.{Holding}
use Rattle.session_core.specs.SessionView.{SessionView}
use Rattle.session_core.specs.Stretches.{Stretch}
use Rattle.report_book.specs.BookView.{BookView}

-- the history of this generation, if its opening stands for the log before
abbrev pub history_of : BookView → List Entry → List Report
history_of b before = history_after before b.log.log

-- a session has some stretches over a history
abbrev pub SessionHolds : List (List ℕ) → List Report → SessionView → Type 0
SessionHolds names reports s = (stretches : List Stretch) × Holding (line_for names) reports s stretches

-- a unit's samples since the last turn are those that the turn carried, and those of a history
abbrev pub UnitHolds : ℕ → List Report → UnitView → Type 0
UnitHolds u reports x = since_turn x ≡ carried_by x ++ samples_of u reports

pub record FollowsReports (b : BookView) (reports : List Report) : Type 0 where
  pub sessions : All (λ a. SessionHolds b.names reports a.session) b.sessions
  pub units : (u : ℕ) (free : UnitView) → u < length b.units → UnitHolds u reports (get_or b.units u free)

-- what always holds
pub record BookHolds (b : BookView) : Type 0 where
  pub log : LogHolds b.log
  pub over : (before : List Entry) → StandsFor b.log.opening before → FollowsReports b (history_of b before)
  pub names : length b.names ≡ length b.log.present.lines
  pub count : length b.names ≤ 8
  pub units : length b.units ≡ 2 * length b.names
  pub requests : All (λ a. a.session.most_requests ≡ b.most_requests) b.sessions
