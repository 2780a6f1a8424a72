-- What the calls of a book do to it.
use Rattle.std.specs.Prelude.{◌≡◌, ◌<◌, ◌≤◌, ◌*◌, ◌+◌, ◌++◌, ℕ, Bool, true, List, [], ◌∷◌, length, get_or, take, drop}
use Rattle.std.specs.List.{AllZip}
use Rattle.gps_command.specs.Kept as input
use Rattle.gps_report.specs.declared.report.Report.{Report}
use Rattle.session_core.specs.declared.mark.Close.{Close}
use Rattle.session_core.specs.declared.mark.Close.TheVariants.{DaemonEnd}
use Rattle.session_core.specs.Holding.{Holding, SessionGains}
use Rattle.session_core.specs.Naming.{OutletName}
use Rattle.session_core.specs.SessionView.{SessionView, opening_policy, usual_requests}
use Rattle.session_core.specs.Stretches.{Stretch, answer_stretch}
use Rattle.shm_segment.specs.declared.sample.Sample.{Sample}
use Rattle.book_batch.specs.Lines.{line_for}
use Rattle.book_log.specs.Entries.{Entry}
use Rattle.book_log.specs.History.{history_after}
use Rattle.book_log.specs.DeviceLogView.{LogAdds, IsFresh}
use Rattle.book_log.specs.Standing.{StandsFor}
use Rattle.book_replies.specs.Replies.{opening_reply}
use Rattle.book_sessions.specs.Answering.{Inputs}
use Rattle.book_sessions.specs.MemberView.{MemberView, opened, with_kept}
use Rattle.book_sessions.specs.Roster.{Changes, Closes, Shuts}
use Rattle.book_sessions.specs.Spreading.{Spreads}
use Rattle.book_units.specs.Changes.{EachUnit, UnitGains}
use Rattle.book_units.specs.declared.unit.UnitStep.{UnitStep}
use Rattle.book_units.specs.Samples.{samples_of}
use Rattle.book_units.specs.Steps.{Publishes}
use Rattle.book_units.specs.Units.{UnitView, IsNew, all_of}
use Rattle.report_book.specs.BookView.{BookView, turned_if}
use Rattle.report_book.specs.Knowing.{known_in}
use Rattle.report_book.specs.Standing.{history_of}

-- Entries came, and gave these reports: each session is given what its policy selects of them, and each unit its samples.
pub record BookAdds (exact : Bool) (old new : BookView) (entries : List Entry) (reports : List Report) : Type 0 where
  pub names : new.names ≡ old.names
  pub requests : new.most_requests ≡ old.most_requests
  pub log : LogAdds old.log new.log entries reports
  pub sessions : AllZip (Spreads exact (line_for old.names) old.log.length reports) old.sessions new.sessions
  pub units : EachUnit (λ u. UnitGains (samples_of u reports)) old.units new.units

-- if a turn is due it comes first
abbrev pub Moves : Bool → Bool → BookView → BookView → List Entry → Type 0
Moves exact turns old new entries = (reports : List Report) × BookAdds exact (turned_if turns old) new entries reports

-- These entries came and gave no report: nothing else changes.
pub record AddsQuietly (old new : BookView) (entries : List Entry) : Type 0 where
  pub names : new.names ≡ old.names
  pub requests : new.most_requests ≡ old.most_requests
  pub log : LogAdds old.log new.log entries []
  pub sessions : new.sessions ≡ old.sessions
  pub units : new.units ≡ old.units

-- What a session's outlet keeps gains exactly what its items gain, by a history that goes on.
abbrev pub SessionEarns : List (List ℕ) → List Report → List Report → SessionView → SessionView → Type 0
SessionEarns names history longer old now =
    (stretches : List Stretch) → Holding (line_for names) history old stretches
    → (more : List (List ℕ)) × SessionGains (line_for names) history longer old now stretches stretches more

-- And each unit's samples gain those of the reports that these entries add.
pub record Earns (old new : BookView) (entries : List Entry) : Type 0 where
  pub sessions : (before : List Entry) → StandsFor old.log.opening before → (s : ℕ) (free : MemberView) → s < length old.sessions
      → SessionEarns old.names (history_of old before) (history_of new before) (get_or old.sessions s free).session (get_or new.sessions s free).session
  pub units : (before : List Entry) → StandsFor old.log.opening before → (u : ℕ) (free : UnitView) → u < length old.units
      → all_of (get_or new.units u free) ≡ all_of (get_or old.units u free) ++ samples_of u (history_after (before ++ old.log.log) entries)

-- all but the sessions is as it was
pub record SameButSessions (old new : BookView) : Type 0 where
  pub names : new.names ≡ old.names
  pub requests : new.most_requests ≡ old.most_requests
  pub log : new.log ≡ old.log
  pub units : new.units ≡ old.units

-- a new session follows the others: it was sent its opening reply, at the history's end
pub record Admits (name : OutletName) (cap : ℕ) (old new : BookView) : Type 0 where
  pub same : SameButSessions old new
  pub sessions : new.sessions ≡ old.sessions ++ opened name cap old.most_requests old.log.length ∷ []
  pub holding : (before : List Entry) → StandsFor old.log.opening before
      → Holding (line_for old.names) (history_of old before)
      (opened name cap old.most_requests old.log.length).session (answer_stretch old.log.length opening_policy opening_reply ∷ [])

-- the requests that this piece ends are answered by what is known at this moment, whatever log the opening stands for
pub record AnswersRequests (exact : Bool) (s : ℕ) (piece : List ℕ) (old new : BookView) : Type 0 where
  pub same : SameButSessions old new
  pub session : (before : List Entry) → StandsFor old.log.opening before
      → Changes s (Inputs exact (known_in (length old.names) (before ++ old.log.log)) old.names old.log.length piece) old.sessions new.sessions

-- one session is closed at the history's end
pub record HangsUp (s : ℕ) (why : Close) (old new : BookView) : Type 0 where
  pub same : SameButSessions old new
  pub session : Changes s (Closes old.log.length why) old.sessions new.sessions

-- each open session is closed at the history's end
pub record ShutsAll (old new : BookView) : Type 0 where
  pub same : SameButSessions old new
  pub sessions : AllZip (Shuts old.log.length DaemonEnd) old.sessions new.sessions

-- a unit takes a step, and nothing else changes
pub record PublishesAt (u : ℕ) (step : UnitStep) (old new : BookView) : Type 0 where
  pub names : new.names ≡ old.names
  pub requests : new.most_requests ≡ old.most_requests
  pub log : new.log ≡ old.log
  pub sessions : new.sessions ≡ old.sessions
  pub units : Publishes u step old.units new.units

-- a new book: its opening is of the empty log, and nothing has come
pub record IsNewBook (names : List (List ℕ)) (limit : ℕ) (firsts : List ℕ) (b : BookView) : Type 0 where
  pub names_are : b.names ≡ names
  pub most_requests : b.most_requests ≡ usual_requests
  pub log : IsFresh (length names) limit b.log
  pub sessions : b.sessions ≡ []
  pub units : AllZip IsNew (take (2 * length names) firsts) b.units

-- the first of the items that one session's outlet keeps is taken
pub record TakesFirst (s : ℕ) (old new : BookView) : Type 0 where
  pub same : SameButSessions old new
  pub session : Changes s (λ a b. b ≡ with_kept (drop 1 a.session.kept) a) old.sessions new.sessions
