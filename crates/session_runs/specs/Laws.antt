-- What the calls of a book do to the runs of its sessions, over each log that its opening stands for.
use Rattle.std.specs.Prelude.{◌≡◌, ◌<◌, ◌≤◌, ◌+◌, ℕ, Bool, List, [], ◌∷◌, ◌++◌, length, map, drop, slice_get, slice_set, Some, None, is_some}
use Rattle.std.specs.List.{AllZip}
use Rattle.std.specs.Option.{option_to_list}
use Rattle.gps_report.specs.declared.report.Report.{Report}
use Rattle.session_core.specs.declared.mark.Close.{Close}
use Rattle.session_core.specs.declared.mark.Close.TheVariants.{Overrun}
use Rattle.session_core.specs.Naming.{OutletName}
use Rattle.session_core.specs.SessionView.{SessionView, turned}
use Rattle.session_core.specs.Stretches.{AreInOrder, end_of}
use Rattle.book_batch.specs.Lines.{line_for}
use Rattle.book_log.specs.Entries.{Entry}
use Rattle.book_log.specs.History.{history, history_after}
use Rattle.book_log.specs.Standing.{StandsFor}
use Rattle.book_replies.specs.declared.answering.Answer.{Answer}
use Rattle.book_replies.specs.Replies.{opening_reply}
use Rattle.book_sessions.specs.Answering.{Puts, Stops}
use Rattle.book_sessions.specs.MemberView.{MemberView, opened, with_kept}
use Rattle.book_sessions.specs.Roster.{Closes, Shuts}
use Rattle.book_sessions.specs.Spreading.{Reports}
use Rattle.report_book.specs.BookView.{BookView}
use Rattle.report_book.specs.Moves.{AddsQuietly, Admits, Moves, SameButSessions, ShutsAll}
use Rattle.report_book.specs.Standing.{BookHolds}
use Rattle.session_runs.specs.Runs.{SessionRun, IsGiven, IsRunOf, RunsOf, items_over}
use Rattle.session_runs.specs.Following.{BookGoesOn, Extends, Follows, answered_run, closed_run, opened_run, shut_run}

-- A new session's run is its opening, after the whole log.
pub record RunBegins (name : OutletName) (cap : ℕ) (old new : BookView) (before : List Entry) : Type 0 where
  pub run : IsRunOf new.names before new.log.log (opened name cap old.most_requests old.log.length).session (opened_run (before ++ new.log.log))
  pub items : items_over new.names (before ++ new.log.log) (opened_run (before ++ new.log.log)) ≡ opening_reply ∷ []
  pub kept : (opened name cap old.most_requests old.log.length).session.kept ≡ opening_reply ∷ []
  pub runs : (runs : List SessionRun) → RunsOf old before runs → RunsOf new before (runs ++ opened_run (before ++ new.log.log) ∷ [])

abbrev pub AdmittedRunBegins : Type 0
AdmittedRunBegins = (name : OutletName) (cap : ℕ) (old new : BookView) (before : List Entry) → BookHolds old → StandsFor old.log.opening before
    → Admits name cap old new → RunBegins name cap old new before

-- The stretches of a run are in order within the whole history, up to its closing; and it is closed exactly if the book shows it so.
pub record IsInOrder (before log : List Entry) (s : SessionView) (r : SessionRun) : Type 0 where
  pub order : AreInOrder (end_of r.closing (history (before ++ log))) r.stretches
  pub within : end_of r.closing (history (before ++ log)) ≤ length (history (before ++ log))
  pub closed : is_some r.closing ≡ is_some s.closing

abbrev pub RunsAreInOrder : Type 0
RunsAreInOrder = (names : List (List ℕ)) (before log : List Entry) (s : SessionView) (r : SessionRun) → IsRunOf names before log s r → IsInOrder before log s r

-- Reports come to one session in the same generation.
abbrev pub ReportsExtendRuns : Type 0
ReportsExtendRuns = (exact : Bool) (names : List (List ℕ)) (before log entries : List Entry) (reports : List Report) (old new : SessionView)
    → history_after (before ++ log) entries ≡ reports → Reports exact (line_for names) (length (history_after before log)) reports old new
    → Follows names before log before (log ++ entries) old new

-- If reports close it, this is by an overrun, at the place of one of them.
abbrev pub ReportsOverrun : Type 0
ReportsOverrun = (exact : Bool) (names : List (List ℕ)) (first : ℕ) (reports : List Report) (old new : SessionView) (place : ℕ) (why : Close)
    → Reports exact (line_for names) first reports old new → old.closing ≡ None → new.closing ≡ Some (place, why)
    → (why ≡ Overrun) × (first ≤ place) × (place < first + length reports)

-- A turn leaves the run of a session as it is, its items, and what its outlet keeps.
abbrev pub TurnsKeepRuns : Type 0
TurnsKeepRuns = (names : List (List ℕ)) (before log : List Entry) (s : SessionView) (r : SessionRun) → IsRunOf names before log s r
    → Extends names before log (before ++ log) [] s (turned s) [] r r

-- Entries come, after a turn if one is due.
abbrev pub MovesExtendRuns : Type 0
MovesExtendRuns = (exact turns : Bool) (old new : BookView) (entries before : List Entry) → BookHolds old → StandsFor old.log.opening before
    → Moves exact turns old new entries → BookGoesOn turns old new entries before

abbrev pub QuietEntriesKeepRuns : Type 0
QuietEntriesKeepRuns = (old new : BookView) (entries before : List Entry) → StandsFor old.log.opening before
    → AddsQuietly old new entries → BookGoesOn Bool.false old new entries before

-- Answers that are pushed to an open session are further stretches after the whole log.
abbrev pub AnswersExtendRuns : Type 0
AnswersExtendRuns = (names : List (List ℕ)) (before log : List Entry) (place left : ℕ) (old new : MemberView) (answers : List Answer) (r : SessionRun)
    → length (history_after before log) ≡ place → old.session.closing ≡ None
    → Puts place old new answers → Stops place left new.session new.session.closing → IsRunOf names before log old.session r
    → Extends names before log before log old.session new.session (map (λ answer. answer.reply) answers) r (answered_run (before ++ log) answers new.session.closing r)

-- A closing is after the whole log and adds no item.
abbrev pub ClosingsEndRuns : Type 0
ClosingsEndRuns = (names : List (List ℕ)) (before log : List Entry) (place : ℕ) (why : Close) (old new : MemberView) (r : SessionRun)
    → length (history_after before log) ≡ place → old.session.closing ≡ None → Closes place why old new → IsRunOf names before log old.session r
    → Extends names before log before log old.session new.session [] r (closed_run (before ++ log) why r)

abbrev pub ShutsEndRuns : Type 0
ShutsEndRuns = (names : List (List ℕ)) (before log : List Entry) (place : ℕ) (why : Close) (old new : MemberView) (r : SessionRun)
    → length (history_after before log) ≡ place → Shuts place why old new → IsRunOf names before log old.session r
    → Extends names before log before log old.session new.session [] r (shut_run (before ++ log) why old.session.closing r)

-- What its outlet keeps does not change the run of a session.
abbrev pub TakingKeepsRuns : Type 0
TakingKeepsRuns = (names : List (List ℕ)) (before log : List Entry) (a : MemberView) (kept : List (List ℕ)) (r : SessionRun)
    → kept ≡ drop 1 a.session.kept
    → IsRunOf names before log a.session r → IsRunOf names before log (with_kept kept a).session r

-- What a run gains is pushed, and what is taken was pushed first.
abbrev pub GivenMore : Type 0
GivenMore = (names : List (List ℕ)) (before log onward longer : List Entry) (old new : SessionView) (more taken put : List (List ℕ)) (r next : SessionRun)
    → Extends names before log onward longer old new more r next → IsGiven names (before ++ log) r taken old.kept put
    → IsGiven names (onward ++ longer) next taken new.kept (put ++ more)

abbrev pub GivenTaken : Type 0
GivenTaken = (names : List (List ℕ)) (log : List Entry) (taken kept put : List (List ℕ)) (r : SessionRun)
    → IsGiven names log r taken kept put → IsGiven names log r (taken ++ option_to_list (slice_get kept 0)) (drop 1 kept) put

-- One session became another, and each other one stays as it is.
abbrev pub OneRunChanges : Type 0
OneRunChanges = (s : ℕ) (old new : BookView) (before : List Entry) (runs : List SessionRun) (next : MemberView) (run : SessionRun)
    → SameButSessions old new → new.sessions ≡ slice_set old.sessions s next → IsRunOf new.names before new.log.log next.session run
    → RunsOf old before runs → RunsOf new before (slice_set runs s run)

-- All sessions are shut.
abbrev pub ShutAllRuns : Type 0
ShutAllRuns = (old new : BookView) (before : List Entry) (runs : List SessionRun) → BookHolds old → StandsFor old.log.opening before → ShutsAll old new
    → RunsOf old before runs → (nexts : List SessionRun) × RunsOf new before nexts × AllZip (λ (r next : SessionRun). next.stretches ≡ r.stretches) runs nexts
