-- How the run of a session goes on.
use Rattle.std.specs.Prelude.{◌≡◌, ℕ, Bool, true, List, [], ◌∷◌, ◌++◌, length, map, cond, Option, Some, None, is_some}
use Rattle.std.specs.List.{AllZip}
use Rattle.session_core.specs.declared.mark.Close.{Close}
use Rattle.session_core.specs.SessionView.{SessionView, opening_policy}
use Rattle.session_core.specs.Stretches.{answer_stretch}
use Rattle.book_log.specs.Entries.{Entry}
use Rattle.book_log.specs.History.{history}
use Rattle.book_log.specs.Standing.{StandsFor}
use Rattle.book_replies.specs.declared.answering.Answer.{Answer}
use Rattle.book_replies.specs.Replies.{opening_reply}
use Rattle.book_sessions.specs.Answering.{stretch_at}
use Rattle.book_sessions.specs.MemberView.{MemberView}
use Rattle.report_book.specs.BookView.{BookView}
use Rattle.session_runs.specs.Runs.{SessionRun, IsRunOf, RunsOf, closed_from, items_over}

-- a session that was open is closed if this generation says; one that was closed stays so
abbrev pub closing_after : ℕ → Option (ℕ × Close) → Option (ℕ × Close) → Option (ℕ × Close) → Option (ℕ × Close)
closing_after base None now was = closed_from base now
closing_after base (Some closing) now was = was

-- with no further stretch, in a generation that begins at this place
abbrev pub run_after : ℕ → SessionView → SessionView → SessionRun → SessionRun
run_after base old new r = record { stretches = r.stretches; closing = closing_after base old.closing new.closing r.closing }

-- From one log to another: what its outlet keeps and its items of the whole run gained the same.
pub record Extends (names : List (List ℕ)) (before log onward longer : List Entry) (old new : SessionView) (more : List (List ℕ))
    (r next : SessionRun) : Type 0 where
  pub run : IsRunOf names onward longer new next
  pub kept : new.kept ≡ old.kept ++ more
  pub items : items_over names (onward ++ longer) next ≡ items_over names (before ++ log) r ++ more

-- where it was closed
abbrev pub GainsNothing : SessionView → List (List ℕ) → Type 0
GainsNothing old more = is_some old.closing ≡ true → more ≡ []

-- whatever its run was, it goes on with no further stretch; one that was closed gains nothing
abbrev pub Follows : List (List ℕ) → List Entry → List Entry → List Entry → List Entry → SessionView → SessionView → Type 0
Follows names before log onward longer old new =
    (r : SessionRun) → IsRunOf names before log old r
    → (more : List (List ℕ)) × Extends names before log onward longer old new more r (run_after (length (history onward)) old new r) × GainsNothing old more

-- what is forgotten, if a turn came or none
abbrev pub forgotten_if : Bool → List Entry → List Entry → List Entry
forgotten_if turns before log = cond turns (before ++ log) before

-- Entries came to a book, after a turn or without one: the whole log is longer by these, and each session goes on.
pub record BookGoesOn (turns : Bool) (old new : BookView) (entries before : List Entry) : Type 0 where
  pub stands : StandsFor new.log.opening (forgotten_if turns before old.log.log)
  pub whole : forgotten_if turns before old.log.log ++ new.log.log ≡ (before ++ old.log.log) ++ entries
  pub names : new.names ≡ old.names
  pub sessions : AllZip (λ (a b : MemberView). Follows old.names before old.log.log (forgotten_if turns before old.log.log) new.log.log a.session b.session) old.sessions new.sessions
  pub runs : (runs : List SessionRun) → RunsOf old before runs
      → (nexts : List SessionRun) × RunsOf new (forgotten_if turns before old.log.log) nexts
      × AllZip (λ (r next : SessionRun). next.stretches ≡ r.stretches) runs nexts

-- a new session, after this whole log: it was sent its opening reply
abbrev pub opened_run : List Entry → SessionRun
opened_run log = record { stretches = answer_stretch (length (history log)) opening_policy opening_reply ∷ []; closing = None }

-- the same reason, at this place
abbrev pub closing_at : ℕ → Option (ℕ × Close) → Option (ℕ × Close)
closing_at place None = None
closing_at place (Some closing) = Some (place, closing.1)

-- these answers were pushed after this whole log, and maybe it was closed there
abbrev pub answered_run : List Entry → List Answer → Option (ℕ × Close) → SessionRun → SessionRun
answered_run log answers now r = record {
  stretches = r.stretches ++ map (stretch_at (length (history log))) answers;
  closing = closing_at (length (history log)) now;
}

-- closed after this whole log
abbrev pub closed_run : List Entry → Close → SessionRun → SessionRun
closed_run log why r = record { stretches = r.stretches; closing = Some (length (history log), why) }

-- one that is open is closed after this whole log
abbrev pub shut_run : List Entry → Close → Option (ℕ × Close) → SessionRun → SessionRun
shut_run log why None r = closed_run log why r
shut_run log why (Some closing) r = r
