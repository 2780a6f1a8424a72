-- A session over the whole run, through all generations of the history.
use Rattle.std.specs.Prelude.{◌≡◌, ◌≤◌, ◌+◌, ◌⊎◌, ℕ, List, [], ◌++◌, length, map, Option, Some, None}
use Rattle.std.specs.List.{AllZip}
use Rattle.session_core.specs.declared.mark.Close.{Close}
use Rattle.session_core.specs.Holding.{Holding}
use Rattle.session_core.specs.SessionView.{SessionView}
use Rattle.session_core.specs.Stretches.{Stretch, AreInOrder, left_of, placed_from, session_items}
use Rattle.book_batch.specs.Lines.{line_for}
use Rattle.book_log.specs.Entries.{Entry}
use Rattle.book_log.specs.History.{history, history_after}
use Rattle.book_sessions.specs.MemberView.{MemberView}
use Rattle.report_book.specs.BookView.{BookView}

-- its stretches, and where it was closed, at places of the whole history
pub record SessionRun : Type 0 where
  pub stretches : List Stretch
  pub closing : Option (ℕ × Close)

-- its items of the whole run, over the whole log
abbrev pub items_over : List (List ℕ) → List Entry → SessionRun → List (List ℕ)
items_over names log r = session_items (line_for names) r.closing r.stretches (history log)

-- a closing of a generation that begins at this place of the whole history
abbrev pub closed_from : ℕ → Option (ℕ × Close) → Option (ℕ × Close)
closed_from base None = None
closed_from base (Some closing) = Some (base + closing.0, closing.1)

-- It was open when this generation began: its stretches here are the one that the turn left of the earlier ones, and the later ones.
pub record IsHere (names : List (List ℕ)) (before log : List Entry) (s : SessionView) (r : SessionRun) : Type 0 where
  pub earlier : List Stretch
  pub later : List Stretch
  pub joined : r.stretches ≡ earlier ++ map (placed_from (length (history before))) later
  pub order : AreInOrder (length (history before)) earlier
  pub holding : Holding (line_for names) (history_after before log) s (left_of earlier ++ later)
  pub closing : r.closing ≡ closed_from (length (history before)) s.closing

-- It was closed before this generation began, in which it shows no mark.
pub record IsOver (before : List Entry) (s : SessionView) (r : SessionRun) : Type 0 where
  pub place : ℕ
  pub why : Close
  pub closing : r.closing ≡ Some (place, why)
  pub within : place ≤ length (history before)
  pub order : AreInOrder place r.stretches
  pub now : s.closing ≡ Some (0, why)
  pub marks : s.marks ≡ []

-- the run of what a book shows of a session, if this log was forgotten and that one is of this generation
abbrev pub IsRunOf : List (List ℕ) → List Entry → List Entry → SessionView → SessionRun → Type 0
IsRunOf names before log s r = IsHere names before log s r ⊎ IsOver before s r

-- the runs of all sessions of a book
abbrev pub RunsOf : BookView → List Entry → List SessionRun → Type 0
RunsOf b before runs = AllZip (λ (a : MemberView) r. IsRunOf b.names before b.log.log a.session r) b.sessions runs

-- All items that were pushed into its outlet so far are those of its run; those that were taken come before those that are kept.
pub record IsGiven (names : List (List ℕ)) (log : List Entry) (r : SessionRun) (taken kept put : List (List ℕ)) : Type 0 where
  pub items : put ≡ items_over names log r
  pub rest : taken ++ kept ≡ put
