-- What a caller of a book must know before its call: the items that the call puts are allowed. It may use what always holds of a book. It picks a
-- log that the book's opening stands for: the reports and the replies are the same with each.
use Rattle.std.specs.Prelude.{◌≡◌, ℕ, List, ◌++◌, length, slice_get, Some, None}
use Rattle.session_core.specs.Naming.{OutletName}
use Rattle.book_batch.specs.Lines.{line_for}
use Rattle.book_log.specs.Entries.{Entry}
use Rattle.book_log.specs.History.{history_after}
use Rattle.book_log.specs.Standing.{StandsFor}
use Rattle.book_sessions.specs.Allowing.{MayHear, MayReportEach}
use Rattle.book_sessions.specs.MemberView.{MemberView}
use Rattle.report_book.specs.BookView.{BookView}
use Rattle.report_book.specs.Knowing.{known_in}
use Rattle.report_book.specs.Refusals.{device_fault, session_fault}
use Rattle.report_book.specs.Standing.{BookHolds}

-- These entries of device d, if there is one and it has not stopped: each session may be given what its policy selects of their reports.
abbrev pub MayAdd : (OutletName → List (List ℕ) → Type 0) → ℕ → List Entry → BookView → Type 0
MayAdd may d entries b = device_fault b d ≡ None → BookHolds b
    → (before : List Entry) × StandsFor b.log.opening before × MayReportEach may (line_for b.names) (history_after (before ++ b.log.log) entries) b.sessions

-- This piece of the input of session s, if there is one and it is open: it may be given the reply to each request that the piece ends.
abbrev pub MayInput : (OutletName → List (List ℕ) → Type 0) → ℕ → List ℕ → BookView → Type 0
MayInput may s piece b = session_fault b s ≡ None → BookHolds b
    → (before : List Entry) × StandsFor b.log.opening before
    × ((a : MemberView) → slice_get b.sessions s ≡ Some a → MayHear may (known_in (length b.names) (before ++ b.log.log)) b.names piece a)
