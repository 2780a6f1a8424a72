-- The account of a session: its run, what its outlet was given, and what its client sent, together; and how each call of a book carries it
-- on.
use Rattle.std.specs.Prelude.{◌≡◌, ℕ, ◌-◌, ◌^◌, min, Bool, true, List, [], ◌++◌, length, drop, take, slice_get, None, is_some}
use Rattle.std.specs.List.{AllZip}
use Rattle.std.specs.Option.{option_to_list}
use Rattle.session_core.specs.declared.mark.Close.{Close}
use Rattle.session_core.specs.declared.mark.Close.TheVariants.{DaemonEnd}
use Rattle.session_core.specs.Naming.{OutletName}
use Rattle.book_log.specs.Entries.{Entry}
use Rattle.book_log.specs.History.{history, history_after}
use Rattle.book_log.specs.Standing.{StandsFor}
use Rattle.book_replies.specs.declared.answering.Answer.{Answer}
use Rattle.book_replies.specs.Replies.{answered}
use Rattle.book_sessions.specs.Answering.{Inputs}
use Rattle.book_sessions.specs.MemberView.{MemberView, opened, with_kept}
use Rattle.book_sessions.specs.Roster.{Closes}
use Rattle.report_book.specs.BookView.{BookView}
use Rattle.report_book.specs.Knowing.{known_in}
use Rattle.report_book.specs.Moves.{AddsQuietly, Admits, Moves, SameButSessions, ShutsAll}
use Rattle.report_book.specs.Standing.{BookHolds}
use Rattle.session_runs.specs.Asking.{HasSent}
use Rattle.session_runs.specs.Following.{answered_run, closed_run, forgotten_if, opened_run, run_after, shut_run}
use Rattle.session_runs.specs.Runs.{SessionRun, IsRunOf, items_over}

-- Its items of the whole run are those that were taken and those that its outlet keeps, in this order, and it counts them; its client has sent
-- these bytes.
pub record Account (names : List (List ℕ)) (before log : List Entry) (a : MemberView) (r : SessionRun) (taken : List (List ℕ)) (bytes : List ℕ) : Type 0 where
  pub run : IsRunOf names before log a.session r
  pub given : taken ++ a.session.kept ≡ items_over names (before ++ log) r
  pub items : a.session.items ≡ min (length (items_over names (before ++ log) r)) (2 ^ 64 - 1)
  pub sent : HasSent names (before ++ log) a r.stretches bytes

-- in a book, whose opening stands for this log
abbrev pub AccountIn : BookView → List Entry → MemberView → SessionRun → List (List ℕ) → List ℕ → Type 0
AccountIn b before a r taken bytes = Account b.names before b.log.log a r taken bytes

-- whatever the account of a session was, it goes on with no further stretch
abbrev pub CarriesOn : BookView → List Entry → BookView → List Entry → MemberView → MemberView → Type 0
CarriesOn old before new onward a b = (r : SessionRun) (taken : List (List ℕ)) (bytes : List ℕ)
    → AccountIn old before a r taken bytes → AccountIn new onward b (run_after (length (history onward)) a.session b.session r) taken bytes

abbrev pub EntriesCarryAccounts : Type 0
EntriesCarryAccounts = (exact turns : Bool) (old new : BookView) (entries before : List Entry) → BookHolds old → StandsFor old.log.opening before
    → Moves exact turns old new entries → AllZip (CarriesOn old before new (forgotten_if turns before old.log.log)) old.sessions new.sessions

abbrev pub QuietEntriesCarryAccounts : Type 0
QuietEntriesCarryAccounts = (old new : BookView) (entries before : List Entry) → StandsFor old.log.opening before
    → AddsQuietly old new entries → AllZip (CarriesOn old before new before) old.sessions new.sessions

-- a new session: nothing was taken, and nothing was sent
abbrev pub AdmittedHasAccount : Type 0
AdmittedHasAccount = (name : OutletName) (cap : ℕ) (old new : BookView) (before : List Entry) → BookHolds old → StandsFor old.log.opening before
    → Admits name cap old new → AccountIn new before (opened name cap old.most_requests old.log.length) (opened_run (before ++ new.log.log)) [] []

-- if nothing but sessions changed, each other one has the account that it had
abbrev pub OthersKeepAccounts : Type 0
OthersKeepAccounts = (old new : BookView) (before : List Entry) (a : MemberView) (r : SessionRun) (taken : List (List ℕ)) (bytes : List ℕ)
    → SameButSessions old new → AccountIn old before a r taken bytes → AccountIn new before a r taken bytes

-- the answers that a piece of input pushed
abbrev pub put_of : (exact : Bool) (names : List (List ℕ)) (log : List Entry) (place : ℕ) (piece : List ℕ) (old new : MemberView)
    → Inputs exact (known_in (length names) log) names place piece old new → List Answer
put_of exact names log place piece old new heard = take heard.count (answered (known_in (length names) log) names old.session.policy heard.requests)

abbrev pub InputsExtendAccounts : Type 0
InputsExtendAccounts = (exact : Bool) (names : List (List ℕ)) (before log : List Entry) (place : ℕ) (piece : List ℕ) (old new : MemberView)
    (r : SessionRun) (taken : List (List ℕ)) (bytes : List ℕ)
    → length (history_after before log) ≡ place → old.session.closing ≡ None
    → (heard : Inputs exact (known_in (length names) (before ++ log)) names place piece old new) → Account names before log old r taken bytes
    → Account names before log new (answered_run (before ++ log)
    (put_of exact names (before ++ log) place piece old new heard) new.session.closing r) taken (bytes ++ piece)

abbrev pub ClosingsEndAccounts : Type 0
ClosingsEndAccounts = (names : List (List ℕ)) (before log : List Entry) (place : ℕ) (why : Close) (old new : MemberView)
    (r : SessionRun) (taken : List (List ℕ)) (bytes : List ℕ)
    → length (history_after before log) ≡ place → old.session.closing ≡ None → Closes place why old new → Account names before log old r taken bytes
    → Account names before log new (closed_run (before ++ log) why r) taken bytes

-- what is sent to a closed session, that of a piece which was refused with its closing too, changes nothing else
abbrev pub ClosedHearsNothing : Type 0
ClosedHearsNothing = (names : List (List ℕ)) (before log : List Entry) (a : MemberView) (r : SessionRun) (taken : List (List ℕ)) (bytes piece : List ℕ)
    → is_some a.session.closing ≡ true → Account names before log a r taken bytes → Account names before log a r taken (bytes ++ piece)

abbrev pub ShutEndsAccounts : Type 0
ShutEndsAccounts = (old new : BookView) (before : List Entry) → BookHolds old → StandsFor old.log.opening before → ShutsAll old new
    → AllZip (λ (a b : MemberView). (r : SessionRun) (taken : List (List ℕ)) (bytes : List ℕ) → AccountIn old before a r taken bytes
    → AccountIn new before b (shut_run (before ++ new.log.log) DaemonEnd a.session.closing r) taken bytes) old.sessions new.sessions

-- the first item that is kept is taken
abbrev pub TakingMovesItems : Type 0
TakingMovesItems = (names : List (List ℕ)) (before log : List Entry) (a : MemberView) (r : SessionRun) (taken : List (List ℕ)) (bytes : List ℕ)
    → Account names before log a r taken bytes
    → Account names before log (with_kept (drop 1 a.session.kept) a) r (taken ++ option_to_list (slice_get a.session.kept 0)) bytes
