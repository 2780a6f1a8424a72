-- How further input of a client is answered.
use Rattle.std.specs.Prelude.{◌≡◌, ◌<◌, ℕ, Bool, List, [], ◌++◌, length, map, take, get_or, None, is_some, true}
use Rattle.std.specs.List.{AllZip}
use Rattle.gps_command.specs.declared.request.RawCommand.{RawCommand}
use Rattle.gps_command.specs.Policies.{policy_at}
use Rattle.session_core.specs.declared.mark.Close.{Close}
use Rattle.session_core.specs.Naming.{OutletName}
use Rattle.session_core.specs.Stretches.{Stretch}
use Rattle.book_log.specs.Entries.{Entry}
use Rattle.book_log.specs.History.{history}
use Rattle.book_replies.specs.Replies.{answered}
use Rattle.book_sessions.specs.Answering.{Inputs, stretch_at}
use Rattle.book_sessions.specs.MemberView.{MemberView, opened, with_kept}
use Rattle.book_sessions.specs.Roster.{Closes, Shuts}
use Rattle.report_book.specs.BookView.{BookView}
use Rattle.report_book.specs.Knowing.{known_in}
use Rattle.report_book.specs.Moves.{Moves}
use Rattle.session_runs.specs.Asking.{Asked, HasSent, HearsNothing}
use Rattle.session_runs.specs.Following.{opened_run}

-- a new session's client has sent nothing
abbrev pub NothingSent : Type 0
NothingSent = (names : List (List ℕ)) (log : List Entry) (name : OutletName) (cap most place : ℕ)
    → HasSent names log (opened name cap most place) (opened_run log).stretches []

-- the log goes on, and the session hears nothing
abbrev pub SentOnward : Type 0
SentOnward = (names : List (List ℕ)) (log entries : List Entry) (old new : MemberView) (stretches : List Stretch) (bytes : List ℕ)
    → HearsNothing old new → HasSent names log old stretches bytes → HasSent names (log ++ entries) new stretches bytes

-- a piece is heard after this whole log
abbrev pub SentMore : Type 0
SentMore = (exact : Bool) (names : List (List ℕ)) (log : List Entry) (place : ℕ) (piece : List ℕ) (old new : MemberView) (stretches : List Stretch)
    (bytes : List ℕ)
    → (heard : Inputs exact (known_in (length names) log) names place piece old new) → old.session.closing ≡ None → HasSent names log old stretches bytes
    → HasSent names log new
    (stretches ++ map (stretch_at (length (history log))) (take heard.count (answered (known_in (length names) log) names old.session.policy heard.requests)))
    (bytes ++ piece)

-- what is sent to a closed session, or is refused with its closing, has no answer
abbrev pub SentInVain : Type 0
SentInVain = (names : List (List ℕ)) (log : List Entry) (a : MemberView) (stretches : List Stretch) (bytes piece : List ℕ)
    → is_some a.session.closing ≡ true → HasSent names log a stretches bytes → HasSent names log a stretches (bytes ++ piece)

-- entries, closings and turns are not heard
abbrev pub EntriesAreNotHeard : Type 0
EntriesAreNotHeard = (exact turns : Bool) (old new : BookView) (entries : List Entry) → Moves exact turns old new entries
    → AllZip HearsNothing old.sessions new.sessions

abbrev pub ClosingsAreNotHeard : Type 0
ClosingsAreNotHeard = (place : ℕ) (why : Close) (old new : MemberView) → Closes place why old new → HearsNothing old new

abbrev pub TakingIsNotHeard : Type 0
TakingIsNotHeard = (kept : List (List ℕ)) (a : MemberView) → HearsNothing a (with_kept kept a)

abbrev pub ShutsAreNotHeard : Type 0
ShutsAreNotHeard = (place : ℕ) (why : Close) (old new : MemberView) → Shuts place why old new → HearsNothing old new

-- the policy of stretch k is that after k requests
abbrev pub StretchesHaveTheirPolicies : Type 0
StretchesHaveTheirPolicies = (names : List (List ℕ)) (log : List Entry) (stretches : List Stretch) (asked : List RawCommand) (k : ℕ) (other : Stretch)
    → Asked names log stretches asked → k < length stretches → (get_or stretches k other).policy ≡ policy_at k asked
