-- A session over the whole run of a book, whose client sent the request of another daemon and nothing else.
use Rattle.std.specs.Prelude.{◌≡◌, ℕ, List, [], ◌∷◌, ◌++◌, length, take, Option}
use Rattle.std.specs.List.{concat}
use Rattle.gps_report.specs.declared.edge.Symbol.{Symbol}
use Rattle.packet_cut.specs.Packets.{Stamped, bytes_of}
use Rattle.device_core.specs.Stream.{bytes_in}
use Rattle.gps_command.specs.Requests.{requests}
use Rattle.session_core.specs.Stretches.{Stretch, between, end_of}
use Rattle.book_log.specs.Entries.{Entry, stream}
use Rattle.book_log.specs.History.{history}
use Rattle.book_sessions.specs.MemberView.{MemberView}
use Rattle.session_runs.specs.Accounts.{Account}
use Rattle.session_runs.specs.Runs.{SessionRun, items_over}
use Rattle.session_runs.specs.Asking.{Asked}
use Rattle.upstream_laws.specs.Head.{behind, fresh}
use Rattle.upstream_laws.specs.Alike.{AreAlike, BeginsAlike}
use Rattle.upstream_laws.specs.Joined.{HasFirst}
use Rattle.upstream_laws.specs.Carried.{AreNames, carried, request}
use Rattle.upstream_laws.specs.Across.{ComesAcross, IsTheDevice}

-- The run of a session: its opening, and the answer to the one request.
pub record AskedOnce (device : Option (List ℕ)) (names : List (List ℕ)) (log : List Entry) (run : SessionRun) (mark : Stretch) : Type 0 where
  pub names_are : AreNames device names
  pub opening : Stretch
  pub stretches : run.stretches ≡ opening ∷ mark ∷ []
  pub asked : Asked names log run.stretches (requests (request device))

-- all bytes of its items
abbrev pub all_bytes : List (List ℕ) → List Entry → SessionRun → List ℕ
all_bytes names log run = concat (items_over names log run)

abbrev pub SessionsComeAcross : Type 0
SessionsComeAcross = (device : Option (List ℕ)) (names : List (List ℕ)) (log : List Entry) (run : SessionRun) (mark : Stretch)
    → AskedOnce device names log run mark
    → ComesAcross (all_bytes names log run) (carried device names (between mark.place (end_of run.closing (history log)) (history log)))

-- the same of the items that were taken of its outlet so far, by the account of such a session in a book: its client sent the request
abbrev pub TakenComesAcross : Type 0
TakenComesAcross = (device : Option (List ℕ)) (names : List (List ℕ)) (before log : List Entry) (a : MemberView) (run : SessionRun)
    (taken : List (List ℕ)) (opening mark : Stretch) (again : List Stamped)
    → AreNames device names → Account names before log a run taken (request device) → run.stretches ≡ opening ∷ mark ∷ []
    → bytes_of again ≡ behind fresh (concat taken)
    → HasFirst (carried device names (between mark.place (end_of run.closing (history (before ++ log))) (history (before ++ log)))) again

-- It asked at a moment before the first byte of device d. A moment is a number of entries of the log.
pub record AskedFirst (log : List Entry) (mark : Stretch) (d : ℕ) : Type 0 where
  pub moment : ℕ
  pub place : mark.place ≡ length (history (take moment log))
  pub first : stream d (take moment log) ≡ []

-- with all reports, the same fixes and skies
abbrev pub SessionsAreAlike : Type 0
SessionsAreAlike = (device : Option (List ℕ)) (names : List (List ℕ)) (log : List Entry) (run : SessionRun) (mark : Stretch) (d : ℕ) (again : List Symbol)
    → AskedOnce device names log run mark → AskedFirst log mark d → IsTheDevice device names d (history log)
    → end_of run.closing (history log) ≡ length (history log)
    → bytes_of (bytes_in again) ≡ behind fresh (all_bytes names log run)
    → AreAlike again (stream d log)

-- of any beginning of its bytes, wherever it was closed, the first fixes and skies
abbrev pub SessionsBeginAlike : Type 0
SessionsBeginAlike = (device : Option (List ℕ)) (names : List (List ℕ)) (log : List Entry) (run : SessionRun) (mark : Stretch) (d : ℕ)
    (front rest : List ℕ) (again : List Symbol)
    → AskedOnce device names log run mark → AskedFirst log mark d → IsTheDevice device names d (history log)
    → all_bytes names log run ≡ front ++ rest
    → bytes_of (bytes_in again) ≡ behind fresh front
    → BeginsAlike again (stream d log)
