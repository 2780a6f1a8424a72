-- What the calls of a roster make of its sessions, by their numbers.
use Rattle.std.specs.Prelude.{◌≡◌, ◌≤◌, ◌<◌, ◌⊎◌, ℕ, Bool, false, nat_eq, List, [], length, count_by, slice_index_or, slice_set, Option, Some, None}
use Rattle.std.specs.List.{All, list_any}
use Rattle.gps_report.specs.declared.report.Report.{Report}
use Rattle.session_core.specs.declared.mark.Close.{Close}
use Rattle.session_core.specs.SessionView.{last_place}
use Rattle.session_core.specs.Stretches.{Stretch}
use Rattle.session_core.specs.Holding.{Selection, Holding, SessionGains, stretches_left}
use Rattle.book_sessions.specs.declared.roster.AdmitFault.{AdmitFault}
use Rattle.book_sessions.specs.declared.roster.AdmitFault.TheVariants.{TooManySessions, NoMemory}
use Rattle.book_sessions.specs.MemberView.{MemberView, closed, is_open, listens, renewed}
use Rattle.book_sessions.specs.Walks.{numbers}

abbrev pub was_watched : MemberView → Bool
was_watched a = a.watched

abbrev pub live_in : List MemberView → ℕ
live_in roster = count_by is_open roster

abbrev pub listening_in : List MemberView → ℕ
listening_in roster = count_by listens roster

abbrev pub most_live : ℕ
most_live = 64

abbrev pub most_opened : ℕ
most_opened = 100_000

abbrev pub IsOpenAt : ℕ → List MemberView → Type 0
IsOpenAt s roster = (free : MemberView) → (slice_index_or roster s free).session.closing ≡ None

-- the place is not before a mark of that session
abbrev pub IsAfter : ℕ → ℕ → List MemberView → Type 0
IsAfter place s roster = (free : MemberView) → last_place 0 (slice_index_or roster s free).session.marks ≤ place

abbrev pub IsAfterAll : ℕ → List MemberView → Type 0
IsAfterAll place roster = All (λ a. last_place 0 a.session.marks ≤ place) roster

-- session s has become another in this way, and each other session stays as it is
abbrev pub Changes : ℕ → (MemberView → MemberView → Type 0) → List MemberView → List MemberView → Type 0
Changes s Becomes old new = (next : MemberView) × (new ≡ slice_set old s next) × ((free : MemberView) → Becomes (slice_index_or old s free) next)

-- why no session was admitted: too many are live or were opened, else memory
abbrev pub Refuses : List MemberView → AdmitFault → Type 0
Refuses roster (TooManySessions live opened) = (live ≡ live_in roster) × (opened ≡ length roster) × ((live ≡ most_live) ⊎ (opened ≡ most_opened))
Refuses roster NoMemory = (live_in roster < most_live) × (length roster < most_opened)

-- an open session closes at a place, for this reason; a closed one stays as it is
abbrev pub shut_by : Option (ℕ × Close) → ℕ → Close → MemberView → MemberView
shut_by None place why a = closed place why a
shut_by (Some closing) place why a = a

abbrev pub shut_at : ℕ → Close → MemberView → MemberView
shut_at place why a = shut_by a.session.closing place why a

-- closed at the end of any history, it has the items that it had
pub record Closes (place : ℕ) (why : Close) (old new : MemberView) : Type 0 where
  pub becomes : new ≡ closed place why old
  pub gains : (lines : Selection) (history : List Report) (stretches : List Stretch) → length history ≡ place → Holding lines history old.session stretches
      → SessionGains lines history history old.session new.session stretches stretches []

abbrev pub ShutsBy : Option (ℕ × Close) → ℕ → Close → MemberView → MemberView → Type 0
ShutsBy None place why old new = Closes place why old new
ShutsBy (Some closing) place why old new = new ≡ old

abbrev pub Shuts : ℕ → Close → MemberView → MemberView → Type 0
Shuts place why old new = ShutsBy old.session.closing place why old new

-- after a turn, over the empty history
pub record MemberTurns (old new : MemberView) : Type 0 where
  pub becomes : new ≡ renewed old
  pub holding : (lines : Selection) → Holding lines [] new.session (stretches_left old.session.closing old.session.policy)

-- a session that was closed before this generation, which a turn leaves as it is
pub record IsAtRest (a : MemberView) : Type 0 where
  pub marks : a.session.marks ≡ []
  pub answered : a.session.answered ≡ false
  pub closing : (why : Close) × (a.session.closing ≡ Some (0, why))

-- What a roster keeps beside its sessions: the numbers of the open ones, some numbers such that all other sessions were closed before this
-- generation, and how many were ever watched. No public clause names it.
pub record IsRoster (live recent : List ℕ) (watched : ℕ) (roster : List MemberView) : Type 0 where
  pub live_ones : live ≡ numbers is_open 0 roster
  pub recent_ones : (k : ℕ) (free : MemberView) → k < length roster → list_any (nat_eq k) recent ≡ false → IsAtRest (slice_index_or roster k free)
  pub within : All (λ n. n < length roster) recent
  pub watched_ones : watched ≡ count_by was_watched roster
  pub few_live : length live ≤ most_live
  pub few_opened : length roster ≤ most_opened

-- It keeps the numbers of those that listen, too.
abbrev pub AreListening : List ℕ → List MemberView → Type 0
AreListening ones roster = ones ≡ numbers listens 0 roster
