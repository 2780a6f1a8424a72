-- What an admission does, why one is refused, and for which bounds a link is dropped.
use Rattle.std.specs.Prelude.{◌≡◌, ◌≤◌, ◌⊎◌, ℕ, Bool, true, false, length, Option, Some, None, Result, Err, IfErr}
use Rattle.book_sessions.specs.Roster.{live_in, most_live, most_opened}
use Rattle.gps_lane.specs.Ends.{Putting, Taking}
use Rattle.report_book.specs.BookView.{BookView}
use Rattle.hub_door.specs.Admissions.{LinkDrop, SessionLanes}
use Rattle.report_book.specs.Moves.{Admits, ShutsAll}
use Rattle.session_core.specs.Naming.{of_table}
use Rattle.report_book.specs.declared.fault.BookFault.{BookFault}
use Rattle.report_book.specs.declared.fault.BookFault.TheVariants.{NoSuch, Ended, TooManySessions, NoMemory}
use Rattle.session_core.specs.declared.subject.Subject.{Subject}

-- if the book was shut before, the new session is closed at once
abbrev pub ShutIf : Bool → BookView → BookView → Type 0
ShutIf false old new = new ≡ old
ShutIf true old new = ShutsAll old new

-- a session was admitted over these lanes, and is closed at once if the book was shut before
abbrev pub AdmitsAs : SessionLanes → Bool → BookView → BookView → Type 0
AdmitsAs link is_shut old new = (about : Subject) × (mid : BookView) × Admits (of_table link.outlet about) link.cap old mid × ShutIf is_shut mid new

-- this fault, if there is one; otherwise out of memory
abbrev pub fault_or_memory : Option BookFault → BookFault
fault_or_memory (Some fault) = fault
fault_or_memory None = NoMemory

-- refused with this fault, if there is one; otherwise only because it was out of memory
abbrev pub RefusesLink : {X O I : Type 0} → Option BookFault → Result X (O × I × BookFault) → Type 0
RefusesLink (Some fault) result = (outlet : _) × (input : _) × (result ≡ Err (outlet, input, fault))
RefusesLink None result = IfErr result (λ refusal. refusal.2 ≡ NoMemory)

-- 64 sessions are live, or 100,000 were opened; in both cases at least 64 were admitted before
pub record IsFull (b : BookView) : Type 0 where
  pub bound : (live_in b.sessions ≡ most_live) ⊎ (length b.sessions ≡ most_opened)
  pub some : most_live ≤ length b.sessions

-- the book is full, if the fault is that there are too many sessions
abbrev pub IsCrowded : BookFault → BookView → Type 0
IsCrowded NoSuch b = Unit {0}
IsCrowded Ended b = Unit {0}
IsCrowded (TooManySessions live opened) b = IsFull b
IsCrowded NoMemory b = Unit {0}

-- a link that is dropped now, when this many sessions are not yet released
abbrev pub drop_now : ℕ → BookView → LinkDrop
drop_now held b = record { live = live_in b.sessions; opened = length b.sessions; held = held }

-- A link was dropped for a bound: 64 sessions were live at that moment, 100,000 had been opened, or at least 64 were not yet released.
abbrev pub HasBound : LinkDrop → Type 0
HasBound drop = (drop.live ≡ most_live) ⊎ (drop.opened ≡ most_opened) ⊎ (most_live ≤ drop.held)
