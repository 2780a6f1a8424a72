-- Why a book refuses a call: exactly by its numbers, in this order, and last when out of memory.
use Rattle.std.specs.Prelude.{◌≡◌, ◌*◌, ℕ, Bool, true, cond, List, length, get_or, slice_get, nat_lt, nat_eq, ◌||◌, Option, Some, None, option_and_then, is_some, Result, Err, IfErr, IsOk}
use Rattle.book_log.specs.DeviceLogView.{stopped_of}
use Rattle.book_sessions.specs.Roster.{live_in, most_live, most_opened}
use Rattle.report_book.specs.declared.fault.BookFault.{BookFault}
use Rattle.report_book.specs.declared.fault.BookFault.TheVariants.{NoSuch, Ended, TooManySessions, NoMemory}
use Rattle.report_book.specs.BookView.{BookView}

-- if there is no such thing, and else if it has stopped
abbrev pub fault_of : Bool → Bool → Option BookFault
fault_of exists stopped = cond exists (cond stopped (Some Ended) None) (Some NoSuch)

abbrev pub device_fault : BookView → ℕ → Option BookFault
device_fault b d = fault_of (nat_lt d (length b.names)) (get_or (stopped_of b.log.present) d true)

abbrev pub session_fault : BookView → ℕ → Option BookFault
session_fault b s = fault_of (nat_lt s (length b.sessions)) (is_some (option_and_then (λ a. a.session.closing) (slice_get b.sessions s)))

abbrev pub missing : Bool → Option BookFault
missing exists = cond exists None (Some NoSuch)

abbrev pub missing_session : BookView → ℕ → Option BookFault
missing_session b s = missing (nat_lt s (length b.sessions))

-- each device has two units
abbrev pub missing_unit : BookView → ℕ → Option BookFault
missing_unit b u = missing (nat_lt u (2 * length b.names))

abbrev pub crowd_fault : BookView → Option BookFault
crowd_fault b =
    cond (nat_eq (live_in b.sessions) most_live || nat_eq (length b.sessions) most_opened)
    (Some (TooManySessions (live_in b.sessions) (length b.sessions)))
    None

-- refused by this fault, if there is one, and else only out of memory
abbrev pub RefusesAs : {X : Type 0} → Option BookFault → Result X BookFault → Type 0
RefusesAs (Some fault) result = result ≡ Err fault
RefusesAs None result = IfErr result (λ f. f ≡ NoMemory)

-- refused by this fault, if there is one, and else not at all
abbrev pub RefusesOnly : {X : Type 0} → Option BookFault → Result X BookFault → Type 0
RefusesOnly (Some fault) result = result ≡ Err fault
RefusesOnly None result = IsOk result

-- the same, if what was handed over comes back beside the fault
abbrev pub RefusesWith : {X O : Type 0} → Option BookFault → Result X (O × BookFault) → Type 0
RefusesWith (Some fault) result = (outlet : _) × (result ≡ Err (outlet, fault))
RefusesWith None result = IfErr result (λ refusal. refusal.1 ≡ NoMemory)
