-- Sessions of a book change at the history's end, and nothing else does.
use Rattle.std.proofs.Common.{◌≡◌, ◌≤◌, ℕ, Bool, true, false, refl, sym, ap, ◌∙◌, subst, List, [], ◌∷◌, ◌++◌, length, map, get_or, cond, Option, Some, None, Result, Ok, Err, is_some, arith, ◌<◌}
use Rattle.std.specs.List.{All, AllZip}
use Rattle.std.proofs.Math.ListN.{set}
use Rattle.std.proofs.lemmas.List.Elements.{All-set, All-push}
use Rattle.gps_report.specs.declared.report.Report.{Report}
use Rattle.session_core.specs.declared.mark.Close.{Close}
use Rattle.session_core.specs.Holding.{Holding}
use Rattle.session_core.specs.SessionView.{SessionView, last_place}
use Rattle.session_core.specs.Stretches.{Stretch, AreInOrder, end_of, mark_of, next_place}
use Rattle.book_batch.specs.Lines.{line_for}
use Rattle.book_log.specs.Entries.{Entry}
use Rattle.book_log.specs.History.{history_after}
use Rattle.book_log.specs.DeviceLogView.{DeviceLogView}
use Rattle.book_log.specs.Standing.{StandsFor}
use Rattle.book_sessions.specs.MemberView.{MemberView}
use Rattle.book_sessions.specs.Roster.{IsAfterAll}
use Rattle.book_units.specs.Units.{UnitView}
use Rattle.report_book.specs.declared.fault.BookFault.{BookFault}
use Rattle.report_book.specs.declared.fault.BookFault.TheVariants.{NoSuch, Ended}
use Rattle.report_book.specs.BookView.{BookView}
use Rattle.report_book.specs.Refusals.{RefusesOnly, fault_of, missing}
use Rattle.report_book.specs.Standing.{BookHolds, FollowsReports, SessionHolds, history_of}

-- no mark is after the history's end
next_within : (end : ℕ) (stretches : List Stretch) → AreInOrder end stretches → next_place end stretches ≤ end
next_within end [] order = omega arith
next_within end (stretch ∷ more) order = let rest = next_within end more order.1 in let first = order.0 in omega arith

places_within : (end place : ℕ) (stretches : List Stretch) → AreInOrder end stretches → place ≤ end → last_place place (map mark_of stretches) ≤ end
places_within end place [] order within = within
places_within end place (stretch ∷ more) order within =
    places_within end stretch.place more order.1 (let rest = next_within end more order.1 in let first = order.0 in omega arith)

pub after_history : (names : List (List ℕ)) (history : List Report) (s : SessionView) → SessionHolds names history s → last_place 0 s.marks ≤ length history
after_history names history s held =
    let agrees = held.1.agrees in
    let P : List _ → Type 0 = λ marks. last_place 0 marks ≤ length history in
    let within : end_of s.closing history ≤ length history = agrees.within in
    let low = places_within (end_of s.closing history) 0 held.0 agrees.order (omega arith) in
    subst P agrees.marks (omega arith)

pub after_all : (b : BookView) (before : List Entry) → BookHolds b → StandsFor b.log.opening before → IsAfterAll b.log.length b.sessions
after_all b before held stands =
    let P : ℕ → Type 0 = λ n. IsAfterAll n b.sessions in
    subst P (sym (held.log.over before stands).places)
    (λ k d within. after_history b.names (history_of b before) (get_or b.sessions k d).session ((held.over before stands).sessions k d within))

-- the sessions alone have changed
pub sessions_changed : (names : List (List ℕ)) (most : ℕ) (log : DeviceLogView) (sessions members : List MemberView) (units : List UnitView)
    → BookHolds (record { names = names; most_requests = most; log = log; sessions = sessions; units = units })
    → ((before : List Entry) → StandsFor log.opening before → All (λ a. SessionHolds names (history_after before log.log) a.session) sessions
    → All (λ a. SessionHolds names (history_after before log.log) a.session) members)
    → All (λ a. a.session.most_requests ≡ most) members
    → BookHolds (record { names = names; most_requests = most; log = log; sessions = members; units = units })
sessions_changed names most log sessions members units held change requests = record {
  log = held.log;
  over = λ before stands. record { sessions = change before stands (held.over before stands).sessions; units = (held.over before stands).units };
  names = held.names;
  count = held.count;
  units = held.units;
  requests = requests;
}

-- a test that passed found no fault
pub passes : {X : Type 0} (fault : Option BookFault) (x : X) → RefusesOnly fault (Ok x) → fault ≡ None
passes (Some fault) x refuses = absurd (cc)
passes None x refuses = refl

pub no_fault : (exists stopped : Bool) → fault_of exists stopped ≡ None → (exists ≡ true) × (stopped ≡ false)
no_fault true true none = absurd (cc)
no_fault true false none = (refl, refl)
no_fault false stopped none = absurd (cc)

pub not_missing : (exists : Bool) → missing exists ≡ None → exists ≡ true
not_missing true none = refl
not_missing false none = absurd (cc)
