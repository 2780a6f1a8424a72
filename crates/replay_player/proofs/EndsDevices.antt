-- At a script's end its devices end, and then its sessions are closed.
use Rattle.std.proofs.Common.{◌≡◌, ◌<◌, ◌⊎◌, ℕ, zero, suc, ◌+◌, ◌-◌, Bool, true, false, ◌||◌, ◌&&◌, nat_eq, List, [], ◌∷◌, ◌++◌, length, fold, map, get_or, cond, Option, Some, None, Result, Ok, Err, OnOk, OnErr, refl, sym, ap, ◌∙◌, subst, inl, inr, arith}
use Rattle.std.specs.List.{AllZip, list_all, list_any, range_with_len}
use Rattle.std.proofs.lemmas.Bool.{cases_lt, eq-eqb, lt-ltb}
use Rattle.std.proofs.lemmas.List.Folds.{list_any-append}
use Rattle.gps_fixed.specs.declared.no_memory.NoMemory.{NoMemory}
use Rattle.session_core.specs.declared.mark.Close.{Close}
use Rattle.session_core.specs.declared.mark.Close.TheVariants.{DaemonEnd}
use Rattle.book_log.specs.Entries.{Entry, ended, has_end, has_lost, is_end_of, is_loss_of, stops_in}
use Rattle.book_log.specs.History.{history_after}
use Rattle.book_log.specs.Standing.{DeviceStateView, has_stopped}
use Rattle.book_sessions.specs.MemberView.{MemberView}
use Rattle.book_sessions.specs.Roster.{Shuts, ShutsBy}
use Rattle.report_book.specs.BookView.{BookView}
use Rattle.report_book.specs.declared.fault.BookFault.{BookFault}
use Rattle.report_book.specs.Moves.{Earns, Moves, ShutsAll}
use Rattle.report_book.specs.Refusals.{RefusesAs, device_fault, fault_of}
use Rattle.report_book.specs.Standing.{BookHolds}
use Rattle.session_runs.specs.Following.{shut_run}
use Rattle.session_runs.proofs.Books.{place_is}
use Rattle.replay_player.specs.Clients.{Client, closed}
use Rattle.replay_player.specs.Ending.{HaveStopped, IsServed}
use Rattle.replay_player.specs.Ends.{all_ended, ended_at, shut}
use Rattle.replay_player.specs.Playing.{Attends, BookStandsFor, ReplayBookView, state_of}
use Rattle.replay_player.specs.States.{State, came}
use Rattle.replay_player.proofs.Bringing.{brought}
use Rattle.replay_player.proofs.Refusing.{device_is, stopped_so}
use Rattle.replay_player.proofs.Seating.{hung_one, over_parts, seated}
use Rattle.replay_player.proofs.Telling.{run_open, still_open}

-- one device

kept_so : (s : ReplayBookView) (b : BookView) (state : State) → b ≡ s.book → BookStandsFor s state → BookStandsFor (record s { book = b }) state
kept_so s b state same plays = let P : BookView → Type 0 = λ x. BookStandsFor (record s { book = x }) state in subst P (sym same) plays

pub one_ended : (s : ReplayBookView) (b : BookView) (d : ℕ) (result : Result (Unit {0}) BookFault) (done : Result (Unit {0}) NoMemory) → d < length s.book.names → BookHolds s.book
    → OnOk result (Moves true false s.book b (ended d)) → OnOk result (Earns s.book b (ended d)) → RefusesAs (device_fault s.book d) result → OnErr result (b ≡ s.book)
    → OnOk done (IsServed result) → (state : State) → BookStandsFor s state → OnOk done (BookStandsFor (record s { book = b }) (ended_at state d))
one_ended s b d result (Err fault) there held moves earns refuses same served state plays = tt
one_ended s b d result (Ok u) there held moves earns refuses same served state plays =
    let whole = plays.before ++ s.book.log.log in
    let P : State → Type 0 = λ st. BookStandsFor (record s { book = b }) (ended_at st d) in
    let at = state_of s.book.names whole plays.firsts plays.clients plays.stores plays.watches in
    let now : BookStandsFor s at = over_parts s state plays in
    let R : Option BookFault → Type 0 = λ f. RefusesAs f result in
    let F : Bool → Type 0 = λ x. R (fault_of x (stops_in d whole)) in
    let refused = subst F (lt-ltb d (length s.book.names) there) (subst R (device_is s.book plays.before d held plays.standing.stands) refuses) in
    subst P plays.is (by at now (stops_in d whole) result moves earns same served refused)
  where
    by : (at : State) → BookStandsFor s at → (stopped : Bool) (result : Result (Unit {0}) BookFault) → OnOk result (Moves true false s.book b (ended d)) → OnOk result (Earns s.book b (ended d))
        → OnErr result (b ≡ s.book) → IsServed result → RefusesAs (fault_of true stopped) result → BookStandsFor (record s { book = b }) (cond stopped at (came (ended d) at))
    by at now true (Ok v) moves earns same served refused = absurd (cc)
    by at now false (Ok v) moves earns same served refused = brought s b false (ended d) at held moves earns now
    by at now true (Err fault) moves earns same served refused = kept_so s b at same now
    by at now false (Err fault) moves earns same served refused = absurd (let P : BookFault → Type 0 = λ f. IsServed (Err f) in subst P refused served)

-- all devices, from number d on

abbrev pub ended_from : ℕ → ℕ → State → State
ended_from d count state = fold ended_at state (range_with_len d count)

-- those below d have ended: what is left is the same as at first
pub record EndedTo (now : ReplayBookView) (d : ℕ) (state : State) : Type 0 where
  pub mid : State
  pub plays : BookStandsFor now mid
  pub left : ended_from d (length state.names - d) mid ≡ all_ended state

abbrev pub EndedSoFar : ReplayBookView → ReplayBookView → ℕ → Type 0
EndedSoFar s now d = (state : State) → BookStandsFor s state → EndedTo now d state

pub none_ended : (s : ReplayBookView) → EndedSoFar s s 0
none_ended s = λ state plays.
    let n = length state.names in
    let e : n - 0 ≡ n = omega arith in
    record { mid = state; plays = plays; left = ap (λ k. ended_from 0 k state) e }

pub names_so : (s : ReplayBookView) (state : State) → BookStandsFor s state → s.book.names ≡ state.names
names_so s state plays = ap (λ (st : State). st.names) plays.is

pub one_more_ended : (s now next : ReplayBookView) (d : ℕ) → d < length s.book.names → EndedSoFar s now d
    → ((state : State) → BookStandsFor now state → BookStandsFor next (ended_at state d)) → EndedSoFar s next (d + 1)
one_more_ended s now next d below so_far step = λ state plays.
    let was = so_far state plays in
    let n = length state.names in
    let same : length s.book.names ≡ n = ap length (names_so s state plays) in
    let e : n - d ≡ suc (n - (d + 1)) = omega (arith, below, same) in
    record { mid = ended_at was.mid d; plays = step was.mid was.plays; left = ap (λ k. ended_from d k was.mid) (sym e) ∙ was.left }

pub every_one_ended : (s now : ReplayBookView) (d : ℕ) → d ≡ length s.book.names → EndedSoFar s now d → (state : State) → BookStandsFor s state → BookStandsFor now (all_ended state)
every_one_ended s now d all so_far state plays =
    let was = so_far state plays in
    let n = length state.names in
    let same : length s.book.names ≡ n = ap length (names_so s state plays) in
    let none : 0 ≡ n - d = omega (arith, all, same) in
    let P : State → Type 0 = λ st. BookStandsFor now st in
    subst P (ap (λ k. ended_from d k was.mid) none ∙ was.left) was.plays

-- then each has stopped

or_left : (a b : Bool) → a ≡ true → (a || b) ≡ true
or_left true b is = refl
or_left false b is = absurd (cc)

or_right : (a b : Bool) → b ≡ true → (a || b) ≡ true
or_right true b is = refl
or_right false b is = is

or_one : (a b : Bool) → (a || b) ≡ true → (a ≡ true) ⊎ (b ≡ true)
or_one true b is = inl refl
or_one false b is = inr is

stays_in : (p : Entry → Bool) (log more : List Entry) → list_any p log ≡ true → list_any p (log ++ more) ≡ true
stays_in p log more is = list_any-append p log more ∙ or_left (list_any p log) (list_any p more) is

stays_stopped : (d : ℕ) (log more : List Entry) → stops_in d log ≡ true → stops_in d (log ++ more) ≡ true
stays_stopped d log more is = elim (or_one (has_end d log) (has_lost d log) is) [
  | inl end ↦ or_left (has_end d (log ++ more)) (has_lost d (log ++ more)) (stays_in (is_end_of d) log more end)
  | inr lost ↦ or_right (has_end d (log ++ more)) (has_lost d (log ++ more)) (stays_in (is_loss_of d) log more lost)
]

stops_now : (d : ℕ) (log : List Entry) → stops_in d (log ++ ended d) ≡ true
stops_now d log =
    let one : list_any (is_end_of d) (ended d) ≡ true = or_left (nat_eq d d) false (eq-eqb d d refl) in
    or_left (has_end d (log ++ ended d)) (has_lost d (log ++ ended d))
    (list_any-append (is_end_of d) log (ended d) ∙ or_right (list_any (is_end_of d) log) (list_any (is_end_of d) (ended d)) one)

came_log : (entries : List Entry) (state : State) → (came entries state).log ≡ state.log ++ entries
unfolding came
came_log entries state = refl

came_names : (entries : List Entry) (state : State) → (came entries state).names ≡ state.names
unfolding came
came_names entries state = refl

keeps_names : (state : State) (d : ℕ) → (ended_at state d).names ≡ state.names
keeps_names state d = by (stops_in d state.log)
  where
    by : (stopped : Bool) → (cond stopped state (came (ended d) state)).names ≡ state.names
    by true = refl
    by false = came_names (ended d) state

keeps_stopped : (state : State) (d e : ℕ) → stops_in e state.log ≡ true → stops_in e (ended_at state d).log ≡ true
keeps_stopped state d e is = by (stops_in d state.log)
  where
    by : (stopped : Bool) → stops_in e (cond stopped state (came (ended d) state)).log ≡ true
    by true = is
    by false = ap (stops_in e) (came_log (ended d) state) ∙ stays_stopped e state.log (ended d) is

stops_itself : (state : State) (d : ℕ) → stops_in d (ended_at state d).log ≡ true
stops_itself state d = by (stops_in d state.log) refl
  where
    by : (stopped : Bool) → stops_in d state.log ≡ stopped → stops_in d (cond stopped state (came (ended d) state)).log ≡ true
    by true is = is
    by false is = ap (stops_in d) (came_log (ended d) state) ∙ stops_now d state.log

stopped_below : (state : State) (d e : ℕ) → ((k : ℕ) → k < d → stops_in k state.log ≡ true) → e < d + 1 → stops_in e (ended_at state d).log ≡ true
stopped_below state d e each below = elim (cases_lt e d) [
  | inl under ↦ keeps_stopped state d e (each e under)
  | inr over ↦ let same : d ≡ e = omega (arith, below, over) in subst (λ k. stops_in k (ended_at state d).log ≡ true) same (stops_itself state d)
]

from_there : (count d : ℕ) (state : State) → ((k : ℕ) → k < d → stops_in k state.log ≡ true)
    → ((ended_from d count state).names ≡ state.names) × ((e : ℕ) → e < d + count → stops_in e (ended_from d count state).log ≡ true)
from_there zero d state each = (refl, λ e below. each e (omega (arith, below)))
from_there (suc count) d state each =
    let rest = from_there count (d + 1) (ended_at state d) (λ k below. stopped_below state d k each below) in
    (rest.0 ∙ keeps_names state d, λ e below. rest.1 e (omega (arith, below)))

pub have_stopped : (state : State) → HaveStopped (all_ended state)
have_stopped state = λ d below.
    let all = from_there (length state.names) 0 state (λ k none. absurd (omega (arith, none))) in
    let same : length (all_ended state).names ≡ length state.names = ap length all.0 in
    all.1 d (omega (arith, below, same))

-- the sessions are closed

list_all_at : {A : Type 0} (p : A → Bool) (xs : List A) → ((d : ℕ) (free : A) → d < length xs → p (get_or xs d free) ≡ true) → list_all p xs ≡ true
list_all_at p [] each = refl
list_all_at p (x ∷ xs) each =
    ap (λ b. b && list_all p xs) (each 0 x (omega arith)) ∙ list_all_at p xs (λ d free below. each (suc d) free (omega (arith, below)))

pub lines_stopped : (s : ReplayBookView) (state : State) → BookHolds s.book → BookStandsFor s state → HaveStopped state → list_all (λ (line : DeviceStateView). has_stopped line.stage) s.book.log.present.lines ≡ true
lines_stopped s state held plays stopped =
    let P : State → Type 0 = λ st. HaveStopped st → list_all (λ (line : DeviceStateView). has_stopped line.stage) s.book.log.present.lines ≡ true in
    subst P plays.is
    (λ each. list_all_at (λ (line : DeviceStateView). has_stopped line.stage) s.book.log.present.lines (λ d free below.
    let stand = (held.log.over plays.before plays.standing.stands).present in
    let count = held.names in
    stopped_so (get_or s.book.log.present.lines d free) d (plays.before ++ s.book.log.log) (stand.lines d free below) ∙ each d (omega (arith, below, count))))
    stopped

pub not_stopped : (s : ReplayBookView) (test : Bool) → BookHolds s.book → test ≡ list_all (λ (line : DeviceStateView). has_stopped line.stage) s.book.log.present.lines → test ≡ false
    → (state : State) → BookStandsFor s state → HaveStopped state → BookStandsFor s (shut state)
not_stopped s test held is none state plays stopped = absurd (let all = lines_stopped s state held plays stopped in let e : false ≡ true = sym none ∙ is ∙ all in cc)

closes_one : (names : List (List ℕ)) (before log : List Entry) (place : ℕ) (a b : MemberView) (c : Client) → length (history_after before log) ≡ place
    → Attends names before log a c → Shuts place DaemonEnd a b → Attends names before log b (closed (before ++ log) DaemonEnd c)
closes_one names before log place a b c long attends shuts = by c.run.closing refl
  where
    at : (now : Option (ℕ × Close)) (was : ℕ × Close) → a.session.closing ≡ now → c.run.closing ≡ Some was → ShutsBy now place DaemonEnd a b → Attends names before log b (closed (before ++ log) DaemonEnd c)
    at None was none is shuts = absurd (let e = run_open names before log a.session c.run attends.run none in let f : None ≡ Some was = sym e ∙ is in cc)
    at (Some now) was some is shuts =
        let A : MemberView → Type 0 = λ x. Attends names before log x c in
        let C : Option (ℕ × Close) → Type 0 = λ o. Attends names before log b (record c { run = shut_run (before ++ log) DaemonEnd o c.run }) in
        subst C (sym is) (subst A (sym shuts) attends)

    by : (closing : Option (ℕ × Close)) → c.run.closing ≡ closing → Attends names before log b (closed (before ++ log) DaemonEnd c)
    by None is =
        let S : Option (ℕ × Close) → Type 0 = λ o. ShutsBy o place DaemonEnd a b in
        hung_one names before log DaemonEnd place a b c long attends is (subst S (still_open names before log a.session c.run attends.run is) shuts)
    by (Some was) is = at a.session.closing was refl is shuts

closes_all : (names : List (List ℕ)) (before log : List Entry) (place : ℕ) → length (history_after before log) ≡ place → (sessions members : List MemberView) (clients : List Client)
    → AllZip (Attends names before log) sessions clients → AllZip (Shuts place DaemonEnd) sessions members → AllZip (Attends names before log) members (map (closed (before ++ log) DaemonEnd) clients)
closes_all names before log place long [] [] [] zip shuts = tt
closes_all names before log place long [] (b ∷ members) [] zip shuts = shuts
closes_all names before log place long [] [] (c ∷ clients) zip shuts = zip
closes_all names before log place long [] (b ∷ members) (c ∷ clients) zip shuts = absurd shuts
closes_all names before log place long (a ∷ sessions) [] [] zip shuts = absurd zip
closes_all names before log place long (a ∷ sessions) [] (c ∷ clients) zip shuts = absurd shuts
closes_all names before log place long (a ∷ sessions) (b ∷ members) [] zip shuts = absurd zip
closes_all names before log place long (a ∷ sessions) (b ∷ members) (c ∷ clients) zip shuts =
    (closes_one names before log place a b c long zip.0 shuts.0, closes_all names before log place long sessions members clients zip.1 shuts.1)

pub shuts_all : (s : ReplayBookView) (b : BookView) → BookHolds s.book → ShutsAll s.book b → (state : State) → BookStandsFor s state → BookStandsFor (record s { book = b }) (shut state)
shuts_all s b held shuts state plays =
    let whole = plays.before ++ s.book.log.log in
    let P : State → Type 0 = λ st. BookStandsFor (record s { book = b }) (shut st) in
    let zip = closes_all s.book.names plays.before s.book.log.log s.book.log.length (place_is s.book plays.before held plays.standing.stands) s.book.sessions b.sessions plays.clients
    plays.standing.clients_are shuts.sessions in
    subst P plays.is (seated s b plays.before plays.firsts plays.clients (map (closed whole DaemonEnd) plays.clients) plays.stores plays.watches shuts.same plays.standing zip)
