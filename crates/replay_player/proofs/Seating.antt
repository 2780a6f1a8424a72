-- The events of sessions: one of them changes, or a new one comes.
use Rattle.std.proofs.Common.{◌≡◌, ◌≤◌, ◌<◌, ◌⊎◌, ℕ, zero, suc, ◌+◌, ◌-◌, ◌^◌, min, Bool, true, false, ◌&&◌, ◌||◌, not, nat_lt, nat_eq, List, [], ◌∷◌, ◌++◌, length, fold, get_or, set, slice_get, slice_index, count_by, cond, is_some, Option, Some, None, Result, Ok, Err, IsErr, OnOk, option_and_then, refl, sym, ap, ◌∙◌, subst, inl, inr, length-append, arith}
use Rattle.std.specs.List.{AllZip}
use Rattle.std.proofs.lemmas.Bool.{eq-eqb, le-ltb, lt-ltb}
use Rattle.gps_fixed.specs.declared.no_memory.NoMemory.{NoMemory}
use Rattle.gps_command.specs.Kept.{kept_from}
use Rattle.session_core.specs.declared.mark.Close.{Close}
use Rattle.session_core.specs.declared.mark.Close.TheVariants.{HungUp}
use Rattle.session_core.specs.Naming.{OutletName}
use Rattle.session_core.specs.SessionView.{SessionView}
use Rattle.book_log.specs.Entries.{Entry}
use Rattle.book_log.specs.History.{history, history_after}
use Rattle.book_log.specs.Standing.{StandsFor}
use Rattle.book_replies.specs.Replies.{opening_reply}
use Rattle.book_sessions.specs.Answering.{raised}
use Rattle.book_sessions.specs.MemberView.{MemberView, is_open as is_open_here}
use Rattle.book_sessions.specs.MemberView.{opened as opened_here}
use Rattle.book_sessions.specs.Roster.{Closes, live_in as live_here, most_live, most_opened}
use Rattle.book_units.specs.Samples.{samples_of}
use Rattle.report_book.specs.BookView.{BookView}
use Rattle.report_book.specs.declared.fault.BookFault.{BookFault}
use Rattle.report_book.specs.declared.fault.BookFault.TheVariants as book
use Rattle.report_book.specs.Moves.{Admits, HangsUp, SameButSessions}
use Rattle.report_book.specs.Refusals.{RefusesAs, RefusesOnly, RefusesWith, crowd_fault, fault_of, session_fault}
use Rattle.report_book.specs.Standing.{BookHolds}
use Rattle.session_runs.specs.Runs.{SessionRun, IsRunOf, closed_from}
use Rattle.session_runs.specs.Following.{Extends, closed_run, opened_run, shut_run}
use Rattle.session_runs.proofs.Books.{admitted_begins, place_is}
use Rattle.session_runs.proofs.Going.{closings_end}
use Rattle.session_runs.proofs.Zipping.{zip_push, zip_set}
use Rattle.replay_player.specs.Books.{IsStoredAt}
use Rattle.replay_player.proofs.Books.{keeps_same, same_units}
use Rattle.replay_player.specs.declared.event_step.EventStep.{EventStep}
use Rattle.replay_player.specs.declared.event_step.EventStep.TheVariants.{Refused}
use Rattle.replay_player.specs.Clients.{Client, closed, is_open, items_of, opened}
use Rattle.replay_player.specs.Effects.{allowed, changes, hangs, opens, quietly, with_client}
use Rattle.replay_player.specs.Playing.{Acts, AdmitsTo, Attends, ComesTo, BookStandsFor, RefusesTo, ReplayBookView, Standing, state_of}
use Rattle.replay_player.specs.States.{State, MonitorState, live_in}
use Rattle.replay_player.proofs.Bringing.{same_state, watched_on}
use Rattle.replay_player.proofs.Refusing.{acts_by, only_as}
use Rattle.replay_player.proofs.Telling.{goes_on, still_open}

-- the n-th of two lists

pub record Both {A B : Type 0} (R : A → B → Type 0) (xs : List A) (ys : List B) (n : ℕ) : Type 0 where
  pub one : A
  pub other : B
  pub first : slice_get xs n ≡ Some one
  pub second : slice_get ys n ≡ Some other
  pub pair : R one other
  pub there : n < length xs
  pub is : (free : A) → get_or xs n free ≡ one

pub record Neither {A B : Type 0} (xs : List A) (ys : List B) (n : ℕ) : Type 0 where
  pub first : slice_get xs n ≡ None
  pub second : slice_get ys n ≡ None
  pub past : length xs ≤ n

pub zip_at : {A B : Type 0} (R : A → B → Type 0) (xs : List A) (ys : List B) (n : ℕ) → AllZip R xs ys → Both R xs ys n ⊎ Neither xs ys n
zip_at R [] [] n zip = inr (record { first = refl; second = refl; past = omega arith })
zip_at R [] (y ∷ ys) n zip = absurd zip
zip_at R (x ∷ xs) [] n zip = absurd zip
zip_at R (x ∷ xs) (y ∷ ys) zero zip = inl (record { one = x; other = y; first = refl; second = refl; pair = zip.0; there = omega arith; is = λ free. refl })
zip_at R (x ∷ xs) (y ∷ ys) (suc n) zip = elim (zip_at R xs ys n zip.1) [
  | inl both ↦ inl (record { one = both.one; other = both.other; first = both.first; second = both.second; pair = both.pair; there = let b = both.there in omega (arith, b); is = both.is })
  | inr neither ↦ inr (record { first = neither.first; second = neither.second; past = let p = neither.past in omega (arith, p) })
]

counted_on : {A B : Type 0} (R : A → B → Type 0) (p : A → Bool) (q : B → Bool) → ((x : A) (y : B) → R x y → p x ≡ q y) → (n : ℕ) (xs : List A) (ys : List B) → AllZip R xs ys
    → fold (λ (a : ℕ) (x : A). a + cond (p x) 1 0) n xs ≡ fold (λ (a : ℕ) (y : B). a + cond (q y) 1 0) n ys
counted_on R p q same n [] [] zip = refl
counted_on R p q same n [] (y ∷ ys) zip = absurd zip
counted_on R p q same n (x ∷ xs) [] zip = absurd zip
counted_on {A} R p q same n (x ∷ xs) (y ∷ ys) zip =
    ap (λ b. fold (λ (a : ℕ) (z : A). a + cond (p z) 1 0) (n + cond b 1 0) xs) (same x y zip.0) ∙ counted_on R p q same (n + cond (q y) 1 0) xs ys zip.1

count_same : {A B : Type 0} (R : A → B → Type 0) (p : A → Bool) (q : B → Bool) → ((x : A) (y : B) → R x y → p x ≡ q y) → (xs : List A) (ys : List B) → AllZip R xs ys → count_by p xs ≡ count_by q ys
count_same R p q same xs ys zip = counted_on R p q same 0 xs ys zip

pub long_same : {A B : Type 0} (R : A → B → Type 0) (xs : List A) (ys : List B) → AllZip R xs ys → length xs ≡ length ys
long_same R [] [] zip = refl
long_same R [] (y ∷ ys) zip = absurd zip
long_same R (x ∷ xs) [] zip = absurd zip
long_same R (x ∷ xs) (y ∷ ys) zip = ap suc (long_same R xs ys zip.1)

-- it is closed if its run is
pub closed_same : (names : List (List ℕ)) (before log : List Entry) (s : SessionView) (r : SessionRun) → IsRunOf names before log s r → is_some s.closing ≡ is_some r.closing
closed_same names before log s r (inl here) = by s.closing ∙ ap is_some (sym here.closing)
  where
    by : (o : Option (ℕ × Close)) → is_some o ≡ is_some (closed_from (length (history before)) o)
    by None = refl
    by (Some closing) = refl
closed_same names before log s r (inr over) = ap is_some over.now ∙ ap is_some (sym over.closing)

-- the sessions alone have changed

pub seated : (s : ReplayBookView) (b : BookView) (before : List Entry) (firsts : List ℕ) (clients nexts : List Client) (stores : List ℕ) (watches : List MonitorState)
    → SameButSessions s.book b → Standing s before firsts clients stores watches → AllZip (Attends s.book.names before s.book.log.log) b.sessions nexts
    → BookStandsFor (record s { book = b }) (state_of s.book.names (before ++ s.book.log.log) firsts nexts stores watches)
seated s b before firsts clients nexts stores watches same standing zip =
    let keeps = keeps_same s.book b same.units in
    let N : List (List ℕ) → Type 0 = λ n. AllZip (Attends n before s.book.log.log) b.sessions nexts in
    let joined : before ++ b.log.log ≡ before ++ s.book.log.log = ap (λ l. before ++ l.log) same.log in
    record {
      before = before;
      firsts = firsts;
      clients = nexts;
      stores = stores;
      watches = watches;
      standing = record {
        stands = subst (λ l. StandsFor l.opening before) (sym same.log) standing.stands;
        requests = same.requests ∙ standing.requests;
        clients_are = subst (λ l. AllZip (Attends b.names before l.log) b.sessions nexts) (sym same.log) (subst N (sym same.names) zip);
        units_are = λ u within.
            let old_within : u < length s.book.units = let count = keeps.count in omega (arith, within, count) in
            let P : List Entry → Type 0 = λ l. IsStoredAt u (slice_index firsts u) (samples_of u (history l)) (slice_index stores u) b in
            subst P (sym joined) (same_units s.book b same.units u (slice_index firsts u) (slice_index stores u) (samples_of u (history (before ++ s.book.log.log))) (standing.units_are u old_within));
        many = standing.many;
        few = standing.few;
        watches_are = watched_on s.book b keeps s.watchers watches standing.watches_are;
      };
      is = same_state b.names s.book.names (before ++ b.log.log) (before ++ s.book.log.log) firsts nexts nexts stores watches same.names joined refl;
    }

-- a call that was refused made nothing
nothing_made : (fault : BookFault) (result : Result (Unit {0}) BookFault) (X : Type 0) → RefusesAs (Some fault) result → OnOk result X
nothing_made fault (Ok u) X refuses = absurd (cc)
nothing_made fault (Err other) X refuses = tt

-- one session that is there and open becomes another

pub changes_by : (s : ReplayBookView) (new : ReplayBookView) (state : State) (n : ℕ) (next : Client → Client) (result : Result (Unit {0}) BookFault) (round : Result EventStep NoMemory) → (plays : BookStandsFor s state)
    → ComesTo result round → RefusesAs (session_fault s.book n) result
    → ((both : Both (Attends s.book.names plays.before s.book.log.log) s.book.sessions plays.clients n) → both.other.run.closing ≡ None
    → OnOk result (BookStandsFor new (with_client n (next both.other) (state_of s.book.names (plays.before ++ s.book.log.log) plays.firsts plays.clients plays.stores plays.watches))))
    → Acts round (changes n next state) new [] []
changes_by s new state n next result round plays comes refuses made =
    let at = state_of s.book.names (plays.before ++ s.book.log.log) plays.firsts plays.clients plays.stores plays.watches in
    let P : State → Type 0 = λ st. Acts round (changes n next st) new [] [] in
    subst P plays.is (elim (zip_at (Attends s.book.names plays.before s.book.log.log) s.book.sessions plays.clients n plays.standing.clients_are) [
      | inl both ↦
          let E : Option Client → Type 0 = λ o. Acts round (option_and_then (λ (c : Client). allowed (is_open c) (quietly (with_client n (next c) at))) o) new [] [] in
          let there : nat_lt n (length s.book.sessions) ≡ true = lt-ltb n (length s.book.sessions) both.there in
          let closes : is_some (option_and_then (λ (a : MemberView). a.session.closing) (slice_get s.book.sessions n)) ≡ is_some both.other.run.closing =
          ap (λ (o : Option MemberView). is_some (option_and_then (λ (a : MemberView). a.session.closing) o)) both.first
          ∙ closed_same s.book.names plays.before s.book.log.log both.one.session both.other.run both.pair.run in
          let fault : session_fault s.book n ≡ fault_of true (is_some both.other.run.closing) =
          ap (λ b. fault_of b (is_some (option_and_then (λ (a : MemberView). a.session.closing) (slice_get s.book.sessions n)))) there ∙ ap (fault_of true) closes in
          subst E (sym both.second) (by both.other.run.closing both refl fault)
      | inr neither ↦
          let E : Option Client → Type 0 = λ o. Acts round (option_and_then (λ (c : Client). allowed (is_open c) (quietly (with_client n (next c) at))) o) new [] [] in
          let past = neither.past in
          let F : Bool → Type 0 = λ b. session_fault s.book n ≡ fault_of b (is_some (option_and_then (λ (a : MemberView). a.session.closing) (slice_get s.book.sessions n))) in
          let none : nat_lt n (length s.book.sessions) ≡ false = le-ltb n (length s.book.sessions) past in
          let gone : RefusesAs (Some book.NoSuch) result = subst (λ f. RefusesAs f result) (ap (λ b. fault_of b (is_some (option_and_then (λ (a : MemberView). a.session.closing) (slice_get s.book.sessions n)))) none) refuses in
          subst E (sym neither.second) (acts_by false false result round at new comes gone (nothing_made book.NoSuch result (BookStandsFor new at) gone))
    ])
  where
    by : (closing : Option (ℕ × Close)) (both : Both (Attends s.book.names plays.before s.book.log.log) s.book.sessions plays.clients n) → both.other.run.closing ≡ closing
        → session_fault s.book n ≡ fault_of true (is_some both.other.run.closing)
        → Acts round (allowed (is_open both.other) (quietly (with_client n (next both.other) (state_of s.book.names (plays.before ++ s.book.log.log) plays.firsts plays.clients plays.stores plays.watches)))) new [] []
    by None both is fault =
        acts_by true (is_some both.other.run.closing) result round (with_client n (next both.other) (state_of s.book.names (plays.before ++ s.book.log.log) plays.firsts plays.clients plays.stores plays.watches)) new comes
        (subst (λ f. RefusesAs f result) fault refuses) (made both is)
    by (Some closing) both is fault =
        let ended : RefusesAs (Some book.Ended) result = subst (λ f. RefusesAs f result) (fault ∙ ap (λ o. fault_of true (is_some o)) is) refuses in
        acts_by true (is_some both.other.run.closing) result round (with_client n (next both.other) (state_of s.book.names (plays.before ++ s.book.log.log) plays.firsts plays.clients plays.stores plays.watches)) new comes
        (subst (λ f. RefusesAs f result) fault refuses) (nothing_made book.Ended result (BookStandsFor new (with_client n (next both.other) (state_of s.book.names (plays.before ++ s.book.log.log) plays.firsts plays.clients plays.stores plays.watches))) ended)

-- the stage over its own parts
abbrev pub over_parts : (s : ReplayBookView) (state : State) → (plays : BookStandsFor s state) → BookStandsFor s (state_of s.book.names (plays.before ++ s.book.log.log) plays.firsts plays.clients plays.stores plays.watches)
over_parts s state plays = record {
  before = plays.before;
  firsts = plays.firsts;
  clients = plays.clients;
  stores = plays.stores;
  watches = plays.watches;
  standing = plays.standing;
  is = refl;
}

-- hanging up, and the shut

pub hung_one : (names : List (List ℕ)) (before log : List Entry) (why : Close) (place : ℕ) (a b : MemberView) (c : Client) → length (history_after before log) ≡ place
    → Attends names before log a c → c.run.closing ≡ None → Closes place why a b → Attends names before log b (closed (before ++ log) why c)
hung_one names before log why place a b c long attends c_open closes =
    let whole = before ++ log in
    let d : Client = closed whole why c in
    let a_open = still_open names before log a.session c.run attends.run c_open in
    let extends = closings_end names before log place why a b c.run long a_open closes attends.run in
    let run_is : closed_run whole why c.run ≡ d.run = ap (λ o. shut_run whole why o c.run) (sym c_open) in
    let E : SessionRun → Type 0 = λ r. Extends names before log before log a.session b.session [] c.run r in
    let same : b.session.kept ≡ a.session.kept = ap (λ (x : MemberView). x.session.kept) closes.becomes in
    let A : MemberView → Type 0 = λ x. length x.session.kept ≤ x.session.cap in
    goes_on names before log log a b c d [] attends (subst E run_is extends)
    (record {
      cap = ap (λ (x : MemberView). x.session.cap) closes.becomes;
      policy = ap (λ (x : MemberView). x.session.policy) closes.becomes;
      requests = ap (λ (x : MemberView). x.session.requests) closes.becomes;
      items = λ more kept.
          let both : length a.session.kept ≡ length (a.session.kept ++ more) = ap length (sym same ∙ kept) in
          let none : 0 ≡ length more = omega (arith, both, length-append a.session.kept more) in
          ap (λ (x : MemberView). x.session.items) closes.becomes ∙ ap (raised a.session.items) none;
    })
    refl (ap (λ o. (shut_run whole why o c.run).stretches) c_open) (subst A (sym closes.becomes) attends.room)
    (λ is_open. absurd (let e : Some (length (history whole), why) ≡ None = sym (ap (λ o. (shut_run whole why o c.run).closing) c_open) ∙ is_open in cc))
    (λ is_open. c_open)

pub hung : (s : ReplayBookView) (b : BookView) (n : ℕ) (result : Result (Unit {0}) BookFault) (round : Result EventStep NoMemory) → BookHolds s.book
    → ComesTo result round → RefusesOnly (session_fault s.book n) result → OnOk result (HangsUp n HungUp s.book b)
    → (state : State) → BookStandsFor s state → Acts round (hangs n state) (record s { book = b }) [] []
unfolding hangs
hung s b n result round held comes refuses hangs state plays =
    let P : State → Type 0 = λ st. Acts round (changes n (closed st.log HungUp) st) (record s { book = b }) [] [] in
    subst P plays.is
    (changes_by s (record s { book = b }) (state_of s.book.names (plays.before ++ s.book.log.log) plays.firsts plays.clients plays.stores plays.watches) n (closed (plays.before ++ s.book.log.log) HungUp) result round
    (over_parts s state plays) comes (only_as (session_fault s.book n) result refuses)
    (λ both c_open. by both c_open result hangs))
  where
    by : (both : Both (Attends s.book.names plays.before s.book.log.log) s.book.sessions plays.clients n) → both.other.run.closing ≡ None
        → (result : Result (Unit {0}) BookFault) → OnOk result (HangsUp n HungUp s.book b)
        → OnOk result (BookStandsFor (record s { book = b }) (with_client n (closed (plays.before ++ s.book.log.log) HungUp both.other) (state_of s.book.names (plays.before ++ s.book.log.log) plays.firsts plays.clients plays.stores plays.watches)))
    by both c_open (Err fault) hangs = tt
    by both c_open (Ok u) hangs =
        let next = hangs.session.0 in
        let c = both.other in
        let C : MemberView → Type 0 = λ x. Closes s.book.log.length HungUp x next in
        let closes = subst C (both.is both.one) (hangs.session.2 both.one) in
        let attends = hung_one s.book.names plays.before s.book.log.log HungUp s.book.log.length both.one next c (place_is s.book plays.before held plays.standing.stands) both.pair c_open closes in
        let zip = zip_set (Attends s.book.names plays.before s.book.log.log) s.book.sessions plays.clients n next (closed (plays.before ++ s.book.log.log) HungUp c) attends plays.standing.clients_are in
        let Z : List MemberView → Type 0 = λ l. AllZip (Attends s.book.names plays.before s.book.log.log) l (set plays.clients n (closed (plays.before ++ s.book.log.log) HungUp c)) in
        seated s b plays.before plays.firsts plays.clients (set plays.clients n (closed (plays.before ++ s.book.log.log) HungUp c)) plays.stores plays.watches hangs.same plays.standing (subst Z (sym hangs.session.1) zip)

-- a new session

attends_new : (names : List (List ℕ)) (before log : List Entry) (name : OutletName) (cap number place : ℕ) → 1 ≤ cap → cap ≤ 65_536
    → IsRunOf names before log (opened_here name cap number place).session (opened_run (before ++ log)) → items_of names (before ++ log) (opened cap (before ++ log)) ≡ opening_reply ∷ []
    → Attends names before log (opened_here name cap number place) (opened cap (before ++ log))
unfolding kept_from
attends_new names before log name cap number place least most run items = record {
  run = run;
  cap = refl;
  least = most;
  kept = sym items;
  taken = omega arith;
  room = least;
  items = ap (λ (l : List (List ℕ)). min (length l) (2 ^ 64 - 1)) (sym items);
  policy = refl;
  some = omega arith;
  requests = refl;
  few = omega arith;
  cutter = λ is_open. refl;
}

pub admitted : (s : ReplayBookView) (b : BookView) (name : OutletName) (n cap : ℕ) (state : State) → BookHolds s.book → 1 ≤ cap → cap ≤ 65_536 → Admits name cap s.book b → (plays : BookStandsFor s state)
    → BookStandsFor (record s { book = b }) (record (state_of s.book.names (plays.before ++ s.book.log.log) plays.firsts plays.clients plays.stores plays.watches) { clients = plays.clients ++ opened cap (plays.before ++ s.book.log.log) ∷ [] })
admitted s b name n cap state held least most admits plays =
    let begins = admitted_begins name cap s.book b plays.before held plays.standing.stands admits in
    let log : b.log ≡ s.book.log = admits.same.log in
    let new = opened_here name cap s.book.most_requests s.book.log.length in
    let R : List (List ℕ) → Type 0 = λ m. IsRunOf m plays.before b.log.log new.session (opened_run (plays.before ++ b.log.log)) in
    let run = subst (λ l. IsRunOf s.book.names plays.before l.log new.session (opened_run (plays.before ++ l.log))) log (subst R admits.same.names begins.run) in
    let I : List (List ℕ) → Type 0 = λ m. items_of m (plays.before ++ b.log.log) (opened cap (plays.before ++ b.log.log)) ≡ opening_reply ∷ [] in
    let items = subst (λ l. items_of s.book.names (plays.before ++ l.log) (opened cap (plays.before ++ l.log)) ≡ opening_reply ∷ []) log (subst I admits.same.names begins.items) in
    let c = opened cap (plays.before ++ s.book.log.log) in
    let attends = attends_new s.book.names plays.before s.book.log.log name cap s.book.most_requests s.book.log.length least most run items in
    let zip = zip_push (Attends s.book.names plays.before s.book.log.log) s.book.sessions plays.clients new c attends plays.standing.clients_are in
    let Z : List MemberView → Type 0 = λ l. AllZip (Attends s.book.names plays.before s.book.log.log) l (plays.clients ++ c ∷ []) in
    seated s b plays.before plays.firsts plays.clients (plays.clients ++ c ∷ []) plays.stores plays.watches admits.same plays.standing (subst Z (sym admits.sessions) zip)

pub opens_act : {X O : Type 0} (s : ReplayBookView) (b : BookView) (name : OutletName) (n cap : ℕ) (result : Result X (O × BookFault)) (round : Result EventStep NoMemory) → BookHolds s.book → 1 ≤ cap → cap ≤ 65_536
    → n ≡ length s.book.sessions → AdmitsTo result round → RefusesWith (crowd_fault s.book) result → OnOk result (Admits name cap s.book b)
    → (state : State) → BookStandsFor s state → Acts round (opens n cap state) (record s { book = b }) [] []
unfolding opens
opens_act {X} {O} s b name n cap result round held least most next admits refuses made state plays =
    let zip = plays.standing.clients_are in
    let at = state_of s.book.names (plays.before ++ s.book.log.log) plays.firsts plays.clients plays.stores plays.watches in
    let long : length s.book.sessions ≡ length plays.clients = long_same (Attends s.book.names plays.before s.book.log.log) s.book.sessions plays.clients zip in
    let live : live_here s.book.sessions ≡ live_in at = count_same (Attends s.book.names plays.before s.book.log.log) is_open_here is_open
    (λ a c attends. ap not (closed_same s.book.names plays.before s.book.log.log a.session c.run attends.run)) s.book.sessions plays.clients zip in
    let is : nat_eq n (length plays.clients) ≡ true = eq-eqb n (length plays.clients) (next ∙ long) in
    let to : State = record at { clients = plays.clients ++ opened cap (plays.before ++ s.book.log.log) ∷ [] } in
    let crowded : (nat_eq (live_here s.book.sessions) most_live || nat_eq (length s.book.sessions) most_opened) ≡ (nat_eq (live_in at) most_live || nat_eq (length plays.clients) most_opened) =
    ap (λ m. nat_eq m most_live || nat_eq (length s.book.sessions) most_opened) live ∙ ap (λ m. nat_eq (live_in at) most_live || nat_eq m most_opened) long in
    let P : State → Type 0 = λ st. Acts round (opens n cap st) (record s { book = b }) [] [] in
    let Q : Bool → Type 0 = λ x. Acts round (allowed (x && not (nat_eq (live_in at) most_live || nat_eq (length plays.clients) most_opened)) (quietly to)) (record s { book = b }) [] [] in
    let T : Bool → Type 0 = λ x. Acts round (allowed (not x) (quietly to)) (record s { book = b }) [] [] in
    subst P plays.is (subst Q (sym is) (subst T crowded
    (by to (nat_eq (live_here s.book.sessions) most_live || nat_eq (length s.book.sessions) most_opened) refl result admits refuses
    (plays_so result made))))
  where
    plays_so : (result : Result X (O × BookFault)) → OnOk result (Admits name cap s.book b)
        → OnOk result (BookStandsFor (record s { book = b }) (record (state_of s.book.names (plays.before ++ s.book.log.log) plays.firsts plays.clients plays.stores plays.watches) { clients = plays.clients ++ opened cap (plays.before ++ s.book.log.log) ∷ [] }))
    plays_so (Ok x) made = admitted s b name n cap state held least most made plays
    plays_so (Err refusal) made = tt

    wanting : (to : State) (round : Result EventStep NoMemory) → IsErr round → Acts round (Some (quietly to)) (record s { book = b }) [] []
    wanting to (Ok t) is = absurd (cc)
    wanting to (Err e) is = tt

    by : (to : State) (crowd : Bool) → (nat_eq (live_here s.book.sessions) most_live || nat_eq (length s.book.sessions) most_opened) ≡ crowd → (result : Result X (O × BookFault)) → AdmitsTo result round
        → RefusesWith (crowd_fault s.book) result → OnOk result (BookStandsFor (record s { book = b }) to)
        → Acts round (allowed (not crowd) (quietly to)) (record s { book = b }) [] []
    by to false is (Ok x) admits refuses plays =
        let A : Result EventStep NoMemory → Type 0 = λ t. Acts t (Some (quietly to)) (record s { book = b }) [] [] in
        subst A (sym admits) (quietly to, refl, plays, refl)
    by to false is (Err refusal) admits refuses plays =
        let made_none : Result X (O × BookFault) = Err refusal in
        let F : Bool → Type 0 = λ x. RefusesWith (cond x (Some (book.TooManySessions (live_here s.book.sessions) (length s.book.sessions))) None) made_none in
        let want : refusal.1 ≡ book.NoMemory = subst F is refuses in
        let R : BookFault → Type 0 = λ f. RefusesTo f round in
        wanting to round (subst R want admits)
    by to true is result admits refuses plays =
        let F : Bool → Type 0 = λ x. RefusesWith (cond x (Some (book.TooManySessions (live_here s.book.sessions) (length s.book.sessions))) None) result in
        let full : RefusesWith (Some (book.TooManySessions (live_here s.book.sessions) (length s.book.sessions))) result = subst F is refuses in
        let G : Result X (O × BookFault) → Type 0 = λ r. AdmitsTo r round in
        let now : round ≡ Ok Refused = subst G full.1 admits in
        let A : Result EventStep NoMemory → Type 0 = λ t. Acts t None (record s { book = b }) [] [] in
        subst A (sym now) (refl, refl)
