-- A session gets a piece of input.
use Rattle.std.proofs.Common.{◌≡◌, ◌≤◌, ◌<◌, ℕ, zero, suc, ◌+◌, ◌-◌, ◌^◌, min, true, false, nat_le, List, [], ◌∷◌, ◌++◌, length, map, drop, take, set, cond, Option, Some, None, Result, Ok, Err, OnOk, refl, sym, ap, ◌∙◌, subst, length-append, arith}
use Rattle.std.specs.List.{AllZip}
use Rattle.std.proofs.lemmas.Bool.{le-leb, lt-leb}
use Rattle.std.proofs.lemmas.List.{drop-append-le, length-take, length-map}
use Rattle.std.proofs.Math.Seq.{drop-append_seam}
use Rattle.gps_fixed.specs.declared.no_memory.NoMemory.{NoMemory}
use Rattle.gps_command.specs.Requests.{requests}
use Rattle.gps_report.specs.declared.policy.Policy.{Policy}
use Rattle.session_core.specs.declared.mark.Close.{Close}
use Rattle.session_core.specs.declared.mark.Close.TheVariants.{HungUp, ReadFault, DaemonEnd, TooManyRequests, Overrun, NoMemory as WantOfMemory}
use Rattle.session_core.specs.SessionView.{SessionView, last_policy, opening_policy, usual_requests}
use Rattle.session_core.specs.Stretches.{Stretch, last_watched}
use Rattle.book_log.specs.Entries.{Entry}
use Rattle.book_log.specs.History.{history, history_after}
use Rattle.book_replies.specs.declared.answering.Answer.{Answer}
use Rattle.book_replies.specs.Replies.{answered}
use Rattle.book_replies.proofs.Joined.{one_for_each}
use Rattle.book_sessions.specs.Answering.{Inputs, Stops, mark_at, raised, stretch_at}
use Rattle.book_sessions.specs.MemberView.{MemberView}
use Rattle.report_book.specs.BookView.{BookView}
use Rattle.report_book.specs.declared.fault.BookFault.{BookFault}
use Rattle.report_book.specs.Knowing.{known_in}
use Rattle.report_book.specs.Moves.{AnswersRequests}
use Rattle.report_book.specs.Refusals.{RefusesAs, session_fault}
use Rattle.report_book.specs.Standing.{BookHolds}
use Rattle.session_runs.specs.Runs.{SessionRun}
use Rattle.session_runs.specs.Following.{Extends, answered_run, closing_at}
use Rattle.session_runs.proofs.Counting.{counted}
use Rattle.session_runs.proofs.Books.{place_is}
use Rattle.session_runs.proofs.Going.{answers_extend}
use Rattle.session_runs.proofs.Zipping.{zip_set}
use Rattle.replay_player.specs.declared.event_step.EventStep.{EventStep}
use Rattle.replay_player.specs.Clients.{Client, answerable, answers_to, asked_by, items_of, kept_of, new_requests, policy_of, refusal, room_of, served}
use Rattle.replay_player.specs.Effects.{changes, hears, with_client}
use Rattle.replay_player.specs.Playing.{Acts, Attends, ComesTo, BookStandsFor, ReplayBookView, state_of}
use Rattle.replay_player.specs.States.{State}
use Rattle.replay_player.proofs.Seating.{Both, changes_by, over_parts, seated}
use Rattle.replay_player.proofs.Telling.{still_open}

-- policies and marks

policy_marked : (place place' : ℕ) (policy : Policy) (answers : List Answer) → last_policy policy (map (mark_at place) answers) ≡ last_watched policy (map (stretch_at place') answers)
policy_marked place place' policy [] = refl
policy_marked place place' policy (answer ∷ answers) = policy_marked place place' answer.policy answers

policy_joined : (policy : Policy) (stretches more : List Stretch) → last_watched policy (stretches ++ more) ≡ last_watched (last_watched policy stretches) more
policy_joined policy [] more = refl
policy_joined policy (stretch ∷ stretches) more = policy_joined stretch.policy stretches more

-- how many are answered, and why no more

pub record Counts (names : List (List ℕ)) (whole : List Entry) (c : Client) (all count : ℕ) (closing : Option (ℕ × Close)) : Type 0 where
  pub taken : min (answerable names whole c) all ≡ count
  pub closes : closing ≡ cond (nat_le all (answerable names whole c)) None (Some (length (history whole), refusal names whole c))

counts_so : (names : List (List ℕ)) (whole : List Entry) (c : Client) (all count place : ℕ) (b : SessionView) (closing : Option (ℕ × Close)) → count ≤ all → count ≤ usual_requests - asked_by c → count ≤ room_of names whole c
    → b.requests ≡ asked_by c + count → room_of names whole c ≡ b.cap - (length b.kept - count) → length b.kept ≤ b.cap → count ≤ length b.kept → asked_by c ≤ usual_requests
    → b.most_requests ≡ usual_requests → Stops place (all - count) b closing → Counts names whole c all count (closing_at (length (history whole)) closing)
counts_so names whole c all count place b None few left room requests kept fits within most usual stops =
    let exact : all ≡ count = let s : all - count ≡ 0 = stops in omega (arith, s, few) in
    let under : all ≤ answerable names whole c = omega (arith, exact, left, room) in
    let test : nat_le all (answerable names whole c) ≡ true = le-leb all (answerable names whole c) under in
    record {
      taken = omega (arith, exact, left, room);
      closes = sym (ap (λ t. cond t None (Some (length (history whole), refusal names whole c))) test);
    }
counts_so names whole c all count place b (Some (at, TooManyRequests)) few left room requests kept fits within most usual stops =
    let more : 0 < all - count = stops.0 in
    let cause : b.most_requests ≤ b.requests = stops.2 in
    let so : count ≡ usual_requests - asked_by c = omega (arith, left, requests, cause, usual, most) in
    let is : answerable names whole c ≡ count = omega (arith, so, room) in
    let test : nat_le all (answerable names whole c) ≡ false = lt-leb all (answerable names whole c) (omega (arith, is, more)) in
    let why : nat_le (usual_requests - asked_by c) (room_of names whole c) ≡ true = le-leb (usual_requests - asked_by c) (room_of names whole c) (omega (arith, so, room)) in
    record {
      taken = omega (arith, is, few);
      closes = sym (ap (λ t. cond t None (Some (length (history whole), refusal names whole c))) test ∙ ap (λ t. Some (length (history whole), cond t TooManyRequests Overrun)) why);
    }
counts_so names whole c all count place b (Some (at, Overrun)) few left room requests kept fits within most usual stops =
    let more : 0 < all - count = stops.0 in
    let low : b.requests < b.most_requests = stops.2.0 in
    let full : b.cap ≤ length b.kept = stops.2.1 in
    let so : count ≡ room_of names whole c = omega (arith, room, kept, full, within, fits) in
    let below : room_of names whole c < usual_requests - asked_by c = omega (arith, so, requests, low, usual) in
    let is : answerable names whole c ≡ count = omega (arith, so, left) in
    let test : nat_le all (answerable names whole c) ≡ false = lt-leb all (answerable names whole c) (omega (arith, is, more)) in
    let why : nat_le (usual_requests - asked_by c) (room_of names whole c) ≡ false = lt-leb (usual_requests - asked_by c) (room_of names whole c) below in
    record {
      taken = omega (arith, is, few);
      closes = sym (ap (λ t. cond t None (Some (length (history whole), refusal names whole c))) test ∙ ap (λ t. Some (length (history whole), cond t TooManyRequests Overrun)) why);
    }
counts_so names whole c all count place b (Some (at, HungUp)) few left room requests kept fits within most usual stops = absurd stops.2
counts_so names whole c all count place b (Some (at, ReadFault)) few left room requests kept fits within most usual stops = absurd stops.2
counts_so names whole c all count place b (Some (at, DaemonEnd)) few left room requests kept fits within most usual stops = absurd stops.2
counts_so names whole c all count place b (Some (at, WantOfMemory)) few left room requests kept fits within most usual stops = absurd stops.2

take_least : {A : Type 0} (n : ℕ) (xs : List A) → take (min n (length xs)) xs ≡ take n xs
take_least zero xs = let e : min 0 (length xs) ≡ 0 = omega arith in ap (λ k. take k xs) e
take_least (suc n) [] = let e : min (suc n) 0 ≡ 0 = omega arith in ap (λ k. take k []) e
take_least (suc n) (x ∷ xs) =
    let e : min (suc n) (length (x ∷ xs)) ≡ suc (min n (length xs)) = omega arith in
    ap (λ k. take k (x ∷ xs)) e ∙ ap (λ l. x ∷ l) (take_least n xs)

pub heard_one : (names : List (List ℕ)) (before log : List Entry) (place : ℕ) (piece : List ℕ) (a b : MemberView) (c : Client) → length (history_after before log) ≡ place
    → a.session.most_requests ≡ usual_requests → Attends names before log a c → c.run.closing ≡ None → Inputs true (known_in (length names) (before ++ log)) names place piece a b
    → Attends names before log b (served names (before ++ log) piece c)
unfolding served
heard_one names before log place piece a b c long usual attends c_open inp =
    let whole = before ++ log in
    let known = known_in (length names) whole in
    let d : Client = served names whole piece c in
    let a_open = still_open names before log a.session c.run attends.run c_open in
    let asks : new_requests c.heard piece ≡ inp.requests =
    ap (drop (length (requests c.heard))) (inp.gains c.heard (attends.cutter c_open)) ∙ drop-append_seam (requests c.heard) inp.requests in
    let all = answered known names a.session.policy inp.requests in
    let same : all ≡ answers_to names whole piece c = ap (λ p. answered known names p inp.requests) attends.policy ∙ ap (answered known names (policy_of c)) (sym asks) in
    let each : length all ≡ length inp.requests = one_for_each known names a.session.policy inp.requests in
    let put = take inp.count all in
    let count : length put ≡ inp.count = let few = inp.few in omega (arith, length-take inp.count all, few, each) in
    let kept_count : length b.session.kept ≡ length a.session.kept + inp.count =
    ap length inp.puts.kept ∙ length-append a.session.kept (map (λ (x : Answer). x.reply) put) ∙ ap (λ n. length a.session.kept + n) (length-map put (λ (x : Answer). x.reply) ∙ count) in
    let asked : b.session.requests ≡ asked_by c + inp.count = inp.puts.requests ∙ ap (λ n. n + length put) attends.requests ∙ ap (λ n. asked_by c + n) count in
    let room_is : room_of names whole c ≡ a.session.cap - length a.session.kept = ap (λ n. n - length (kept_of names whole c)) (sym attends.cap) ∙ ap (λ k. a.session.cap - length k) (sym attends.kept) in
    let low = attends.few in
    let fit_before = attends.room in
    let cap = inp.puts.cap in
    let number : b.session.most_requests ≡ usual_requests = inp.puts.most_requests ∙ usual in
    let bounds : (inp.count ≤ usual_requests - asked_by c) × (inp.count ≤ room_of names whole c) = by_count inp.count asked kept_count room_is low fit_before cap number inp.room in
    let fits : length b.session.kept ≤ b.session.cap = let r = bounds.1 in omega (arith, r, room_is, kept_count, cap, fit_before) in
    let counts = counts_so names whole c (length inp.requests) inp.count place b.session b.session.closing inp.few bounds.0 bounds.1 asked
    (omega (arith, room_is, kept_count, cap, fit_before)) fits (omega (arith, kept_count)) low number inp.stops in
    let answers = answers_to names whole piece c in
    let many : length answers ≡ length inp.requests = ap length (sym same) ∙ each in
    let puts_so : put ≡ take (answerable names whole c) answers =
    ap (λ n. take n all) (sym counts.taken) ∙ ap (λ n. take (min (answerable names whole c) n) all) (sym each) ∙ take_least (answerable names whole c) all ∙ ap (take (answerable names whole c)) same in
    let extends = answers_extend names before log place (length inp.requests - inp.count) a b put c.run long a_open inp.puts inp.stops attends.run in
    let at = length (history whole) in
    let run_is : answered_run whole put b.session.closing c.run ≡ d.run =
    ap (λ l. record { stretches = c.run.stretches ++ map (stretch_at at) l; closing = closing_at at b.session.closing }) puts_so
    ∙ ap (λ o. record { stretches = c.run.stretches ++ map (stretch_at at) (take (answerable names whole c) answers); closing = o })
    (counts.closes ∙ ap (λ n. cond (nat_le n (answerable names whole c)) None (Some (at, refusal names whole c))) (sym many)) in
    let E : SessionRun → Type 0 = λ r. Extends names before log before log a.session b.session (map (λ (x : Answer). x.reply) put) c.run r in
    let on : E d.run = subst E run_is extends in
    let more = map (λ (x : Answer). x.reply) put in
    let gained : length (items_of names whole d) ≡ length (items_of names whole c) + length more = ap length on.items ∙ length-append (items_of names whole c) more in
    let stretches : d.run.stretches ≡ c.run.stretches ++ map (stretch_at at) put = ap (λ l. c.run.stretches ++ map (stretch_at at) l) (sym puts_so) in
    let longer : length d.run.stretches ≡ length c.run.stretches + inp.count =
    ap length stretches ∙ length-append c.run.stretches (map (stretch_at at) put) ∙ ap (λ n. length c.run.stretches + n) (length-map put (stretch_at at) ∙ count) in
    record {
      run = on.run;
      cap = cap ∙ attends.cap;
      least = attends.least;
      kept = on.kept ∙ ap (λ k. k ++ more) attends.kept ∙ sym (drop-append-le c.taken (items_of names whole c) more attends.taken) ∙ ap (drop c.taken) (sym on.items);
      taken = let t = attends.taken in omega (arith, t, gained);
      room = fits;
      items = inp.puts.items ∙ ap (λ n. raised n (length put)) attends.items ∙ counted (length (items_of names whole c)) (length put)
          ∙ ap (λ n. min (length (items_of names whole c) + n) (2 ^ 64 - 1)) (sym (length-map put (λ (x : Answer). x.reply))) ∙ ap (λ n. min n (2 ^ 64 - 1)) (sym gained);
      policy = inp.puts.policy ∙ policy_marked place at a.session.policy put ∙ ap (λ p. last_watched p (map (stretch_at at) put)) attends.policy
          ∙ sym (policy_joined opening_policy c.run.stretches (map (stretch_at at) put)) ∙ ap (last_watched opening_policy) (sym stretches);
      some = let s = attends.some in omega (arith, s, longer);
      requests = let s = attends.some in let e : b.session.requests ≡ length d.run.stretches - 1 = omega (arith, asked, longer, s) in e;
      few = let s = attends.some in let r = bounds.0 in let e : length d.run.stretches - 1 ≤ usual_requests = omega (arith, longer, s, r, low) in e;
      cutter = λ is_open. inp.cutter c.heard (attends.cutter c_open) (still_open names before log b.session d.run on.run is_open);
    }
  where
    by_count : (count : ℕ) → b.session.requests ≡ asked_by c + count → length b.session.kept ≡ length a.session.kept + count → room_of names (before ++ log) c ≡ a.session.cap - length a.session.kept
        → asked_by c ≤ usual_requests → length a.session.kept ≤ a.session.cap → b.session.cap ≡ a.session.cap → b.session.most_requests ≡ usual_requests
        → (0 < count → (b.session.requests ≤ b.session.most_requests) × (true ≡ true → length b.session.kept ≤ b.session.cap))
        → (count ≤ usual_requests - asked_by c) × (count ≤ room_of names (before ++ log) c)
    by_count zero asked kept room low fit cap number bound = (omega arith, omega arith)
    by_count (suc count) asked kept room low fit cap number bound =
        let some : 0 < suc count = omega arith in
        let one : b.session.requests ≤ b.session.most_requests = (bound some).0 in
        let two : length b.session.kept ≤ b.session.cap = (bound some).1 refl in
        (omega (arith, one, number, asked), omega (arith, two, kept, room, cap, fit))

pub hears_act : (s : ReplayBookView) (b : BookView) (n : ℕ) (piece : List ℕ) (result : Result (Unit {0}) BookFault) (round : Result EventStep NoMemory) → BookHolds s.book
    → ComesTo result round → RefusesAs (session_fault s.book n) result → OnOk result (AnswersRequests true n piece s.book b)
    → (state : State) → BookStandsFor s state → Acts round (hears n piece state) (record s { book = b }) [] []
unfolding hears
hears_act s b n piece result round held comes refuses heard state plays =
    let P : State → Type 0 = λ st. Acts round (changes n (served st.names st.log piece) st) (record s { book = b }) [] [] in
    subst P plays.is
    (changes_by s (record s { book = b }) (state_of s.book.names (plays.before ++ s.book.log.log) plays.firsts plays.clients plays.stores plays.watches) n
    (served s.book.names (plays.before ++ s.book.log.log) piece) result round (over_parts s state plays) comes refuses
    (λ both c_open. by both c_open result heard))
  where
    by : (both : Both (Attends s.book.names plays.before s.book.log.log) s.book.sessions plays.clients n) → both.other.run.closing ≡ None
        → (result : Result (Unit {0}) BookFault) → OnOk result (AnswersRequests true n piece s.book b)
        → OnOk result (BookStandsFor (record s { book = b }) (with_client n (served s.book.names (plays.before ++ s.book.log.log) piece both.other) (state_of s.book.names (plays.before ++ s.book.log.log) plays.firsts plays.clients plays.stores plays.watches)))
    by both c_open (Err fault) heard = tt
    by both c_open (Ok u) heard =
        let changed = heard.session plays.before plays.standing.stands in
        let next = changed.0 in
        let c = both.other in
        let whole = plays.before ++ s.book.log.log in
        let C : MemberView → Type 0 = λ x. Inputs true (known_in (length s.book.names) whole) s.book.names s.book.log.length piece x next in
        let inp : C both.one = subst C (both.is both.one) (changed.2 both.one) in
        let N : MemberView → Type 0 = λ x. x.session.most_requests ≡ s.book.most_requests in
        let usual : both.one.session.most_requests ≡ usual_requests = subst N (both.is both.one) (held.requests n both.one both.there) ∙ plays.standing.requests in
        let attends = heard_one s.book.names plays.before s.book.log.log s.book.log.length piece both.one next c (place_is s.book plays.before held plays.standing.stands) usual both.pair c_open inp in
        let d = served s.book.names whole piece c in
        let zip = zip_set (Attends s.book.names plays.before s.book.log.log) s.book.sessions plays.clients n next d attends plays.standing.clients_are in
        let Z : List MemberView → Type 0 = λ l. AllZip (Attends s.book.names plays.before s.book.log.log) l (set plays.clients n d) in
        seated s b plays.before plays.firsts plays.clients (set plays.clients n d) plays.stores plays.watches heard.same plays.standing (subst Z (sym changed.1) zip)
