-- At a script's end the items of each session that are left are written, and its closing line.
use Rattle.std.proofs.Common.{◌≡◌, ◌≤◌, ◌<◌, ℕ, zero, suc, ◌+◌, List, [], ◌∷◌, ◌++◌, true, length, drop, take, set, slice_get, Some, None, Result, Ok, Err, OnOk, option_and_then, option_map, refl, sym, ap, ◌∙◌, subst, inl, inr, append-nil, append_assoc, arith}
use Rattle.std.specs.List.{flat_map, range_with_len}
use Rattle.std.proofs.lemmas.List.{length-set}
use Rattle.gps_fixed.specs.declared.no_memory.NoMemory.{NoMemory}
use Rattle.session_core.specs.declared.mark.Close.{Close}
use Rattle.session_core.specs.SessionView.{SessionView}
use Rattle.book_log.specs.Entries.{Entry}
use Rattle.book_log.specs.History.{history}
use Rattle.book_sessions.specs.MemberView.{MemberView}
use Rattle.output_lines.specs.declared.closing.SessionEnd.TheVariants.{Drained}
use Rattle.output_lines.specs.Closings.{closing_line}
use Rattle.session_runs.specs.Runs.{SessionRun, IsRunOf, closed_from}
use Rattle.replay_player.specs.declared.event_step.EventStep.{EventStep}
use Rattle.replay_player.specs.declared.event_step.EventStep.TheVariants.{Made, Refused}
use Rattle.replay_player.specs.Clients.{Client, after_take, items_of, kept_of, next_taken}
use Rattle.replay_player.specs.Effects.{EventEffect, item_lines, takes, with_client}
use Rattle.replay_player.specs.Ending.{DrainsOne, EndAdds, Leaves, emptied, most_kept, sessions_left}
use Rattle.replay_player.specs.Ends.{all_drained, counted, drained, end_line, published}
use Rattle.replay_player.specs.Playing.{Acts, Attends, BookStandsFor, ReplayBookView, state_of}
use Rattle.replay_player.specs.States.{State, units_in}
use Rattle.replay_player.proofs.Seating.{Both, long_same, zip_at}
use Rattle.replay_player.proofs.Taking.{client_there, set_there}
use Rattle.replay_player.proofs.Telling.{run_open}

-- the session of a client

record Seat (s : ReplayBookView) (state : State) (n : ℕ) (c : Client) : Type 0 where
  a : MemberView
  before : List Entry
  there : slice_get s.book.sessions n ≡ Some a
  attends : Attends s.book.names before s.book.log.log a c
  names : s.book.names ≡ state.names
  log : before ++ s.book.log.log ≡ state.log

seat_of : (s : ReplayBookView) (state : State) (n : ℕ) (c : Client) → BookStandsFor s state → slice_get state.clients n ≡ Some c → Seat s state n c
seat_of s state n c plays there =
    let P : State → Type 0 = λ st. slice_get st.clients n ≡ Some c → Seat s st n c in
    subst P plays.is (λ there. elim (zip_at (Attends s.book.names plays.before s.book.log.log) s.book.sessions plays.clients n plays.standing.clients_are) [
      | inl both ↦ by both there
      | inr neither ↦ absurd (let e = neither.second in cc)
    ]) there
  where
    by : (both : Both (Attends s.book.names plays.before s.book.log.log) s.book.sessions plays.clients n) → slice_get plays.clients n ≡ Some c
        → Seat s (state_of s.book.names (plays.before ++ s.book.log.log) plays.firsts plays.clients plays.stores plays.watches) n c
    by both there =
        let mine : both.other ≡ c = let e = both.second in cc in
        let C : Client → Type 0 = λ d. Attends s.book.names plays.before s.book.log.log both.one d in
        record { a = both.one; before = plays.before; there = both.first; attends = subst C mine both.pair; names = refl; log = refl }

-- the number of its items is that of the session

count_so : (s : ReplayBookView) (state : State) (n : ℕ) (c : Client) (seat : Seat s state n c) → seat.a.session.items ≡ counted (items_of state.names state.log c)
count_so s state n c seat =
    seat.attends.items
    ∙ ap (λ l. counted (items_of s.book.names l c)) seat.log
    ∙ ap (λ m. counted (items_of m state.log c)) seat.names

-- its closing line

cause_so : (names : List (List ℕ)) (before log : List Entry) (s : SessionView) (r : SessionRun) (closing : ℕ × Close) → IsRunOf names before log s r → s.closing ≡ Some closing
    → (place : ℕ) × (r.closing ≡ Some (place, closing.1))
cause_so names before log s r closing (inl here) is = (length (history before) + closing.0, here.closing ∙ ap (closed_from (length (history before))) is)
cause_so names before log s r closing (inr over) is =
    let e : Some (0, over.why) ≡ Some closing = sym over.now ∙ is in
    let same : (0, over.why) ≡ closing = cc in
    (over.place, over.closing ∙ ap (λ (x : ℕ × Close). Some (over.place, x.1)) same)

line_written : (s : ReplayBookView) (state : State) (n : ℕ) (c : Client) (closing : ℕ × Close) (items : ℕ) (out out' : List ℕ) → BookStandsFor s state → slice_get state.clients n ≡ Some c
    → option_and_then (λ (a : MemberView). a.session.closing) (slice_get s.book.sessions n) ≡ Some closing
    → option_map (λ (a : MemberView). a.session.items) (slice_get s.book.sessions n) ≡ Some items
    → out' ≡ out ++ closing_line n Drained closing.1 items → out' ≡ out ++ end_line n c.run.closing (counted (items_of state.names state.log c))
line_written s state n c closing items out out' plays there is counts written =
    let seat = seat_of s state n c plays there in
    let closes : seat.a.session.closing ≡ Some closing = ap (option_and_then (λ (a : MemberView). a.session.closing)) (sym seat.there) ∙ is in
    let some : Some seat.a.session.items ≡ Some items = ap (option_map (λ (a : MemberView). a.session.items)) (sym seat.there) ∙ counts in
    let number : seat.a.session.items ≡ items = cc in
    let cause = cause_so s.book.names seat.before s.book.log.log seat.a.session c.run closing seat.attends.run closes in
    written
    ∙ ap (λ k. out ++ closing_line n Drained closing.1 k) (sym number ∙ count_so s state n c seat)
    ∙ ap (λ o. out ++ end_line n o (counted (items_of state.names state.log c))) (sym cause.1)

pub line_or_none : (s : ReplayBookView) (state : State) (n : ℕ) (c : Client) (closing : ℕ × Close) (items : ℕ) (out out' : List ℕ) (done : Result (Unit {0}) NoMemory)
    → BookStandsFor s state → slice_get state.clients n ≡ Some c
    → option_and_then (λ (a : MemberView). a.session.closing) (slice_get s.book.sessions n) ≡ Some closing
    → option_map (λ (a : MemberView). a.session.items) (slice_get s.book.sessions n) ≡ Some items
    → OnOk done (out' ≡ out ++ closing_line n Drained closing.1 items) → OnOk done (out' ≡ out ++ end_line n c.run.closing (counted (items_of state.names state.log c)))
line_or_none s state n c closing items out out' (Err fault) plays there is counts written = tt
line_or_none s state n c closing items out out' (Ok u) plays there is counts written = line_written s state n c closing items out out' plays there is counts written

pub no_line : (s : ReplayBookView) (state : State) (n : ℕ) (c : Client) (out : List ℕ) → BookStandsFor s state → slice_get state.clients n ≡ Some c
    → option_and_then (λ (a : MemberView). a.session.closing) (slice_get s.book.sessions n) ≡ None
    → out ≡ out ++ end_line n c.run.closing (counted (items_of state.names state.log c))
no_line s state n c out plays there is =
    let seat = seat_of s state n c plays there in
    let closes : seat.a.session.closing ≡ None = ap (option_and_then (λ (a : MemberView). a.session.closing)) (sym seat.there) ∙ is in
    let none = run_open s.book.names seat.before s.book.log.log seat.a.session c.run seat.attends.run closes in
    sym (append-nil out) ∙ ap (λ o. out ++ end_line n o (counted (items_of state.names state.log c))) (sym none)

-- one session

take_whole : {A : Type 0} (n : ℕ) (xs : List A) → length xs ≤ n → take n xs ≡ xs
take_whole zero [] few = refl
take_whole zero (x ∷ xs) few = absurd (omega (arith, few))
take_whole (suc n) [] few = refl
take_whole (suc n) (x ∷ xs) few = ap (λ l. x ∷ l) (take_whole n xs (omega (arith, few)))

few_kept : (s : ReplayBookView) (state : State) (n : ℕ) (c : Client) → Seat s state n c → next_taken most_kept state.names state.log c ≡ kept_of state.names state.log c
few_kept s state n c seat =
    let kept = kept_of state.names state.log c in
    let same : seat.a.session.kept ≡ kept =
    seat.attends.kept ∙ ap (λ l. kept_of s.book.names l c) seat.log ∙ ap (λ m. kept_of m state.log c) seat.names in
    let long : length seat.a.session.kept ≡ length kept = ap length same in
    let room = seat.attends.room in
    let cap = seat.attends.cap in
    let least = seat.attends.least in
    take_whole most_kept kept (omega (arith, long, room, cap, least))

pub one_drained : (s mid new : ReplayBookView) (n : ℕ) (round : EventStep) (out out' : List ℕ) (done : Result (Unit {0}) NoMemory) (out'' : List ℕ)
    → ((state : State) → BookStandsFor s state → Acts (Ok round) (takes n most_kept state) mid out out')
    → ((state : State) (c : Client) → BookStandsFor mid state → slice_get state.clients n ≡ Some c → OnOk done (out'' ≡ out' ++ end_line n c.run.closing (counted (items_of state.names state.log c))))
    → new ≡ mid
    → (state : State) (c : Client) → BookStandsFor s state → slice_get state.clients n ≡ Some c → OnOk done (DrainsOne n new out out'' state c)
unfolding takes drained
one_drained s mid new n Refused out out' done out'' took wrote same state c plays there =
    let acts = took state plays in
    let whole : Client → EventEffect = λ (d : Client). record { state = with_client n (after_take most_kept state.names state.log d) state; written = item_lines n (next_taken most_kept state.names state.log d) } in
    absurd (let e : Some (whole c) ≡ None = ap (option_map whole) (sym there) ∙ acts.0 in cc)
one_drained s mid new n Made out out' (Err fault) out'' took wrote same state c plays there = tt
one_drained s mid new n Made out out' (Ok u) out'' took wrote same state c plays there =
    let acts = took state plays in
    let seat = seat_of s state n c plays there in
    let whole : Client → EventEffect = λ (d : Client). record { state = with_client n (after_take most_kept state.names state.log d) state; written = item_lines n (next_taken most_kept state.names state.log d) } in
    let some : Some (whole c) ≡ Some acts.0 = ap (option_map whole) (sym there) ∙ acts.1 in
    let is : whole c ≡ acts.0 = cc in
    let P : EventEffect → Type 0 = λ e. BookStandsFor mid e.state in
    let now : BookStandsFor mid (emptied n c state) = subst P (sym is) acts.2 in
    let d : Client = after_take most_kept state.names state.log c in
    let lines : out' ≡ out ++ item_lines n (kept_of state.names state.log c) =
    acts.3 ∙ ap (λ (e : EventEffect). out ++ e.written) (sym is) ∙ ap (λ l. out ++ item_lines n l) (few_kept s state n c seat) in
    let closing = end_line n c.run.closing (counted (items_of state.names state.log c)) in
    let wrote_so : out'' ≡ out' ++ closing = wrote (emptied n c state) d now (set_there state.clients n c d there) in
    let N : ReplayBookView → Type 0 = λ v. BookStandsFor v (emptied n c state) in
    record {
      plays = subst N (sym same) now;
      written = wrote_so ∙ ap (λ l. l ++ closing) lines ∙ append_assoc out (item_lines n (kept_of state.names state.log c)) closing;
    }

-- what is left after one session

pub drop_at : {A : Type 0} (n : ℕ) (xs : List A) (x : A) → slice_get xs n ≡ Some x → drop n xs ≡ x ∷ drop (n + 1) xs
drop_at n [] x is = absurd (cc)
drop_at zero (y ∷ xs) x is = let e : y ≡ x = cc in ap (λ z. z ∷ xs) e
drop_at (suc n) (y ∷ xs) x is = let e : suc n + 1 ≡ suc (n + 1) = omega arith in drop_at n xs x is ∙ ap (λ k. x ∷ drop k (y ∷ xs)) (sym e)

left_of_set : {A : Type 0} (n : ℕ) (xs : List A) (x : A) → drop (n + 1) (set xs n x) ≡ drop (n + 1) xs
left_of_set n [] x = refl
left_of_set zero (y ∷ xs) x = refl
left_of_set (suc n) (y ∷ xs) x =
    let e : suc n + 1 ≡ suc (n + 1) = omega arith in
    ap (λ k. drop k (y ∷ set xs n x)) e ∙ left_of_set n xs x ∙ ap (λ k. drop k (y ∷ xs)) (sym e)

pub drop_all : {A : Type 0} (n : ℕ) (xs : List A) → length xs ≤ n → drop n xs ≡ []
drop_all zero [] few = refl
drop_all zero (x ∷ xs) few = absurd (omega (arith, few))
drop_all (suc n) [] few = refl
drop_all (suc n) (x ∷ xs) few = drop_all n xs (omega (arith, few))

pub one_less : (s new : ReplayBookView) (n : ℕ) (out out' : List ℕ) → n < length s.book.sessions
    → ((state : State) (c : Client) → BookStandsFor s state → slice_get state.clients n ≡ Some c → DrainsOne n new out out' state c)
    → (left : List ℕ) → Leaves (record { book = s; next = n }) left → EndAdds (Ok true) left (record { book = new; next = n + 1 }) out out'
unfolding all_drained
one_less s new n out out' below step left leaves =
    let state = leaves.state in
    let found = client_there s state n leaves.stands below in
    let c = found.0 in
    let there : slice_get state.clients n ≡ Some c = found.1 in
    let did = step state c leaves.stands there in
    let lines = drained state.names state.log n c in
    let rest = all_drained state.names state.log (n + 1) (drop (n + 1) state.clients) in
    let units = flat_map (published state) (range_with_len 0 (units_in state)) in (
      lines,
      rest ++ units,
      sym leaves.is
          ∙ ap (λ l. all_drained state.names state.log n l ++ units) (drop_at n state.clients c there)
          ∙ append_assoc lines rest units,
      record {
        state = emptied n c state;
        stands = did.plays;
        is = ap (λ l. all_drained state.names state.log (n + 1) l ++ units) (left_of_set n state.clients (after_take most_kept state.names state.log c));
      },
      did.written,
    )

-- the number of sessions stays

as_many : (s : ReplayBookView) (state : State) → BookStandsFor s state → length s.book.sessions ≡ length state.clients
as_many s state plays =
    let C : State → Type 0 = λ st. length s.book.sessions ≡ length st.clients in
    subst C plays.is (long_same (Attends s.book.names plays.before s.book.log.log) s.book.sessions plays.clients plays.standing.clients_are)

pub fewer_left : (s new : ReplayBookView) (n : ℕ) (out out' : List ℕ) → n < length s.book.sessions
    → ((state : State) (c : Client) → BookStandsFor s state → slice_get state.clients n ≡ Some c → DrainsOne n new out out' state c)
    → (left : List ℕ) → Leaves (record { book = s; next = n }) left
    → sessions_left (record { book = new; next = n + 1 }) < sessions_left (record { book = s; next = n })
fewer_left s new n out out' below step left leaves =
    let state = leaves.state in
    let found = client_there s state n leaves.stands below in
    let did = step state found.0 leaves.stands found.1 in
    let stay : length new.book.sessions ≡ length s.book.sessions =
    as_many new (emptied n found.0 state) did.plays
    ∙ length-set state.clients n (after_take most_kept state.names state.log found.0)
    ∙ sym (as_many s state leaves.stands) in
    omega (arith, below, stay)

-- after the last session the units alone are left

pub units_left : (s : ReplayBookView) (n : ℕ) (out out' : List ℕ) → length s.book.sessions ≤ n
    → ((state : State) → BookStandsFor s state → out' ≡ out ++ flat_map (published state) (range_with_len 0 (units_in state)))
    → (left : List ℕ) → Leaves (record { book = s; next = n }) left → out' ≡ out ++ left
unfolding all_drained
units_left s n out out' past writes left leaves =
    let state = leaves.state in
    let units = flat_map (published state) (range_with_len 0 (units_in state)) in
    let none : drop n state.clients ≡ [] = let long = as_many s state leaves.stands in drop_all n state.clients (omega (arith, past, long)) in
    writes state leaves.stands
    ∙ ap (λ l. out ++ (all_drained state.names state.log n l ++ units)) (sym none)
    ∙ ap (λ l. out ++ l) leaves.is
