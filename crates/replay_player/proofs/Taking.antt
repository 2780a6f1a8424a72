-- Items are taken of those that a session's outlet keeps.
use Rattle.std.proofs.Common.{◌≡◌, ◌≤◌, ◌<◌, ℕ, zero, suc, ◌+◌, Bool, true, false, List, [], ◌∷◌, ◌++◌, length, drop, take, set, get_or, slice_get, Option, Some, None, Result, Ok, Err, OnOk, IfOk, option_map, refl, sym, ap, ◌∙◌, subst, inl, inr, append-nil, append_assoc, arith}
use Rattle.std.specs.List.{AllZip}
use Rattle.std.proofs.lemmas.List.{length-drop, length-take, set-set}
use Rattle.std.proofs.lemmas.List.Concat.{flat_map-append}
use Rattle.book_log.specs.Entries.{Entry}
use Rattle.book_sessions.specs.MemberView.{MemberView, with_kept}
use Rattle.report_book.specs.BookView.{BookView}
use Rattle.report_book.specs.declared.fault.BookFault.{BookFault}
use Rattle.report_book.specs.Moves.{TakesFirst}
use Rattle.report_book.specs.Refusals.{RefusesOnly, missing}
use Rattle.output_lines.specs.Items.{item_line}
use Rattle.session_runs.proofs.Going.{taking_keeps}
use Rattle.session_runs.proofs.Zipping.{zip_set}
use Rattle.replay_player.specs.declared.event_step.EventStep.TheVariants.{Made}
use Rattle.replay_player.specs.Clients.{Client, after_take, items_of, kept_of, next_taken}
use Rattle.replay_player.specs.Effects.{EventEffect, item_lines, takes, with_client}
use Rattle.replay_player.specs.Playing.{Acts, Attends, BookStandsFor, ReplayBookView, TakesOne, state_of}
use Rattle.replay_player.specs.States.{State}
use Rattle.replay_player.proofs.Seating.{Both, seated, zip_at}

pub no_refusal : {X : Type 0} (there : Bool) (result : Result X BookFault) (fault : BookFault) → RefusesOnly (missing there) result → there ≡ true → result ≡ Err fault → ⊥
no_refusal true (Ok x) fault refuses is err = absurd (cc)
no_refusal true (Err f) fault refuses is err = absurd (cc)
no_refusal false result fault refuses is err = absurd (cc)

drop_one : {A : Type 0} (n : ℕ) (xs : List A) → drop 1 (drop n xs) ≡ drop (n + 1) xs
drop_one zero xs = let e : 0 + 1 ≡ 1 = omega arith in ap (λ k. drop k xs) (sym e)
drop_one (suc n) [] = let e : suc n + 1 ≡ suc (n + 1) = omega arith in ap (λ k. drop k []) (sym e)
drop_one (suc n) (x ∷ xs) = let e : suc n + 1 ≡ suc (n + 1) = omega arith in drop_one n xs ∙ ap (λ k. drop k (x ∷ xs)) (sym e)

drop_more : {A : Type 0} (n k : ℕ) (xs : List A) → drop k (drop n xs) ≡ drop (n + k) xs
drop_more zero k xs = let e : 0 + k ≡ k = omega arith in ap (λ m. drop m xs) (sym e)
drop_more (suc n) zero [] = let e : suc n + 0 ≡ suc n = omega arith in ap (λ m. drop m []) (sym e)
drop_more (suc n) (suc k) [] = let e : suc n + suc k ≡ suc (n + suc k) = omega arith in ap (λ m. drop m []) (sym e)
drop_more (suc n) k (x ∷ xs) = let e : suc n + k ≡ suc (n + k) = omega arith in drop_more n k xs ∙ ap (λ m. drop m (x ∷ xs)) (sym e)

some_left : {A : Type 0} (xs : List A) (x : A) → slice_get xs 0 ≡ Some x → 0 < length xs
some_left [] x is = absurd (cc)
some_left (y ∷ xs) x is = omega arith

none_kept : {A : Type 0} (xs : List A) → slice_get xs 0 ≡ None → xs ≡ []
none_kept [] is = refl
none_kept (y ∷ xs) is = absurd (cc)

set_same : {A : Type 0} (xs : List A) (n : ℕ) (x : A) → slice_get xs n ≡ Some x → set xs n x ≡ xs
set_same [] n x is = refl
set_same (y ∷ xs) zero x is = let e : y ≡ x = cc in ap (λ z. z ∷ xs) (sym e)
set_same (y ∷ xs) (suc n) x is = ap (λ l. y ∷ l) (set_same xs n x is)

taken_one : (names : List (List ℕ)) (before log : List Entry) (a : MemberView) (c : Client) → Attends names before log a c → 0 < length (kept_of names (before ++ log) c)
    → Attends names before log (with_kept (drop 1 a.session.kept) a) (record c { taken = c.taken + 1 })
taken_one names before log a c attends some =
    let whole = before ++ log in
    let left = length-drop c.taken (items_of names whole c) in
    let fewer = length-drop 1 a.session.kept in
    record {
      run = taking_keeps names before log a (drop 1 a.session.kept) c.run refl attends.run;
      cap = attends.cap;
      least = attends.least;
      kept = ap (drop 1) attends.kept ∙ drop_one c.taken (items_of names whole c);
      taken = omega (arith, some, left);
      room = let r = attends.room in omega (arith, r, fewer);
      items = attends.items;
      policy = attends.policy;
      some = attends.some;
      requests = attends.requests;
      few = attends.few;
      cutter = attends.cutter;
    }

-- a session that keeps nothing stays as it is
kept_none : (names : List (List ℕ)) (before log : List Entry) (a : MemberView) (c : Client) → Attends names before log a c → a.session.kept ≡ []
    → Attends names before log (with_kept (drop 1 a.session.kept) a) c
kept_none names before log a c attends none =
    let same : a.session.kept ≡ drop 1 a.session.kept = none ∙ ap (drop 1) (sym none) in
    let P : List (List ℕ) → Type 0 = λ k. Attends names before log (with_kept k a) c in
    subst P same attends

pub takes_item : (s : ReplayBookView) (b : BookView) (n : ℕ) (result : Result (Option (List ℕ)) BookFault) (item : Option (List ℕ)) (state : State) (c : Client) (out : List ℕ)
    → result ≡ Ok item → IfOk result (λ item. (free : MemberView) → item ≡ slice_get (get_or s.book.sessions n free).session.kept 0) → OnOk result (TakesFirst n s.book b)
    → BookStandsFor s state → slice_get state.clients n ≡ Some c
    → ((x : List ℕ) → item ≡ Some x → TakesOne n (Ok true) (record s { book = b }) out (out ++ item_line n x) state c)
    × (item ≡ None → TakesOne n (Ok false) (record s { book = b }) out out state c)
takes_item s b n (Err fault) item state c out is gives made plays there = absurd (cc)
takes_item s b n (Ok other) item state c out is gives made plays there =
    let whole = plays.before ++ s.book.log.log in
    let names = s.book.names in
    let at = state_of names whole plays.firsts plays.clients plays.stores plays.watches in
    let P : State → Type 0 = λ st. slice_get st.clients n ≡ Some c → ((x : List ℕ) → item ≡ Some x → TakesOne n (Ok true) (record s { book = b }) out (out ++ item_line n x) st c)
    × (item ≡ None → TakesOne n (Ok false) (record s { book = b }) out out st c) in
    subst P plays.is (λ there. elim (zip_at (Attends names plays.before s.book.log.log) s.book.sessions plays.clients n plays.standing.clients_are) [
      | inl both ↦ by both there
      | inr neither ↦ absurd (let e = neither.second in cc)
    ]) there
  where
    by : (both : Both (Attends s.book.names plays.before s.book.log.log) s.book.sessions plays.clients n) → slice_get plays.clients n ≡ Some c
        → ((x : List ℕ) → item ≡ Some x → TakesOne n (Ok true) (record s { book = b }) out (out ++ item_line n x) (state_of s.book.names (plays.before ++ s.book.log.log) plays.firsts plays.clients plays.stores plays.watches) c)
        × (item ≡ None → TakesOne n (Ok false) (record s { book = b }) out out (state_of s.book.names (plays.before ++ s.book.log.log) plays.firsts plays.clients plays.stores plays.watches) c)
    by both there =
        let whole = plays.before ++ s.book.log.log in
        let names = s.book.names in
        let mine : both.other ≡ c = let e = both.second in cc in
        let a = both.one in
        let C : Client → Type 0 = λ d. Attends names plays.before s.book.log.log a d in
        let attends : C c = subst C mine both.pair in
        let next = made.session.0 in
        let N : MemberView → Type 0 = λ x. next ≡ with_kept (drop 1 x.session.kept) x in
        let becomes : N a = subst N (both.is a) (made.session.2 a) in
        let I : MemberView → Type 0 = λ x. other ≡ slice_get x.session.kept 0 in
        let same : other ≡ item = cc in
        let first : item ≡ slice_get (kept_of names whole c) 0 = sym same ∙ subst I (both.is a) (gives a) ∙ ap (λ k. slice_get k 0) attends.kept in
        let sits = λ (d : Client) (now : Attends names plays.before s.book.log.log (with_kept (drop 1 a.session.kept) a) d).
        let D : MemberView → Type 0 = λ x. Attends names plays.before s.book.log.log x d in
        let zip = zip_set (Attends names plays.before s.book.log.log) s.book.sessions plays.clients n next d (subst D (sym becomes) now) plays.standing.clients_are in
        let Z : List MemberView → Type 0 = λ l. AllZip (Attends names plays.before s.book.log.log) l (set plays.clients n d) in
        seated s b plays.before plays.firsts plays.clients (set plays.clients n d) plays.stores plays.watches made.same plays.standing (subst Z (sym made.session.1) zip) in (
          λ x is.
              let is_first : slice_get (kept_of names whole c) 0 ≡ Some x = sym first ∙ is in
              (x, is_first, sits (record c { taken = c.taken + 1 }) (taken_one names plays.before s.book.log.log a c attends (some_left (kept_of names whole c) x is_first)), refl),
          λ is.
              let none : kept_of names whole c ≡ [] = none_kept (kept_of names whole c) (sym first ∙ is) in
              let L : List Client → Type 0 = λ l. BookStandsFor (record s { book = b }) (state_of names whole plays.firsts l plays.stores plays.watches) in
              (none, subst L (set_same plays.clients n c there) (sits c (kept_none names plays.before s.book.log.log a c attends (attends.kept ∙ none))), refl),
        )

-- the loop: n were taken

pub record Taken (s now : ReplayBookView) (n i : ℕ) (out out' : List ℕ) (state : State) (c : Client) : Type 0 where
  pub few : i ≤ length (kept_of state.names state.log c)
  pub plays : BookStandsFor now (with_client n (record c { taken = c.taken + i }) state)
  pub written : out' ≡ out ++ item_lines n (take i (kept_of state.names state.log c))

abbrev pub TakenSoFar : ReplayBookView → ReplayBookView → ℕ → ℕ → List ℕ → List ℕ → Type 0
TakenSoFar s now n i out out' = (state : State) (c : Client) → BookStandsFor s state → slice_get state.clients n ≡ Some c → Taken s now n i out out' state c

begun_so : (s : ReplayBookView) (state : State) → BookStandsFor s state → state.begun ≡ true
begun_so s state plays = ap (λ (st : State). st.begun) (sym plays.is)

pub none_taken : (s : ReplayBookView) (n : ℕ) (out : List ℕ) → TakenSoFar s s n 0 out out
none_taken s n out = λ state c plays there.
    let zero_more : c.taken ≡ c.taken + 0 = omega arith in
    let same : with_client n (record c { taken = c.taken + 0 }) state ≡ state =
    ap (λ k. with_client n (record c { taken = k }) state) (sym zero_more)
    ∙ ap (λ l. record state { begun = true; clients = l }) (set_same state.clients n c there)
    ∙ ap (λ b. record state { begun = b }) (sym (begun_so s state plays)) in
    let P : State → Type 0 = λ st. BookStandsFor s st in
    record { few = omega arith; plays = subst P (sym same) plays; written = sym (append-nil out) }

item_at : {A : Type 0} (i : ℕ) (xs : List A) (x : A) → slice_get (drop i xs) 0 ≡ Some x → (i < length xs) × (take (i + 1) xs ≡ take i xs ++ x ∷ [])
item_at zero [] x is = absurd (cc)
item_at zero (y ∷ xs) x is = let e : y ≡ x = cc in (omega arith, ap (λ z. z ∷ []) e)
item_at (suc i) [] x is = absurd (cc)
item_at (suc i) (y ∷ xs) x is =
    let rest = item_at i xs x is in
    let low = rest.0 in
    let e : suc i + 1 ≡ suc (i + 1) = omega arith in
    (omega (arith, low), ap (λ k. take k (y ∷ xs)) e ∙ ap (λ l. y ∷ l) rest.1)

pub set_there : {A : Type 0} (xs : List A) (n : ℕ) (x y : A) → slice_get xs n ≡ Some x → slice_get (set xs n y) n ≡ Some y
set_there [] n x y is = absurd (cc)
set_there (z ∷ xs) zero x y is = refl
set_there (z ∷ xs) (suc n) x y is = set_there xs n x y is

pub one_more_taken : (s now next : ReplayBookView) (n i : ℕ) (out out' out'' : List ℕ) → TakenSoFar s now n i out out'
    → ((state : State) (c : Client) → BookStandsFor now state → slice_get state.clients n ≡ Some c → TakesOne n (Ok true) next out' out'' state c) → TakenSoFar s next n (i + 1) out out''
one_more_taken s now next n i out out' out'' so_far step = λ state c plays there.
    let was = so_far state c plays there in
    let d : Client = record c { taken = c.taken + i } in
    let did = step (with_client n d state) d was.plays (set_there state.clients n c d there) in
    let kept = kept_of state.names state.log c in
    let left : kept_of state.names state.log d ≡ drop i kept = sym (drop_more c.taken i (items_of state.names state.log c)) in
    let found = item_at i kept did.0 (ap (λ l. slice_get l 0) (sym left) ∙ did.1) in
    let low = found.0 in
    let count : c.taken + i + 1 ≡ c.taken + (i + 1) = omega arith in
    let P : ℕ → Type 0 = λ k. BookStandsFor next (with_client n (record c { taken = k }) state) in
    let Q : List Client → Type 0 = λ l. BookStandsFor next (record state { begun = true; clients = l }) in
    record {
      few = omega (arith, low);
      plays = subst P count (subst Q (set-set state.clients n d (record d { taken = d.taken + 1 })) did.2);
      written = did.3 ∙ ap (λ l. l ++ item_line n did.0) was.written ∙ append_assoc out (item_lines n (take i kept)) (item_line n did.0)
          ∙ ap (λ l. out ++ (item_lines n (take i kept) ++ l)) (sym (append-nil (item_line n did.0)))
          ∙ ap (λ l. out ++ l) (sym (flat_map-append (item_line n) (take i kept) (did.0 ∷ [])))
          ∙ ap (λ l. out ++ item_lines n l) (sym found.1);
    }

pub client_there : (s : ReplayBookView) (state : State) (n : ℕ) → BookStandsFor s state → n < length s.book.sessions → (c : Client) × (slice_get state.clients n ≡ Some c)
client_there s state n plays below =
    let P : State → Type 0 = λ st. (c : Client) × (slice_get st.clients n ≡ Some c) in
    subst P plays.is (elim (zip_at (Attends s.book.names plays.before s.book.log.log) s.book.sessions plays.clients n plays.standing.clients_are) [
      | inl both ↦ (both.other, both.second)
      | inr neither ↦ absurd (let past = neither.past in omega (arith, past, below))
    ])

ends_so : (s now : ReplayBookView) (n i most : ℕ) (out out' : List ℕ) (state : State) (c : Client) → slice_get state.clients n ≡ Some c → Taken s now n i out out' state c
    → take most (kept_of state.names state.log c) ≡ take i (kept_of state.names state.log c) → Acts (Ok Made) (takes n most state) now out out'
unfolding takes
ends_so s now n i most out out' state c there taken same =
    let kept = kept_of state.names state.log c in
    let few = taken.few in
    let long : length (take i kept) ≡ i = omega (arith, length-take i kept, few) in
    let count : length (next_taken most state.names state.log c) ≡ i = ap length same ∙ long in
    let e : EventEffect = record { state = with_client n (record c { taken = c.taken + i }) state; written = item_lines n (take i kept) } in
    let whole : record { state = with_client n (after_take most state.names state.log c) state; written = item_lines n (next_taken most state.names state.log c) } ≡ e =
    ap (λ k. record { state = with_client n (record c { taken = c.taken + k }) state; written = item_lines n (next_taken most state.names state.log c) }) count
    ∙ ap (λ l. record { state = with_client n (record c { taken = c.taken + i }) state; written = item_lines n l }) same in (
      e,
      ap (λ o. option_map (λ (c : Client). record {
        state = with_client n (after_take most state.names state.log c) state;
        written = item_lines n (next_taken most state.names state.log c);
      }) o) there ∙ ap (λ x. Some x) whole,
      taken.plays,
      taken.written,
    )

take_nil : {A : Type 0} (k : ℕ) → ◌≡◌ {A = List A} (take k []) []
take_nil zero = refl
take_nil (suc k) = refl

take_past : {A : Type 0} (i most : ℕ) (xs : List A) → i ≤ most → i ≤ length xs → drop i xs ≡ [] → take most xs ≡ take i xs
take_past zero most [] low few none = take_nil most
take_past zero most (x ∷ xs) low few none = absurd (cc)
take_past (suc i) most [] low few none = absurd (omega (arith, few))
take_past (suc i) zero (x ∷ xs) low few none = absurd (omega (arith, low))
take_past (suc i) (suc most) (x ∷ xs) low few none = ap (λ l. x ∷ l) (take_past i most xs (omega (arith, low)) (omega (arith, few)) none)

-- the outlet kept no more
pub all_taken : (s now next : ReplayBookView) (n i most : ℕ) (out out' out'' : List ℕ) → n < length s.book.sessions → i ≤ most → TakenSoFar s now n i out out'
    → ((state : State) (c : Client) → BookStandsFor now state → slice_get state.clients n ≡ Some c → TakesOne n (Ok false) next out' out'' state c)
    → (state : State) → BookStandsFor s state → Acts (Ok Made) (takes n most state) next out out''
all_taken s now next n i most out out' out'' below low so_far step state plays =
    let found = client_there s state n plays below in
    let c = found.0 in
    let there = found.1 in
    let was = so_far state c plays there in
    let d : Client = record c { taken = c.taken + i } in
    let did = step (with_client n d state) d was.plays (set_there state.clients n c d there) in
    let kept = kept_of state.names state.log c in
    let none : drop i kept ≡ [] = drop_more c.taken i (items_of state.names state.log c) ∙ did.0 in
    ends_so s next n i most out out'' state c there (record { few = was.few; plays = did.1; written = did.2 ∙ was.written }) (take_past i most kept low was.few none)

-- as many as were asked for
pub most_taken : (s now : ReplayBookView) (n i most : ℕ) (out out' : List ℕ) → n < length s.book.sessions → i ≡ most → TakenSoFar s now n i out out'
    → (state : State) → BookStandsFor s state → Acts (Ok Made) (takes n most state) now out out'
most_taken s now n i most out out' below is so_far state plays =
    let found = client_there s state n plays below in
    let was = so_far state found.0 plays found.1 in
    ends_so s now n i most out out' state found.0 found.1 was (ap (λ k. take k (kept_of state.names state.log found.0)) (sym is))
