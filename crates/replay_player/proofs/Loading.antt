-- Monitors make loads.
use Rattle.std.proofs.Common.{◌≡◌, ◌≤◌, ◌<◌, ℕ, zero, suc, ◌+◌, true, false, nat_lt, List, [], ◌∷◌, ◌++◌, length, set, get_or, slice_get, slice_index, Some, None, Result, Ok, Err, OnOk, option_map, refl, sym, ap, ◌∙◌, subst, inl, inr, append-nil, append_assoc, arith}
use Rattle.std.specs.List.{AllZip}
use Rattle.std.proofs.lemmas.Bool.{ltb-false}
use Rattle.std.proofs.lemmas.List.{set-set}
use Rattle.shm_segment.specs.Words.{words_of}
use Rattle.shm_monitor.specs.declared.reading.MonStep.{MonStep}
use Rattle.book_log.specs.History.{history}
use Rattle.book_units.specs.Samples.{samples_of}
use Rattle.book_units.specs.Units.{UnitView}
use Rattle.report_book.specs.BookView.{BookView}
use Rattle.session_runs.proofs.Zipping.{zip_set}
use Rattle.replay_player.specs.Loads.{reading_after, step_of}
use Rattle.replay_player.specs.UnitMonitorView.{UnitMonitorView, IsOf, after_load, words_beside}
use Rattle.replay_player.proofs.Books.{loads_as}
use Rattle.replay_player.specs.declared.event_step.EventStep.TheVariants.{Made, Refused}
use Rattle.replay_player.specs.Effects.{EventEffect, load_lines, loads, reading_after_loads, step_line, with_watch}
use Rattle.replay_player.specs.Playing.{Acts, LoadsOne, BookStandsFor, ReplayBookView, Watches, state_of}
use Rattle.replay_player.specs.States.{State, MonitorState, words_at}
use Rattle.replay_player.proofs.Seating.{Both, zip_at}

some_unit : (units : List UnitView) → 0 < length units → UnitView
some_unit [] some = absurd (omega (arith, some))
some_unit (x ∷ units) some = x

-- each monitor of a stage is beside its book
pub beside : (s : ReplayBookView) (state : State) → BookStandsFor s state → (m : ℕ) → m < length s.watchers → (free : UnitMonitorView) → IsOf (get_or s.watchers m free) s.book
beside s state plays m below free = elim (zip_at (Watches s.book) s.watchers plays.watches m plays.standing.watches_are) [
  | inl both ↦ let P : UnitMonitorView → Type 0 = λ w. IsOf w s.book in subst P (sym (both.is free)) both.pair.of
  | inr neither ↦ absurd (let past = neither.past in omega (arith, past, below))
]

pub few_watchers : (s : ReplayBookView) (state : State) → BookStandsFor s state → length s.watchers ≤ 64
few_watchers s state plays =
    let long : length s.watchers ≡ length plays.watches = long_zip (Watches s.book) s.watchers plays.watches plays.standing.watches_are in
    let few = plays.standing.few in
    omega (arith, long, few)
  where
    long_zip : {A B : Type 0} (R : A → B → Type 0) (xs : List A) (ys : List B) → AllZip R xs ys → length xs ≡ length ys
    long_zip R [] [] zip = refl
    long_zip R [] (y ∷ ys) zip = absurd zip
    long_zip R (x ∷ xs) [] zip = absurd zip
    long_zip R (x ∷ xs) (y ∷ ys) zip = ap suc (long_zip R xs ys zip.1)

length_kept : {A : Type 0} (xs : List A) (n : ℕ) (x : A) → length (set xs n x) ≡ length xs
length_kept [] n x = refl
length_kept (y ∷ xs) zero x = refl
length_kept (y ∷ xs) (suc n) x = ap suc (length_kept xs n x)

pub loaded_one : (s : ReplayBookView) (b : BookView) (watchers : List UnitMonitorView) (m : ℕ) (step : MonStep) (out out' : List ℕ) → b ≡ s.book
    → ((free : UnitMonitorView) (other : UnitView) → step ≡ step_of (words_beside (get_or s.watchers m free) s.book other) (get_or s.watchers m free).reading)
    → ((free : UnitMonitorView) (other : UnitView) → watchers ≡ set s.watchers m (after_load (words_beside (get_or s.watchers m free) s.book other) (get_or s.watchers m free)))
    → out' ≡ out ++ step_line m step
    → (state : State) (t : MonitorState) → BookStandsFor s state → slice_get state.watches m ≡ Some t → LoadsOne m (record { devices = s.devices; book = b; watchers = watchers }) out out' state t
loaded_one s b watchers m step out out' same steps news line state t plays there =
    let S : State → Type 0 = λ st. slice_get st.watches m ≡ Some t → LoadsOne m (record { devices = s.devices; book = b; watchers = watchers }) out out' st t in
    subst S plays.is (λ there. elim (zip_at (Watches s.book) s.watchers plays.watches m plays.standing.watches_are) [
      | inl both ↦ by both there
      | inr neither ↦ absurd (let e = neither.second in cc)
    ]) there
  where
    by : (both : Both (Watches s.book) s.watchers plays.watches m) → slice_get plays.watches m ≡ Some t
        → LoadsOne m (record { devices = s.devices; book = b; watchers = watchers }) out out' (state_of s.book.names (plays.before ++ s.book.log.log) plays.firsts plays.clients plays.stores plays.watches) t
    by both there =
        let w = both.one in
        let mine : both.other ≡ t = let e = both.second in cc in
        let W : MonitorState → Type 0 = λ x. Watches s.book w x in
        let pair : W t = subst W mine both.pair in
        let whole = plays.before ++ s.book.log.log in
        let at = state_of s.book.names whole plays.firsts plays.clients plays.stores plays.watches in
        let of = pair.of in
        let other = some_unit s.book.units (let u = of.unit in omega (arith, u)) in
        let words_so : words_beside w s.book other ≡ words_at t.unit at =
        loads_as w s.book (slice_index plays.firsts w.unit) (slice_index plays.stores w.unit) (samples_of w.unit (history whole)) (plays.standing.units_are w.unit of.unit) other
        ∙ ap (λ u. words_of (slice_index plays.firsts u) (samples_of u (history whole)) (slice_index plays.stores u)) pair.unit in
        let N : UnitMonitorView → Type 0 = λ x. watchers ≡ set s.watchers m (after_load (words_beside x s.book other) x) in
        let now : N w = subst N (both.is w) (news w other) in
        let M : UnitMonitorView → Type 0 = λ x. step ≡ step_of (words_beside x s.book other) x.reading in
        let is_step : M w = subst M (both.is w) (steps w other) in
        let reading : (after_load (words_beside w s.book other) w).reading ≡ reading_after (words_at t.unit at) t.reading =
        ap (λ l. reading_after l w.reading) words_so ∙ ap (reading_after (words_at t.unit at)) pair.reading in
        let t' : MonitorState = record t { reading = reading_after (words_at t.unit at) t.reading } in
        let zip = zip_set (Watches s.book) s.watchers plays.watches m (after_load (words_beside w s.book other) w) t'
        (record { unit = pair.unit; reading = reading; of = record { unit = of.unit; part = of.part } }) plays.standing.watches_are in
        let few = plays.standing.few in
        let done : BookStandsFor (record { devices = s.devices; book = s.book; watchers = set s.watchers m (after_load (words_beside w s.book other) w) }) (with_watch m (reading_after (words_at t.unit at) t.reading) t at) = record {
          before = plays.before;
          firsts = plays.firsts;
          clients = plays.clients;
          stores = plays.stores;
          watches = set plays.watches m t';
          standing = record {
            stands = plays.standing.stands;
            requests = plays.standing.requests;
            clients_are = plays.standing.clients_are;
            units_are = plays.standing.units_are;
            many = plays.standing.many;
            few = omega (arith, few, length_kept plays.watches m t');
            watches_are = zip;
          };
          is = refl;
        } in
        let A : List UnitMonitorView → Type 0 = λ l. BookStandsFor (record { devices = s.devices; book = s.book; watchers = l }) (with_watch m (reading_after (words_at t.unit at) t.reading) t at) in
        let B : BookView → Type 0 = λ x. BookStandsFor (record { devices = s.devices; book = x; watchers = watchers }) (with_watch m (reading_after (words_at t.unit at) t.reading) t at) in (
          subst B (sym same) (subst A (sym now) done),
          line ∙ ap (λ x. out ++ step_line m x) (is_step ∙ ap (λ l. step_of l w.reading) words_so ∙ ap (step_of (words_at t.unit at)) pair.reading),
        )

-- the loop

pub record Loaded (now : ReplayBookView) (m i : ℕ) (out out' : List ℕ) (state : State) (t : MonitorState) : Type 0 where
  pub plays : BookStandsFor now (with_watch m (reading_after_loads i (words_at t.unit state) t.reading) t state)
  pub written : out' ≡ out ++ load_lines m i (words_at t.unit state) t.reading

abbrev pub LoadedSoFar : ReplayBookView → ReplayBookView → ℕ → ℕ → List ℕ → List ℕ → Type 0
LoadedSoFar s now m i out out' = (state : State) (t : MonitorState) → BookStandsFor s state → slice_get state.watches m ≡ Some t → Loaded now m i out out' state t

set_same : (xs : List MonitorState) (n : ℕ) (x : MonitorState) → slice_get xs n ≡ Some x → set xs n x ≡ xs
set_same [] n x is = refl
set_same (y ∷ xs) zero x is = let e : y ≡ x = cc in ap (λ z. z ∷ xs) (sym e)
set_same (y ∷ xs) (suc n) x is = ap (λ l. y ∷ l) (set_same xs n x is)

set_there : (xs : List MonitorState) (n : ℕ) (x y : MonitorState) → slice_get xs n ≡ Some x → slice_get (set xs n y) n ≡ Some y
set_there [] n x y is = absurd (cc)
set_there (z ∷ xs) zero x y is = refl
set_there (z ∷ xs) (suc n) x y is = set_there xs n x y is

pub none_loaded : (s : ReplayBookView) (m : ℕ) (out : List ℕ) → LoadedSoFar s s m 0 out out
unfolding reading_after_loads load_lines
none_loaded s m out = λ state t plays there.
    let begun : state.begun ≡ true = ap (λ (st : State). st.begun) (sym plays.is) in
    let same : with_watch m t.reading t state ≡ state = ap (λ l. record state { begun = true; watches = l }) (set_same state.watches m t there) ∙ ap (λ x. record state { begun = x }) (sym begun) in
    let P : State → Type 0 = λ st. BookStandsFor s st in
    record { plays = subst P (sym same) plays; written = sym (append-nil out) }

reading_next : (i : ℕ) (words reading : List ℕ) → reading_after_loads (i + 1) words reading ≡ reading_after words (reading_after_loads i words reading)
unfolding reading_after_loads
reading_next zero words reading = let e : 0 + 1 ≡ 1 = omega arith in ap (λ k. reading_after_loads k words reading) e
reading_next (suc i) words reading = let e : suc i + 1 ≡ suc (i + 1) = omega arith in ap (λ k. reading_after_loads k words reading) e ∙ reading_next i words (reading_after words reading)

lines_next : (m i : ℕ) (words reading : List ℕ) → load_lines m (i + 1) words reading ≡ load_lines m i words reading ++ step_line m (step_of words (reading_after_loads i words reading))
unfolding reading_after_loads load_lines
lines_next m zero words reading = let e : 0 + 1 ≡ 1 = omega arith in ap (λ k. load_lines m k words reading) e ∙ append-nil (step_line m (step_of words reading))
lines_next m (suc i) words reading =
    let e : suc i + 1 ≡ suc (i + 1) = omega arith in
    ap (λ k. load_lines m k words reading) e
    ∙ ap (λ l. step_line m (step_of words reading) ++ l) (lines_next m i words (reading_after words reading))
    ∙ sym (append_assoc (step_line m (step_of words reading)) (load_lines m i words (reading_after words reading)) (step_line m (step_of words (reading_after_loads i words (reading_after words reading)))))

pub one_more_loaded : (s now next : ReplayBookView) (m i : ℕ) (out out' out'' : List ℕ) → LoadedSoFar s now m i out out'
    → ((state : State) (t : MonitorState) → BookStandsFor now state → slice_get state.watches m ≡ Some t → LoadsOne m next out' out'' state t) → LoadedSoFar s next m (i + 1) out out''
one_more_loaded s now next m i out out' out'' so_far step = λ state t plays there.
    let was = so_far state t plays there in
    let words = words_at t.unit state in
    let t' : MonitorState = record t { reading = reading_after_loads i words t.reading } in
    let mid = with_watch m (reading_after_loads i words t.reading) t state in
    let did = step mid t' was.plays (set_there state.watches m t t' there) in
    let P : List ℕ → Type 0 = λ r. BookStandsFor next (with_watch m r t state) in
    let Q : List MonitorState → Type 0 = λ l. BookStandsFor next (record state { begun = true; watches = l }) in
    record {
      plays = subst P (sym (reading_next i words t.reading)) (subst Q (set-set state.watches m t' (record t' { reading = reading_after words t'.reading })) did.0);
      written = did.1 ∙ ap (λ l. l ++ step_line m (step_of words t'.reading)) was.written ∙ append_assoc out (load_lines m i words t.reading) (step_line m (step_of words t'.reading))
          ∙ ap (λ l. out ++ l) (sym (lines_next m i words t.reading));
    }

watch_there : (s : ReplayBookView) (state : State) (m : ℕ) → BookStandsFor s state → m < length s.watchers → (t : MonitorState) × (slice_get state.watches m ≡ Some t)
watch_there s state m plays below =
    let P : State → Type 0 = λ st. (t : MonitorState) × (slice_get st.watches m ≡ Some t) in
    subst P plays.is (elim (zip_at (Watches s.book) s.watchers plays.watches m plays.standing.watches_are) [
      | inl both ↦ (both.other, both.second)
      | inr neither ↦ absurd (let past = neither.past in omega (arith, past, below))
    ])

pub plays_on : (s now : ReplayBookView) (m i : ℕ) (out out' : List ℕ) → m < length s.watchers → LoadedSoFar s now m i out out' → (state : State) × BookStandsFor s state → (state : State) × BookStandsFor now state
plays_on s now m i out out' below so_far known =
    let found = watch_there s known.0 m known.1 below in
    let was = so_far known.0 found.0 known.1 found.1 in
    (with_watch m (reading_after_loads i (words_at found.0.unit known.0) found.0.reading) found.0 known.0, was.plays)

pub loads_act : (s now : ReplayBookView) (m i steps : ℕ) (out out' : List ℕ) → m < length s.watchers → i ≡ steps → LoadedSoFar s now m i out out' → (state : State) → BookStandsFor s state → Acts (Ok Made) (loads m steps state) now out out'
unfolding loads
loads_act s now m i steps out out' below is so_far state plays =
    let found = watch_there s state m plays below in
    let t = found.0 in
    let words = words_at t.unit state in
    let L : ℕ → Type 0 = λ k. Loaded now m k out out' state t in
    let was : L steps = subst L is (so_far state t plays found.1) in
    let e : EventEffect = record { state = with_watch m (reading_after_loads steps words t.reading) t state; written = load_lines m steps words t.reading } in (
      e,
      ap (λ o. option_map (λ (w : MonitorState). record {
        state = with_watch m (reading_after_loads steps (words_at w.unit state) w.reading) w state;
        written = load_lines m steps (words_at w.unit state) w.reading;
      }) o) found.1,
      was.plays,
      was.written,
    )

pub loads_none : (s : ReplayBookView) (m steps : ℕ) (out : List ℕ) → nat_lt m (length s.watchers) ≡ false → (state : State) → BookStandsFor s state → Acts (Ok Refused) (loads m steps state) s out out
unfolding loads
loads_none s m steps out test state plays =
    let P : State → Type 0 = λ st. slice_get st.watches m ≡ None in
    let none : slice_get state.watches m ≡ None = subst P plays.is (elim (zip_at (Watches s.book) s.watchers plays.watches m plays.standing.watches_are) [
      | inl both ↦ absurd (let past = ltb-false m (length s.watchers) test in let there = both.there in omega (arith, past, there))
      | inr neither ↦ neither.second
    ]) in (
      ap (λ o. option_map (λ (w : MonitorState). record {
        state = with_watch m (reading_after_loads steps (words_at w.unit state) w.reading) w state;
        written = load_lines m steps (words_at w.unit state) w.reading;
      }) o) none,
      refl,
    )

-- the same over the result of the call that writes the line

pub loaded_act : {X E : Type 0} (result : Result X E) (s : ReplayBookView) (b : BookView) (watchers : List UnitMonitorView) (m : ℕ) (step : MonStep) (out out' : List ℕ) → b ≡ s.book
    → ((free : UnitMonitorView) (other : UnitView) → step ≡ step_of (words_beside (get_or s.watchers m free) s.book other) (get_or s.watchers m free).reading)
    → ((free : UnitMonitorView) (other : UnitView) → watchers ≡ set s.watchers m (after_load (words_beside (get_or s.watchers m free) s.book other) (get_or s.watchers m free)))
    → OnOk result (out' ≡ out ++ step_line m step)
    → OnOk result ((state : State) (t : MonitorState) → BookStandsFor s state → slice_get state.watches m ≡ Some t → LoadsOne m (record { devices = s.devices; book = b; watchers = watchers }) out out' state t)
loaded_act (Ok x) s b watchers m step out out' same steps news line = loaded_one s b watchers m step out out' same steps news line
loaded_act (Err e) s b watchers m step out out' same steps news line = tt

pub count_kept : (olds watchers : List UnitMonitorView) (b : BookView) (m : ℕ) → m < length olds → ((free : UnitMonitorView) → IsOf (get_or olds m free) b)
    → ((free : UnitMonitorView) (other : UnitView) → watchers ≡ set olds m (after_load (words_beside (get_or olds m free) b other) (get_or olds m free))) → length watchers ≡ length olds
count_kept [] watchers b m below of news = absurd (omega (arith, below))
count_kept (x ∷ olds) watchers b m below of news =
    let other = some_unit b.units (let u = (of x).unit in omega (arith, u)) in
    ap length (news x other) ∙ length_kept (x ∷ olds) m (after_load (words_beside (get_or (x ∷ olds) m x) b other) (get_or (x ∷ olds) m x))
