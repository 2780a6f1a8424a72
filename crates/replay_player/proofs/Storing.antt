-- Units make stores, and monitors watch them.
use Rattle.std.proofs.Common.{◌≡◌, ◌≢◌, ◌≤◌, ◌<◌, ◌*◌, ◌⊎◌, ℕ, zero, suc, ◌+◌, Bool, true, false, ◌&&◌, nat_lt, nat_eq, List, [], ◌∷◌, ◌++◌, length, set, get_or, slice_index, Ok, refl, sym, ap, ◌∙◌, subst, inl, inr, length-append, arith}
use Rattle.std.specs.List.{AllZip}
use Rattle.std.proofs.lemmas.Bool.{cases_lt, ltb-true}
use Rattle.std.proofs.lemmas.List.{get_or-set_same, get_or-set_other, set-set}
use Rattle.shm_segment.specs.declared.sample.Sample.{Sample}
use Rattle.book_log.specs.Entries.{Entry}
use Rattle.book_log.specs.History.{history}
use Rattle.book_log.specs.Standing.{StandsFor}
use Rattle.book_units.specs.declared.unit.UnitStep.{UnitStep}
use Rattle.book_units.specs.Samples.{samples_of}
use Rattle.book_units.specs.Units.{UnitView, segment_of}
use Rattle.report_book.specs.BookView.{BookView}
use Rattle.report_book.specs.Moves.{PublishesAt}
use Rattle.report_book.specs.Standing.{BookHolds}
use Rattle.session_runs.proofs.Zipping.{zip_push}
use Rattle.replay_player.specs.Books.{IsStoredAt}
use Rattle.replay_player.specs.Stored.{stores_next}
use Rattle.replay_player.specs.UnitMonitorView.{UnitMonitorView, IsOf, watched}
use Rattle.replay_player.proofs.Books.{keeps_publishes, published, published_beside}
use Rattle.replay_player.specs.declared.event_step.EventStep.TheVariants.{Made, Refused}
use Rattle.replay_player.specs.Effects.{allowed, most_watches, quietly, stores, stores_after, watches, with_stores}
use Rattle.replay_player.specs.Playing.{Acts, Attends, BookStandsFor, ReplayBookView, Watches, state_of}
use Rattle.replay_player.specs.States.{State, MonitorState, most_units, samples_at, units_in}
use Rattle.replay_player.proofs.Bringing.{same_state, watched_on}

-- a new monitor

at_least : (units : List UnitView) (w : UnitMonitorView) (u : ℕ) → 0 < length units → ((free : UnitView) → w ≡ watched u (segment_of (get_or units u free)) []) → (w.unit ≡ u) × (w.reading ≡ [])
at_least [] w u some is = absurd (omega (arith, some))
at_least (x ∷ units) w u some is = (ap (λ (v : UnitMonitorView). v.unit) (is x), ap (λ (v : UnitMonitorView). v.reading) (is x))

pub watch_acts : (s : ReplayBookView) (b : BookView) (w : UnitMonitorView) (m u : ℕ) → b ≡ s.book → ((free : UnitView) → w ≡ watched u (segment_of (get_or s.book.units u free)) []) → IsOf w s.book
    → (nat_eq m (length s.watchers) && nat_lt (length s.watchers) most_watches && nat_lt u (2 * length s.book.names)) ≡ true
    → (state : State) → BookStandsFor s state → Acts (Ok Made) (watches m u state) (record { devices = s.devices; book = b; watchers = s.watchers ++ w ∷ [] }) [] []
unfolding watches
watch_acts s b w m u same new of test state plays =
    let at = state_of s.book.names (plays.before ++ s.book.log.log) plays.firsts plays.clients plays.stores plays.watches in
    let long : length s.watchers ≡ length plays.watches = long_zip (Watches s.book) s.watchers plays.watches plays.standing.watches_are in
    let is : (nat_eq m (length plays.watches) && nat_lt (length plays.watches) most_watches && nat_lt u (2 * length s.book.names)) ≡ true =
    ap (λ n. nat_eq m n && nat_lt n most_watches && nat_lt u (2 * length s.book.names)) (sym long) ∙ test in
    let parts = let some = of.unit in at_least s.book.units w u (omega (arith, some)) new in
    let t : MonitorState = record { unit = u; reading = [] } in
    let to : State = record at { watches = plays.watches ++ t ∷ [] } in
    let low : length plays.watches < 64 = under m (length plays.watches) (nat_lt u (2 * length s.book.names)) is in
    let longer : length (plays.watches ++ t ∷ []) ≤ 64 = omega (arith, low, length-append plays.watches (t ∷ [])) in
    let zip = zip_push (Watches s.book) s.watchers plays.watches w t (record { unit = parts.0; reading = parts.1; of = of }) plays.standing.watches_are in
    let now : BookStandsFor (record s { watchers = s.watchers ++ w ∷ [] }) to = record {
      before = plays.before;
      firsts = plays.firsts;
      clients = plays.clients;
      stores = plays.stores;
      watches = plays.watches ++ t ∷ [];
      standing = record {
        stands = plays.standing.stands;
        requests = plays.standing.requests;
        clients_are = plays.standing.clients_are;
        units_are = plays.standing.units_are;
        many = plays.standing.many;
        few = longer;
        watches_are = zip;
      };
      is = refl;
    } in
    let B : BookView → Type 0 = λ x. Acts (Ok Made) (watches m u at) (record { devices = s.devices; book = x; watchers = s.watchers ++ w ∷ [] }) [] [] in
    let S : State → Type 0 = λ st. Acts (Ok Made) (watches m u st) (record { devices = s.devices; book = b; watchers = s.watchers ++ w ∷ [] }) [] [] in
    subst S plays.is (subst B (sym same) (quietly to, ap (λ x. allowed x (quietly to)) is, now, refl))
  where
    under : (m n : ℕ) (b : Bool) → (nat_eq m n && nat_lt n most_watches && b) ≡ true → n < 64
    under m n b is = by (nat_eq m n) (nat_lt n most_watches) refl is
      where
        by : (x y : Bool) → nat_lt n most_watches ≡ y → (x && y && b) ≡ true → n < 64
        by true true below is = ltb-true n most_watches below
        by true false below is = absurd (cc)
        by false y below is = absurd (cc)

    long_zip : {A B : Type 0} (R : A → B → Type 0) (xs : List A) (ys : List B) → AllZip R xs ys → length xs ≡ length ys
    long_zip R [] [] zip = refl
    long_zip R [] (y ∷ ys) zip = absurd zip
    long_zip R (x ∷ xs) [] zip = absurd zip
    long_zip R (x ∷ xs) (y ∷ ys) zip = ap suc (long_zip R xs ys zip.1)

pub watch_none : (s : ReplayBookView) (m u : ℕ) → (nat_eq m (length s.watchers) && nat_lt (length s.watchers) most_watches && nat_lt u (2 * length s.book.names)) ≡ false
    → (state : State) → BookStandsFor s state → Acts (Ok Refused) (watches m u state) s [] []
unfolding watches
watch_none s m u test state plays =
    let at = state_of s.book.names (plays.before ++ s.book.log.log) plays.firsts plays.clients plays.stores plays.watches in
    let long : length s.watchers ≡ length plays.watches = long_zip (Watches s.book) s.watchers plays.watches plays.standing.watches_are in
    let is : (nat_eq m (length plays.watches) && nat_lt (length plays.watches) most_watches && nat_lt u (2 * length s.book.names)) ≡ false =
    ap (λ n. nat_eq m n && nat_lt n most_watches && nat_lt u (2 * length s.book.names)) (sym long) ∙ test in
    let S : State → Type 0 = λ st. Acts (Ok Refused) (watches m u st) s [] [] in
    subst S plays.is (ap (λ x. allowed x (quietly (record at { watches = plays.watches ++ record { unit = u; reading = [] } ∷ [] }))) is, refl)
  where
    long_zip : {A B : Type 0} (R : A → B → Type 0) (xs : List A) (ys : List B) → AllZip R xs ys → length xs ≡ length ys
    long_zip R [] [] zip = refl
    long_zip R [] (y ∷ ys) zip = absurd zip
    long_zip R (x ∷ xs) [] zip = absurd zip
    long_zip R (x ∷ xs) (y ∷ ys) zip = ap suc (long_zip R xs ys zip.1)

decide : (v u : ℕ) → (v ≡ u) ⊎ (v ≢ u)
decide v u = elim (cases_lt v u) [
  | inl below ↦ inr (λ same. absurd (omega (arith, below, same)))
  | inr above ↦ elim (cases_lt u v) [
    | inl over ↦ inr (λ same. absurd (omega (arith, over, same)))
    | inr under ↦ inl (omega (arith, above, under))
  ]
]

-- one store

pub stored_one : (s : ReplayBookView) (b : BookView) (u : ℕ) (step : UnitStep) → u < 2 * length s.book.names → BookHolds s.book → PublishesAt u step s.book b
    → (state : State) → BookStandsFor s state → BookStandsFor (record s { book = b }) (with_stores u (stores_next (slice_index state.firsts u) (samples_at u state) (slice_index state.stores u)) state)
stored_one s b u step below held publishes state plays =
    let within : u < length s.book.units = let count = held.units in omega (arith, below, count) in
    let many : length plays.stores ≡ 16 = plays.standing.many in
    let fits : u < length plays.stores = let few = held.count in omega (arith, below, few, many) in
    let whole = plays.before ++ s.book.log.log in
    let at = state_of s.book.names whole plays.firsts plays.clients plays.stores plays.watches in
    let next = stores_next (slice_index plays.firsts u) (samples_of u (history whole)) (slice_index plays.stores u) in
    let keeps = keeps_publishes u step s.book b publishes in
    let joined : plays.before ++ b.log.log ≡ whole = ap (λ l. plays.before ++ l.log) publishes.log in
    let N : List (List ℕ) → Type 0 = λ n. AllZip (Attends n plays.before b.log.log) b.sessions plays.clients in
    let P : State → Type 0 = λ st. BookStandsFor (record s { book = b }) (with_stores u (stores_next (slice_index st.firsts u) (samples_at u st) (slice_index st.stores u)) st) in
    subst P plays.is (record {
      before = plays.before;
      firsts = plays.firsts;
      clients = plays.clients;
      stores = set plays.stores u next;
      watches = plays.watches;
      standing = record {
        stands = subst (λ l. StandsFor l.opening plays.before) (sym publishes.log) plays.standing.stands;
        requests = publishes.requests ∙ plays.standing.requests;
        clients_are = subst N (sym publishes.names) (subst (λ l. AllZip (Attends s.book.names plays.before l.log) b.sessions plays.clients) (sym publishes.log)
            (subst (λ l. AllZip (Attends s.book.names plays.before s.book.log.log) l plays.clients) (sym publishes.sessions) plays.standing.clients_are));
        units_are = λ v v_within.
            let old_within : v < length s.book.units = let count = keeps.count in omega (arith, v_within, count) in
            let L : List Entry → Type 0 = λ l. IsStoredAt v (slice_index plays.firsts v) (samples_of v (history l)) (slice_index (set plays.stores u next) v) b in
            subst L (sym joined) (by v old_within within fits);
        many = length_kept plays.stores u next ∙ plays.standing.many;
        few = plays.standing.few;
        watches_are = watched_on s.book b keeps s.watchers plays.watches plays.standing.watches_are;
      };
      is = same_state b.names s.book.names (plays.before ++ b.log.log) whole plays.firsts plays.clients plays.clients (set plays.stores u next) plays.watches publishes.names joined refl;
    })
  where
    length_kept : (xs : List ℕ) (n x : ℕ) → length (set xs n x) ≡ length xs
    length_kept [] n x = refl
    length_kept (y ∷ xs) zero x = refl
    length_kept (y ∷ xs) (suc n) x = ap suc (length_kept xs n x)

    by : (v : ℕ) → v < length s.book.units → u < length s.book.units → u < length plays.stores
        → IsStoredAt v (slice_index plays.firsts v) (samples_of v (history (plays.before ++ s.book.log.log)))
        (slice_index (set plays.stores u (stores_next (slice_index plays.firsts u) (samples_of u (history (plays.before ++ s.book.log.log))) (slice_index plays.stores u))) v) b
    by v v_within within fits =
        let whole = plays.before ++ s.book.log.log in
        let next = stores_next (slice_index plays.firsts u) (samples_of u (history whole)) (slice_index plays.stores u) in
        elim (decide v u) [
          | inl is ↦
              let V : ℕ → Type 0 = λ k. IsStoredAt k (slice_index plays.firsts k) (samples_of k (history whole)) (slice_index (set plays.stores u next) k) b in
              let M : ℕ → Type 0 = λ n. IsStoredAt u (slice_index plays.firsts u) (samples_of u (history whole)) n b in
              subst V (sym is) (subst M (sym (get_or-set_same plays.stores u next 0 fits))
              (published u step s.book b publishes (slice_index plays.firsts u) (slice_index plays.stores u) (samples_of u (history whole)) within (plays.standing.units_are u within)).1)
          | inr other ↦
              let M : ℕ → Type 0 = λ n. IsStoredAt v (slice_index plays.firsts v) (samples_of v (history whole)) n b in
              subst M (sym (get_or-set_other plays.stores u v next 0 other))
              (published_beside u step s.book b publishes v other (slice_index plays.firsts v) (slice_index plays.stores v) (samples_of v (history whole)) (plays.standing.units_are v v_within))
        ]

-- the loop

abbrev pub StoredSoFar : ReplayBookView → ReplayBookView → ℕ → ℕ → Type 0
StoredSoFar s now u i = (state : State) → BookStandsFor s state → BookStandsFor now (with_stores u (stores_after i (slice_index state.firsts u) (samples_at u state) (slice_index state.stores u)) state)

after_next : (i first : ℕ) (samples : List Sample) (number : ℕ) → stores_after (i + 1) first samples number ≡ stores_next first samples (stores_after i first samples number)
unfolding stores_after
after_next zero first samples number = let e : 0 + 1 ≡ 1 = omega arith in ap (λ k. stores_after k first samples number) e
after_next (suc i) first samples number =
    let e : suc i + 1 ≡ suc (i + 1) = omega arith in
    ap (λ k. stores_after k first samples number) e ∙ after_next i first samples (stores_next first samples number)

set_itself : (xs : List ℕ) (n : ℕ) → set xs n (slice_index xs n) ≡ xs
set_itself [] n = refl
set_itself (x ∷ xs) zero = refl
set_itself (x ∷ xs) (suc n) = ap (λ l. x ∷ l) (set_itself xs n)

pub none_stored : (s : ReplayBookView) (u : ℕ) → StoredSoFar s s u 0
unfolding stores_after
none_stored s u = λ state plays.
    let begun : state.begun ≡ true = ap (λ (st : State). st.begun) (sym plays.is) in
    let same : with_stores u (slice_index state.stores u) state ≡ state =
    ap (λ l. record state { begun = true; stores = l }) (set_itself state.stores u) ∙ ap (λ x. record state { begun = x }) (sym begun) in
    let P : State → Type 0 = λ st. BookStandsFor s st in
    subst P (sym same) plays

pub one_more_stored : (s now next : ReplayBookView) (u i : ℕ) → u < most_units → StoredSoFar s now u i
    → ((state : State) → BookStandsFor now state → BookStandsFor next (with_stores u (stores_next (slice_index state.firsts u) (samples_at u state) (slice_index state.stores u)) state))
    → StoredSoFar s next u (i + 1)
one_more_stored s now next u i below so_far step = λ state plays.
    let first = slice_index state.firsts u in
    let samples = samples_at u state in
    let number = stores_after i first samples (slice_index state.stores u) in
    let mid = with_stores u number state in
    let did = step mid (so_far state plays) in
    let many : length state.stores ≡ 16 = let P : State → Type 0 = λ st. length st.stores ≡ 16 in subst P plays.is plays.standing.many in
    let there : slice_index (set state.stores u number) u ≡ number = get_or-set_same state.stores u number 0 (omega (arith, below, many)) in
    let P : ℕ → Type 0 = λ n. BookStandsFor next (with_stores u n state) in
    let Q : List ℕ → Type 0 = λ l. BookStandsFor next (record state { begun = true; stores = l }) in
    subst P (ap (stores_next first samples) there ∙ sym (after_next i first samples (slice_index state.stores u)))
    (subst Q (set-set state.stores u number (stores_next first samples (slice_index (set state.stores u number) u))) did)

pub stores_act : (s now : ReplayBookView) (u i steps : ℕ) → nat_lt u (2 * length s.book.names) ≡ true → i ≡ steps → StoredSoFar s now u i → (state : State) → BookStandsFor s state → Acts (Ok Made) (stores u steps state) now [] []
unfolding stores
stores_act s now u i steps test is so_far state plays =
    let names : length s.book.names ≡ length state.names = ap (λ (st : State). length st.names) plays.is in
    let ok : nat_lt u (units_in state) ≡ true = ap (λ n. nat_lt u (2 * n)) (sym names) ∙ test in
    let to = with_stores u (stores_after steps (slice_index state.firsts u) (samples_at u state) (slice_index state.stores u)) state in
    let P : ℕ → Type 0 = λ k. BookStandsFor now (with_stores u (stores_after k (slice_index state.firsts u) (samples_at u state) (slice_index state.stores u)) state) in
    (quietly to, ap (λ x. allowed x (quietly to)) ok, subst P is (so_far state plays), refl)

pub stores_none : (s : ReplayBookView) (u steps : ℕ) → nat_lt u (2 * length s.book.names) ≡ false → (state : State) → BookStandsFor s state → Acts (Ok Refused) (stores u steps state) s [] []
unfolding stores
stores_none s u steps test state plays =
    let names : length s.book.names ≡ length state.names = ap (λ (st : State). length st.names) plays.is in
    let ok : nat_lt u (units_in state) ≡ false = ap (λ n. nat_lt u (2 * n)) (sym names) ∙ test in
    let to = with_stores u (stores_after steps (slice_index state.firsts u) (samples_at u state) (slice_index state.stores u)) state in
    (ap (λ x. allowed x (quietly to)) ok, refl)
