-- What holds of a script's units and monitors after each of its lines but those of loads.
use Rattle.std.proofs.Common.{◌≡◌, ◌≢◌, ℕ, zero, suc, ◌+◌, ◌*◌, ◌%◌, ◌<◌, ◌≤◌, Bool, true, false, not, ◌&&◌, ◌||◌, List, [], ◌∷◌, ◌++◌, length, set, refl, sym, ap, ◌∙◌, subst, arith, length-append, Option, Some, None, option_map}
use Rattle.std.specs.Prelude.{nat_lt, option_and_then, slice_get, slice_index, slice_set, if◌then◌else◌, ◌==◌}
use Rattle.std.specs.List.{AllByRecursion}
use Rattle.std.proofs.lemmas.Bool.{eqb-true, eqb-false}
use Rattle.std.proofs.lemmas.Bool.Decides.{nat_tests}
use Rattle.std.proofs.lemmas.List.Concat.{flat_map-append}
use Rattle.gps_fixed.specs.Moment.{Moment}
use Rattle.shm_segment.specs.declared.sample.Sample.{Sample}
use Rattle.shm_segment.specs.Rule.{Rises, last_from}
use Rattle.shm_segment.specs.Words.{count_after, published_after}
use Rattle.line_cut.specs.Limits.{most}
use Rattle.book_log.specs.Entries.{Entry, fed}
use Rattle.book_log.specs.History.{history, history_after}
use Rattle.book_log.proofs.HistoryLaws.{whole_history}
use Rattle.book_units.specs.Samples.{samples_in, samples_of}
use Rattle.gps_report.specs.declared.report.Report.{Report}
use Rattle.device_core.specs.Stream.{piece}
use Rattle.replay_player.specs.Stored.{makes_store, stores_next}
use Rattle.replay_player.specs.Clients.{Client, after_take, closed, is_open, next_taken, opened, served}
use Rattle.replay_player.specs.Effects.{EventEffect, allowed, brings, changes, declares, hangs, hears, item_lines, numbers, opens, quietly, stores, stores_after, takes, watches, with_client, with_stores}
use Rattle.replay_player.specs.States.{MonitorState, State, came, samples_at, units_in}
use Rattle.replay_laws.specs.Readings.{EndedReading, IsOfPublished, taken_by}
use Rattle.replay_laws.proofs.Loads.{Reads, reads_later, reads_more}
use Rattle.replay_laws.proofs.Stamps.{IsLate, IsLateEntry, all_both}
use Rattle.session_core.specs.declared.mark.Close.TheVariants.{HungUp}

-- ---- one place of a list that is set
pub set_at : {X : Type 0} (xs : List X) (k : ℕ) (x y : X) → slice_get xs k ≡ Some y → slice_get (set xs k x) k ≡ Some x
set_at [] k x y there = absurd (cc)
set_at (z ∷ xs) zero x y there = refl
set_at (z ∷ xs) (suc k) x y there = set_at xs k x y there

pub set_beside : {X : Type 0} (xs : List X) (k j : ℕ) (x : X) → j ≢ k → slice_get (set xs k x) j ≡ slice_get xs j
set_beside [] k j x other = refl
set_beside (z ∷ xs) zero zero x other = absurd (other refl)
set_beside (z ∷ xs) zero (suc j) x other = refl
set_beside (z ∷ xs) (suc k) zero x other = refl
set_beside (z ∷ xs) (suc k) (suc j) x other = set_beside xs k j x (λ e. other (ap suc e))

pub set_long : {X : Type 0} (xs : List X) (k : ℕ) (x : X) → length (set xs k x) ≡ length xs
set_long [] k x = refl
set_long (z ∷ xs) zero x = refl
set_long (z ∷ xs) (suc k) x = ap suc (set_long xs k x)

-- a property of each number of a list, that the new one has as well
number_set : (P : ℕ → ℕ → Type 0) (xs : List ℕ) (k n : ℕ) → P k n → (j : ℕ) → P j (slice_index xs j) → P j (slice_index (set xs k n) j)
number_set P [] k n new j old = old
number_set P (z ∷ xs) zero n new zero old = new
number_set P (z ∷ xs) zero n new (suc j) old = old
number_set P (z ∷ xs) (suc k) n new zero old = old
number_set P (z ∷ xs) (suc k) n new (suc j) old = number_set (λ i m. P (suc i) m) xs k n new j old

pub at_longer : {X : Type 0} (xs : List X) (x y : X) (j : ℕ) → slice_get (xs ++ x ∷ []) j ≡ Some y → j ≢ length xs → slice_get xs j ≡ Some y
at_longer [] x y zero there other = absurd (other refl)
at_longer [] x y (suc j) there other = absurd (cc)
at_longer (z ∷ xs) x y zero there other = there
at_longer (z ∷ xs) x y (suc j) there other = at_longer xs x y j there (λ e. other (ap suc e))

pub at_last : {X : Type 0} (xs : List X) (x y : X) → slice_get (xs ++ x ∷ []) (length xs) ≡ Some y → x ≡ y
at_last [] x y there = cc
at_last (z ∷ xs) x y there = at_last xs x y there

pub is_within : {X : Type 0} (xs : List X) (k : ℕ) (x : X) → slice_get xs k ≡ Some x → k < length xs
is_within [] k x there = absurd (cc)
is_within (z ∷ xs) zero x there = omega arith
is_within (z ∷ xs) (suc k) x there = let more = is_within xs k x there in omega arith

-- ---- what holds of a state

-- the number that each monitor took last
abbrev pub Lasts : Type 0
Lasts = ℕ → ℕ

-- the samples of a unit reach each of its stores
abbrev Reach : State → ℕ → ℕ → Type 0
Reach state u stores = stores ≤ 13 * length (samples_at u state)

abbrev pub ReadsAt : State → ℕ → MonitorState → Type 0
ReadsAt state last t = Reads (slice_index state.firsts t.unit) (samples_at t.unit state) (slice_index state.stores t.unit) last t.reading

pub record Holds (lasts : Lasts) (state : State) : Type 0 where
  pub before : state.begun ≡ false → state.watches ≡ []
  pub late : AllByRecursion IsLateEntry state.log
  pub reach : (u : ℕ) → Reach state u (slice_index state.stores u)
  pub reads : (m : ℕ) (t : MonitorState) → slice_get state.watches m ≡ Some t → ReadsAt state (lasts m) t
  pub fresh : (m : ℕ) → length state.watches ≤ m → lasts m ≡ 0

-- nothing that it speaks of has changed, but that the script has begun
begun_holds : (lasts : Lasts) (state : State) (clients : List Client) → Holds lasts state → Holds lasts (record state { begun = true; clients = clients })
begun_holds lasts state clients holds = record { before = λ e. absurd (cc); late = holds.late; reach = holds.reach; reads = holds.reads; fresh = holds.fresh }

-- ---- what an event does

-- the numbers that the monitors took last, after these readings
abbrev pub lasts_after : Lasts → List EndedReading → Lasts
lasts_after lasts readings = λ m. last_from (lasts m) (taken_by m readings)

pub record Does (lasts : Lasts) (readings : List EndedReading) (after : State) : Type 0 where
  pub holds : Holds (lasts_after lasts readings) after
  pub published : AllByRecursion IsOfPublished readings
  pub rises : (m : ℕ) → Rises (lasts m) (taken_by m readings)

pub silently : (lasts : Lasts) (after : State) → Holds lasts after → Does lasts [] after
silently lasts after holds = record { holds = record { before = holds.before; late = holds.late; reach = holds.reach; reads = holds.reads; fresh = holds.fresh }; published = tt; rises = λ m. tt }

pub allowed_is : {X : Type 0} (ok : Bool) (x y : X) → allowed ok x ≡ Some y → (ok ≡ true) × (x ≡ y)
allowed_is true x y e = (refl, let same : x ≡ y = cc in same)
allowed_is false x y e = absurd (cc)

pub state_is : (x y : EventEffect) → x ≡ y → x.state ≡ y.state
state_is x y e = ap (λ (z : EventEffect). z.state) e

pub first_true : (a b : Bool) → (a && b) ≡ true → a ≡ true
first_true true b e = refl
first_true false b e = absurd (cc)

-- declarations
pub declares_holds : (lasts : Lasts) (name : List ℕ) (state : State) (e : EventEffect) → declares name state ≡ Some e → Holds lasts state → Holds lasts e.state
unfolding declares
declares_holds lasts name state e is holds =
    subst (Holds lasts) (state_is _ e (allowed_is _ _ e is).1)
    (record { before = holds.before; late = holds.late; reach = holds.reach; reads = holds.reads; fresh = holds.fresh })

pub numbers_holds : (lasts : Lasts) (u first : ℕ) (state : State) (e : EventEffect) → numbers u first state ≡ Some e → Holds lasts state → Holds lasts e.state
unfolding numbers
numbers_holds lasts u first state e is holds =
    let parts = allowed_is (not state.begun && nat_lt u (units_in state)) (quietly (record state { firsts = slice_set state.firsts u first })) e is in
    let none : state.watches ≡ [] = holds.before (not_begun state.begun (first_true (not state.begun) (nat_lt u (units_in state)) parts.0)) in
    subst (Holds lasts) (state_is _ e parts.1)
    (record {
      before = holds.before;
      late = holds.late;
      reach = holds.reach;
      reads = λ m t there. absurd (empty state.watches none m t there);
      fresh = holds.fresh;
    })
  where
    not_begun : (b : Bool) → not b ≡ true → b ≡ false
    not_begun true e = absurd (cc)
    not_begun false e = refl

    empty : (l : List MonitorState) → l ≡ [] → (m : ℕ) (t : MonitorState) → slice_get l m ≡ Some t → ⊥
    empty [] e m t there = cc
    empty (x ∷ l) e m t there = cc

-- entries come
samples_joined : (u : ℕ) (log entries : List Entry) → samples_of u (history (log ++ entries)) ≡ samples_of u (history log) ++ samples_of u (history_after log entries)
samples_joined u log entries = ap (samples_of u) (whole_history log entries) ∙ flat_map-append (λ (r : Report). samples_in u r.device r.body) (history log) (history_after log entries)

came_holds : (lasts : Lasts) (entries : List Entry) (state : State) → AllByRecursion IsLateEntry entries → Holds lasts state → Holds lasts (came entries state)
unfolding came
came_holds lasts entries state late holds =
    record {
      before = λ e. absurd (cc);
      late = all_both IsLateEntry state.log entries holds.late late;
      reach = λ u.
          let joined = ap (λ (l : List Sample). length l) (samples_joined u state.log entries) in
          let parts = length-append (samples_of u (history state.log)) (samples_of u (history_after state.log entries)) in
          let was = holds.reach u in
          omega arith;
      reads = λ m t there.
          subst (λ (l : List Sample). Reads (slice_index state.firsts t.unit) l (slice_index state.stores t.unit) (lasts m) t.reading) (sym (samples_joined t.unit state.log entries))
          (reads_more (slice_index state.firsts t.unit) (samples_at t.unit state) (samples_of t.unit (history_after state.log entries)) (slice_index state.stores t.unit) (lasts m) t.reading (holds.reach t.unit) (holds.reads m t there));
      fresh = holds.fresh;
    }

pub brings_holds : (lasts : Lasts) (d : ℕ) (entries : List Entry) (state : State) (e : EventEffect) → brings d entries state ≡ Some e → AllByRecursion IsLateEntry entries → Holds lasts state → Holds lasts e.state
unfolding brings
brings_holds lasts d entries state e is late holds = subst (Holds lasts) (state_is _ e (allowed_is _ _ e is).1) (came_holds lasts entries state late holds)

pub fed_late : (d : ℕ) (at : Moment) (bytes : List ℕ) → IsLate at → AllByRecursion IsLateEntry (fed d at bytes)
fed_late d at [] late = tt
fed_late d at (byte ∷ bytes) late = (late, fed_late d at bytes late)

-- sessions
pub opens_holds : (lasts : Lasts) (s cap : ℕ) (state : State) (e : EventEffect) → opens s cap state ≡ Some e → Holds lasts state → Holds lasts e.state
unfolding opens
opens_holds lasts s cap state e is holds = subst (Holds lasts) (state_is _ e (allowed_is _ _ e is).1) (begun_holds lasts state (state.clients ++ opened cap state.log ∷ []) holds)

changes_holds : (lasts : Lasts) (s : ℕ) (next : Client → Client) (state : State) (e : EventEffect) → changes s next state ≡ Some e → Holds lasts state → Holds lasts e.state
changes_holds lasts s next state e is holds = by_client (slice_get state.clients s) is
  where
    by_client : (o : Option Client) → option_and_then (λ (c : Client). allowed (is_open c) (quietly (with_client s (next c) state))) o ≡ Some e → Holds lasts e.state
    by_client None is = absurd (cc)
    by_client (Some c) is = subst (Holds lasts) (state_is _ e (allowed_is (is_open c) (quietly (with_client s (next c) state)) e is).1) (begun_holds lasts state (slice_set state.clients s (next c)) holds)

pub hears_holds : (lasts : Lasts) (s : ℕ) (piece : List ℕ) (state : State) (e : EventEffect) → hears s piece state ≡ Some e → Holds lasts state → Holds lasts e.state
unfolding hears
hears_holds lasts s piece state e is holds = changes_holds lasts s (served state.names state.log piece) state e is holds

pub hangs_holds : (lasts : Lasts) (s : ℕ) (state : State) (e : EventEffect) → hangs s state ≡ Some e → Holds lasts state → Holds lasts e.state
unfolding hangs
hangs_holds lasts s state e is holds = changes_holds lasts s (closed state.log HungUp) state e is holds

pub takes_holds : (lasts : Lasts) (s most : ℕ) (state : State) (e : EventEffect) → takes s most state ≡ Some e → Holds lasts state → Holds lasts e.state
unfolding takes
takes_holds lasts s most state e is holds = by_client (slice_get state.clients s) is
  where
    by_client : (o : Option Client)
        → option_map (λ (c : Client). record { state = with_client s (after_take most state.names state.log c) state; written = item_lines s (next_taken most state.names state.log c) }) o ≡ Some e → Holds lasts e.state
    by_client None is = absurd (cc)
    by_client (Some c) is =
        let made : EventEffect = record { state = with_client s (after_take most state.names state.log c) state; written = item_lines s (next_taken most state.names state.log c) } in
        let same : made ≡ e = cc in
        subst (Holds lasts) (state_is made e same) (begun_holds lasts state (slice_set state.clients s (after_take most state.names state.log c)) holds)

-- units
made_within : (first stores : ℕ) (samples : List Sample) → makes_store first samples stores ≡ true → stores ≤ 13 * length samples → stores + 1 ≤ 13 * length samples
unfolding makes_store
made_within first stores samples made reach = by_position (stores % 13 == 0) refl (nat_lt (published_after stores) (length samples)) refl made
  where
    by_position : (b : Bool) → (stores % 13 == 0) ≡ b → (c : Bool) → nat_lt (published_after stores) (length samples) ≡ c → (not b || (c && not (count_after first stores == 2_147_483_646))) ≡ true → stores + 1 ≤ 13 * length samples
    by_position false test c more e = let other = eqb-false (stores % 13) 0 test in omega arith
    by_position true test true more e = let position = eqb-true (stores % 13) 0 test in let few : published_after stores < length samples = grind (arith, nat_tests) in omega arith
    by_position true test false more e = absurd (cc)

next_within : (first stores : ℕ) (samples : List Sample) → stores ≤ 13 * length samples → (stores ≤ stores_next first samples stores) × (stores_next first samples stores ≤ 13 * length samples)
unfolding stores_next
next_within first stores samples reach = by_test (makes_store first samples stores) refl
  where
    by_test : (b : Bool) → makes_store first samples stores ≡ b → (stores ≤ (if b then stores + 1 else stores)) × ((if b then stores + 1 else stores) ≤ 13 * length samples)
    by_test true made = (omega arith, made_within first stores samples made reach)
    by_test false made = (omega arith, reach)

after_within : (steps first stores : ℕ) (samples : List Sample) → stores ≤ 13 * length samples → (stores ≤ stores_after steps first samples stores) × (stores_after steps first samples stores ≤ 13 * length samples)
unfolding stores_after
after_within zero first stores samples reach = (omega arith, reach)
after_within (suc steps) first stores samples reach =
    let next = next_within first stores samples reach in
    let rest = after_within steps first (stores_next first samples stores) samples next.1 in
    let low = next.0 in
    let more = rest.0 in
    (omega arith, rest.1)

pub stores_holds : (lasts : Lasts) (u steps : ℕ) (state : State) (e : EventEffect) → stores u steps state ≡ Some e → Holds lasts state → Holds lasts e.state
unfolding stores
stores_holds lasts u steps state e is holds =
    let number = stores_after steps (slice_index state.firsts u) (samples_at u state) (slice_index state.stores u) in
    let bounds = after_within steps (slice_index state.firsts u) (slice_index state.stores u) (samples_at u state) (holds.reach u) in
    let low : (j : ℕ) → slice_index state.stores j ≤ slice_index (slice_set state.stores u number) j = λ j.
    grown state.stores u number bounds.0 j in
    subst (Holds lasts) (state_is _ e (allowed_is (nat_lt u (units_in state)) (quietly (with_stores u number state)) e is).1)
    (record {
      before = λ e. absurd (cc);
      late = holds.late;
      reach = λ j. number_set (Reach state) state.stores u number bounds.1 j (holds.reach j);
      reads = λ m t there. reads_later (slice_index state.firsts t.unit) (samples_at t.unit state) (slice_index state.stores t.unit) (slice_index (slice_set state.stores u number) t.unit) (lasts m) t.reading (low t.unit) (holds.reads m t there);
      fresh = holds.fresh;
    })
  where
    grown : (xs : List ℕ) (k n : ℕ) → slice_index xs k ≤ n → (j : ℕ) → slice_index xs j ≤ slice_index (slice_set xs k n) j
    grown [] k n up j = omega arith
    grown (x ∷ xs) zero n up zero = up
    grown (x ∷ xs) zero n up (suc j) = omega arith
    grown (x ∷ xs) (suc k) n up zero = omega arith
    grown (x ∷ xs) (suc k) n up (suc j) = grown xs k n up j

-- monitors
pub watches_holds : (lasts : Lasts) (m u : ℕ) (state : State) (e : EventEffect) → watches m u state ≡ Some e → Holds lasts state → Holds lasts e.state
unfolding watches
watches_holds lasts m u state e is holds =
    let new : MonitorState = record { unit = u; reading = [] } in
    subst (Holds lasts) (state_is _ e (allowed_is _ _ e is).1)
    (record {
      before = λ e. absurd (cc);
      late = holds.late;
      reach = holds.reach;
      reads = λ j t there. by_place j t there (j == length state.watches) refl;
      fresh = λ j past. holds.fresh j (let long = length-append state.watches (new ∷ []) in omega arith);
    })
  where
    by_place : (j : ℕ) (t : MonitorState) → slice_get (state.watches ++ record { unit = u; reading = [] } ∷ []) j ≡ Some t → (b : Bool) → (j == length state.watches) ≡ b → ReadsAt state (lasts j) t
    by_place j t there false test = holds.reads j t (at_longer state.watches (record { unit = u; reading = [] }) t j there (eqb-false j (length state.watches) test))
    by_place j t there true test =
        let new : MonitorState = record { unit = u; reading = [] } in
        let here : j ≡ length state.watches = eqb-true j (length state.watches) test in
        let none : lasts j ≡ 0 = holds.fresh j (omega arith) in
        let same : new ≡ t = at_last state.watches new t (ap (λ (k : ℕ). slice_get (state.watches ++ new ∷ []) k) (sym here) ∙ there) in
        subst (ReadsAt state (lasts j)) same (record { low = omega arith; running = tt; short = omega arith })
