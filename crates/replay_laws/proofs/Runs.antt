-- What monitors take over any lines of a script, and what is written of it.
use Rattle.std.proofs.Common.{◌≡◌, ◌≢◌, ℕ, zero, suc, ◌<◌, ◌≤◌, Bool, true, false, cond, List, [], ◌∷◌, ◌++◌, length, map, refl, sym, ap, ◌∙◌, subst, append-nil, append_assoc, arith, Option, Some, None, IfSome, option_map}
use Rattle.std.specs.Prelude.{nat_eq, nat_lt, option_and_then, replicate, slice_get, slice_index, slice_set, unwrap_or}
use Rattle.std.specs.List.{AllByRecursion}
use Rattle.std.proofs.lemmas.Bool.Decides.{nat_tests}
use Rattle.std.proofs.lemmas.List.Concat.{flat_map-append}
use Rattle.shm_segment.specs.declared.view.Numbered.{Numbered}
use Rattle.shm_segment.specs.Rule.{Rises, last_from}
use Rattle.shm_monitor.specs.declared.reading.MonStep.{MonStep}
use Rattle.shm_monitor.specs.declared.reading.MonStep.TheVariants.{Loaded, Done}
use Rattle.shm_monitor.specs.declared.reading.Reading.{Reading}
use Rattle.shm_monitor.specs.declared.reading.Reading.TheVariants.{Taken, NotReady, Clash}
use Rattle.line_cut.specs.Limits.{most}
use Rattle.line_player.specs.Rules.{Effect, effect_within}
use Rattle.book_log.specs.Entries.{edged, ended, fed, lost}
use Rattle.output_lines.specs.Readings.{reading_line}
use Rattle.replay_player.specs.Loads.{reading_after, step_of}
use Rattle.replay_script.specs.Events.{event_in}
use Rattle.replay_script.specs.declared.event.ScriptEvent.{ScriptEvent}
use Rattle.replay_script.specs.declared.event.ScriptEvent.TheVariants.{Nothing, Device, Segment, Feed, Edge, End, Lose, Open, Input, Hang, Take, Monitor, Store, Load}
use Rattle.replay_player.specs.Effects.{EventEffect, effect, load_lines, loads, quietly, reading_after_loads, step_line, with_watch}
use Rattle.replay_player.specs.States.{MonitorState, State, most_units, new_state, samples_at, words_at}
use Rattle.gps_replay.specs.Run.{effect_of, of_line, rules_of}
use Rattle.replay_laws.specs.Readings.{EndedReading, IsOfPublished, TakesPublished, ended_at, ended_by, lines_of, readings_at, readings_at_line, readings_at_load, readings_by, readings_from, readings_in, readings_of, taken_at, taken_by, taken_in}
use Rattle.replay_laws.proofs.Lines.{IsLateEvent, event_is}
use Rattle.replay_laws.proofs.Loads.{LoadsTell, Tells, last_after, loads_tell, pairs_in, rises_on}
use Rattle.replay_laws.proofs.Stamps.{all_both, samples_kept}
use Rattle.replay_laws.proofs.States.{Does, Holds, Lasts, ReadsAt, brings_holds, declares_holds, fed_late, hangs_holds, hears_holds, is_within, lasts_after, numbers_holds, opens_holds, set_at, set_beside, set_long, silently, state_is, stores_holds, takes_holds, watches_holds}

-- what the readings of one monitor take, and what those of another
taken_mine : (m u : ℕ) (state : State) (readings : List Reading) → taken_by m (map (ended_at m u state) readings) ≡ pairs_in readings
taken_mine m u state [] = refl
taken_mine m u state (r ∷ more) =
    let same : nat_eq m m ≡ true = grind (arith, nat_tests) in
    ap (λ (b : Bool). cond b (taken_in r) [] ++ taken_by m (map (ended_at m u state) more)) same ∙ ap (λ (l : List Numbered). taken_in r ++ l) (taken_mine m u state more)

taken_other : (m j u : ℕ) (state : State) (readings : List Reading) → nat_eq m j ≡ false → taken_by j (map (ended_at m u state) readings) ≡ []
taken_other m j u state [] other = refl
taken_other m j u state (r ∷ more) other = ap (λ (b : Bool). cond b (taken_in r) [] ++ taken_by j (map (ended_at m u state) more)) other ∙ taken_other m j u state more other

published_all : (m u : ℕ) (state : State) (readings : List Reading)
    → AllByRecursion (λ (r : Reading). Tells (slice_index state.firsts u) (samples_at u state) (slice_index state.stores u) 0 r) readings → AllByRecursion IsOfPublished (map (ended_at m u state) readings)
published_all m u state [] all = tt
published_all m u state (r ∷ more) all = (one r all.0, published_all m u state more all.1)
  where
    one : (r : Reading) → Tells (slice_index state.firsts u) (samples_at u state) (slice_index state.stores u) 0 r → TakesPublished u state r
    one (Taken pair) tells = tells.0
    one (NotReady count valid) tells = tt
    one (Clash before after) tells = tt

-- a monitor that is there makes loads
module _ (lasts : Lasts) (m steps : ℕ) (state : State) (w : MonitorState) (there : slice_get state.watches m ≡ Some w) (holds : Holds lasts state) where
  abbrev words : List ℕ
  words = words_at w.unit state

  abbrev values : List ℕ
  values = reading_after_loads steps words w.reading

  abbrev readings : List Reading
  readings = readings_in steps words w.reading

  abbrev ended_here : List EndedReading
  ended_here = map (ended_at m w.unit state) readings

  abbrev next : MonitorState
  next = record w { reading = values }

  tell : LoadsTell (slice_index state.firsts w.unit) (samples_at w.unit state) (slice_index state.stores w.unit) (lasts m) readings values
  tell = loads_tell (slice_index state.firsts w.unit) (samples_at w.unit state) (slice_index state.stores w.unit) (holds.reach w.unit) (samples_kept w.unit state.log holds.late)
      steps (lasts m) w.reading (holds.reads m w there)

  -- the monitor itself, and another one
  mine : (t : MonitorState) → slice_get (slice_set state.watches m next) m ≡ Some t → ReadsAt state (lasts_after lasts ended_here m) t
  mine t at =
      let found : slice_get (slice_set state.watches m next) m ≡ Some next = set_at state.watches m next w there in
      let same : next ≡ t = cc in
      subst (λ (l : List Numbered). ReadsAt state (last_from (lasts m) l) t) (sym (taken_mine m w.unit state readings)) (subst (ReadsAt state (last_after (lasts m) readings)) same tell.reads)

  other : (j : ℕ) (t : MonitorState) → nat_eq m j ≡ false → slice_get (slice_set state.watches m next) j ≡ Some t → ReadsAt state (lasts_after lasts ended_here j) t
  other j t test at =
      let apart : j ≢ m = λ e. differs m j test (sym e) in
      subst (λ (l : List Numbered). ReadsAt state (last_from (lasts j) l) t) (sym (taken_other m j w.unit state readings test)) (holds.reads j t (sym (set_beside state.watches m j next apart) ∙ at))
    where
      differs : (i k : ℕ) → nat_eq i k ≡ false → i ≡ k → ⊥
      differs i k test e = let same : nat_eq i k ≡ true = grind (arith, nat_tests) in cc

  either : (j : ℕ) (t : MonitorState) → slice_get (slice_set state.watches m next) j ≡ Some t → (b : Bool) → nat_eq m j ≡ b → ReadsAt state (lasts_after lasts ended_here j) t
  either j t at true test =
      let here : m ≡ j = grind (arith, nat_tests) in
      subst (λ (k : ℕ). slice_get (slice_set state.watches m next) k ≡ Some t → ReadsAt state (lasts_after lasts ended_here k) t) here (mine t) at
  either j t at false test = other j t test at

  fresh_on : (j : ℕ) → length (slice_set state.watches m next) ≤ j → lasts_after lasts ended_here j ≡ 0
  fresh_on j past =
      let long = set_long state.watches m next in
      let within = is_within state.watches m w there in
      let less : m < j = omega arith in
      let apart : nat_eq m j ≡ false = grind (arith, nat_tests) in
      ap (last_from (lasts j)) (taken_other m j w.unit state readings apart) ∙ holds.fresh j (omega arith)

  rises_for : (j : ℕ) (b : Bool) → nat_eq m j ≡ b → Rises (lasts j) (taken_by j ended_here)
  rises_for j true test =
      let here : m ≡ j = grind (arith, nat_tests) in
      subst (λ (k : ℕ). Rises (lasts k) (taken_by k ended_here)) here (subst (Rises (lasts m)) (sym (taken_mine m w.unit state readings)) tell.rises)
  rises_for j false test = subst (Rises (lasts j)) (sym (taken_other m j w.unit state readings test)) tt

  loaded : Does lasts ended_here (with_watch m values w state)
  loaded = record {
    holds = record {
      before = λ e. absurd (cc);
      late = holds.late;
      reach = holds.reach;
      reads = λ j t at. either j t at (nat_eq m j) refl;
      fresh = fresh_on;
    };
    published = published_all m w.unit state readings tell.told;
    rises = λ j. rises_for j (nat_eq m j) refl;
  }

loads_does : (lasts : Lasts) (m steps : ℕ) (state : State) (e : EventEffect) → loads m steps state ≡ Some e → Holds lasts state → Does lasts (readings_at_load m steps state) e.state
unfolding loads
loads_does lasts m steps state e is holds = by_watch (slice_get state.watches m) refl is
  where
    by_watch : (o : Option MonitorState) → slice_get state.watches m ≡ o
        → option_map (λ (w : MonitorState). record {
          state = with_watch m (reading_after_loads steps (words_at w.unit state) w.reading) w state;
          written = load_lines m steps (words_at w.unit state) w.reading;
        }) o ≡ Some e → Does lasts (readings_by m steps state o) e.state
    by_watch None there is = absurd (cc)
    by_watch (Some w) there is =
        let made : EventEffect = record {
          state = with_watch m (reading_after_loads steps (words_at w.unit state) w.reading) w state;
          written = load_lines m steps (words_at w.unit state) w.reading;
        } in
        let same : made ≡ e = cc in
        subst (Does lasts (map (ended_at m w.unit state) (readings_in steps (words_at w.unit state) w.reading))) (state_is made e same) (loaded lasts m steps state w there holds)

-- any event
does : (queue : ℕ) (lasts : Lasts) (state : State) (event : ScriptEvent) (e : EventEffect) → effect queue state event ≡ Some e → IsLateEvent event → Holds lasts state → Does lasts (readings_at state event) e.state
does queue lasts state Nothing e is late holds = silently lasts e.state (subst (Holds lasts) (let same : quietly state ≡ e = cc in state_is (quietly state) e same) holds)
does queue lasts state (Device name) e is late holds = silently lasts e.state (declares_holds lasts name state e is holds)
does queue lasts state (Segment u first) e is late holds = silently lasts e.state (numbers_holds lasts u first state e is holds)
does queue lasts state (Feed d at bytes) e is late holds = silently lasts e.state (brings_holds lasts d (fed d at bytes) state e is (fed_late d at bytes late) holds)
does queue lasts state (Edge d edge) e is late holds = silently lasts e.state (brings_holds lasts d (edged d edge) state e is (late, tt) holds)
does queue lasts state (End d) e is late holds = silently lasts e.state (brings_holds lasts d (ended d) state e is (tt, tt) holds)
does queue lasts state (Lose d) e is late holds = silently lasts e.state (brings_holds lasts d (lost d) state e is (tt, tt) holds)
does queue lasts state (Open s cap) e is late holds = silently lasts e.state (opens_holds lasts s (unwrap_or cap queue) state e is holds)
does queue lasts state (Input s bytes) e is late holds = silently lasts e.state (hears_holds lasts s bytes state e is holds)
does queue lasts state (Hang s) e is late holds = silently lasts e.state (hangs_holds lasts s state e is holds)
does queue lasts state (Take s most) e is late holds = silently lasts e.state (takes_holds lasts s most state e is holds)
does queue lasts state (Monitor m u) e is late holds = silently lasts e.state (watches_holds lasts m u state e is holds)
does queue lasts state (Store u steps) e is late holds = silently lasts e.state (stores_holds lasts u steps state e is holds)
does queue lasts state (Load m steps) e is late holds = loads_does lasts m steps state e is holds

-- ---- any lines

-- an event that is made does what its line does
line_does : (queue : ℕ) (lasts : Lasts) (state : State) (text : List ℕ) (e : Effect State) → effect_within (rules_of queue) state text ≡ Some e → Holds lasts state → Does lasts (readings_at_line state (event_in text)) e.state
unfolding effect_within
line_does queue lasts state text e is holds = by_length (nat_lt (most (rules_of queue).limit) (length text)) is
  where
    by_event : (o : Option ScriptEvent) → IfSome o IsLateEvent → option_map of_line (option_and_then (effect queue state) o) ≡ Some e → Does lasts (readings_at_line state o) e.state
    by_event None late is = absurd (cc)
    by_event (Some event) late is = by_effect (effect queue state event) refl is
      where
        by_effect : (o : Option EventEffect) → effect queue state event ≡ o → option_map of_line o ≡ Some e → Does lasts (readings_at state event) e.state
        by_effect None made is = absurd (cc)
        by_effect (Some x) made is =
            let same : of_line x ≡ e = cc in
            subst (Does lasts (readings_at state event)) (ap (λ (y : Effect State). y.state) same) (does queue lasts state event x made late holds)

    by_length : (b : Bool) → cond b None (effect_of queue state text) ≡ Some e → Does lasts (readings_at_line state (event_in text)) e.state
    by_length true is = absurd (cc)
    by_length false is = by_event (event_in text) (event_is text) is

record Runs (lasts : Lasts) (readings : List EndedReading) : Type 0 where
  published : AllByRecursion IsOfPublished readings
  rises : (m : ℕ) → Rises (lasts m) (taken_by m readings)

taken_joined : (m : ℕ) (one more : List EndedReading) → taken_by m (one ++ more) ≡ taken_by m one ++ taken_by m more
taken_joined m one more = flat_map-append (taken_at m) one more

runs : (queue : ℕ) (texts : List (List ℕ)) (lasts : Lasts) (state : State) → Holds lasts state → Runs lasts (readings_from queue state texts)
unfolding readings_from
runs queue [] lasts state holds = record { published = tt; rises = λ m. tt }
runs queue (text ∷ texts) lasts state holds = by_effect (effect_within (rules_of queue) state text) refl (λ later after held. runs queue texts later after held)
  where
    by_effect : (o : Option (Effect State)) → effect_within (rules_of queue) state text ≡ o
        → ((later : Lasts) (after : State) → Holds later after → Runs later (readings_from queue after texts))
        → Runs lasts (unwrap_or (option_map (λ (e : Effect State). readings_at_line state (event_in text) ++ readings_from queue e.state texts) o) [])
    by_effect None is go_on = record { published = tt; rises = λ m. tt }
    by_effect (Some e) is go_on =
        let one = line_does queue lasts state text e is holds in
        let now : List EndedReading = readings_at_line state (event_in text) in
        let more = go_on (lasts_after lasts now) e.state one.holds in
        let later : List EndedReading = readings_from queue e.state texts in
        record {
          published = all_both IsOfPublished now later one.published more.published;
          rises = λ m. subst (Rises (lasts m)) (sym (taken_joined m now later)) (rises_on (lasts m) (taken_by m now) (taken_by m later) (one.rises m) (more.rises m));
        }

new_holds : Holds (λ m. 0) new_state
new_holds =
    record {
      before = λ e. refl;
      late = tt;
      reach = λ u. (let zero_stores = none u in omega arith);
      reads = λ m t there. absurd (cc);
      fresh = λ m past. refl;
    }
  where
    none : (u : ℕ) → slice_index (replicate most_units 0) u ≡ 0
    none u = all_zero 16 u
      where
        all_zero : (n k : ℕ) → slice_index (replicate n 0) k ≡ 0
        all_zero zero k = refl
        all_zero (suc n) zero = refl
        all_zero (suc n) (suc k) = all_zero n k

pub takes_published : (queue : ℕ) (lines : List (List ℕ)) → AllByRecursion IsOfPublished (readings_of queue lines)
takes_published queue lines = (runs queue lines (λ m. 0) new_state new_holds).published

pub numbers_rise : (queue monitor : ℕ) (lines : List (List ℕ)) → Rises 0 (taken_by monitor (readings_of queue lines))
numbers_rise queue monitor lines = (runs queue lines (λ m. 0) new_state new_holds).rises monitor

-- ---- what is written

step_written : (m u : ℕ) (state : State) (step : MonStep) → step_line m step ≡ lines_of (map (ended_at m u state) (ended_by step))
step_written m u state (Loaded word value) = refl
step_written m u state (Done reading) = sym (append-nil (reading_line m reading))

lines_written : (m u steps : ℕ) (state : State) (words reading : List ℕ) → load_lines m steps words reading ≡ lines_of (map (ended_at m u state) (readings_in steps words reading))
unfolding load_lines readings_in
lines_written m u zero state loaded_words reading = refl
lines_written m u (suc steps) state loaded_words reading =
    let step = step_of loaded_words reading in
    let next = reading_after loaded_words reading in
    let more = readings_in steps loaded_words next in
    (λ i. step_written m u state step i ++ lines_written m u steps state loaded_words next i) ∙ sym (two (ended_by step) more)
  where
    two : (one more : List Reading) → lines_of (map (ended_at m u state) (one ++ more)) ≡ lines_of (map (ended_at m u state) one) ++ lines_of (map (ended_at m u state) more)
    two [] more = refl
    two (r ∷ one) more = ap (λ (l : List ℕ). reading_line m r ++ l) (two one more) ∙ sym (append_assoc (reading_line m r) (lines_of (map (ended_at m u state) one)) (lines_of (map (ended_at m u state) more)))

pub loads_written : (monitor steps : ℕ) (state : State) (e : EventEffect) → loads monitor steps state ≡ Some e → e.written ≡ lines_of (readings_at_load monitor steps state)
unfolding loads
loads_written monitor steps state e is = by_watch (slice_get state.watches monitor) is
  where
    by_watch : (o : Option MonitorState)
        → option_map (λ (w : MonitorState). record {
          state = with_watch monitor (reading_after_loads steps (words_at w.unit state) w.reading) w state;
          written = load_lines monitor steps (words_at w.unit state) w.reading;
        }) o ≡ Some e → e.written ≡ lines_of (readings_by monitor steps state o)
    by_watch None is = absurd (cc)
    by_watch (Some w) is =
        let made : EventEffect = record { state = with_watch monitor (reading_after_loads steps (words_at w.unit state) w.reading) w state; written = load_lines monitor steps (words_at w.unit state) w.reading } in
        let same : made ≡ e = cc in
        sym (ap (λ (x : EventEffect). x.written) same) ∙ lines_written monitor w.unit steps state (words_at w.unit state) w.reading
