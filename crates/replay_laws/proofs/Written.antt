-- What a state has written, and what each event of a script adds.
use Rattle.std.proofs.Common.{◌≡◌, ◌≢◌, ℕ, ◌+◌, ◌^◌, ◌<◌, ◌≤◌, Bool, true, false, not, ◌&&◌, ◌||◌, List, [], ◌∷◌, ◌++◌, length, map, Option, Some, None, option_map, refl, sym, ◌∙◌, subst, append-nil, arith}
use Rattle.std.specs.Prelude.{nat_eq, nat_lt, option_and_then, slice_get, slice_index, slice_set, unwrap_or}
use Rattle.std.specs.List.{AllByRecursion, concat, filter}
use Rattle.std.proofs.lemmas.Bool.{and_parts}
use Rattle.std.proofs.lemmas.Bool.Decides.{nat_tests}
use Rattle.std.proofs.lemmas.List.{length-append}
use Rattle.session_core.specs.declared.mark.Close.TheVariants.{HungUp}
use Rattle.line_cut.specs.Lines.{AreLines}
use Rattle.book_batch.specs.Lines.{line_for}
use Rattle.book_log.specs.Entries.{Entry, edged, ended, fed, lost}
use Rattle.book_log.specs.History.{history}
use Rattle.book_sessions.specs.Roster.{most_live, most_opened}
use Rattle.output_lines.specs.Items.{item_line}
use Rattle.replay_script.specs.declared.event.ScriptEvent.{ScriptEvent}
use Rattle.replay_script.specs.declared.event.ScriptEvent.TheVariants.{Nothing, Device, Segment, Feed, Edge, End, Lose, Open, Input, Hang, Take, Monitor, Store, Load}
use Rattle.replay_player.specs.Clients.{Client, after_take, closed, is_open, kept_of, next_taken, opened, served}
use Rattle.replay_player.specs.Effects.{EventEffect, allowed, brings, changes, declares, effect, hangs, hears, item_lines, loads, most_watches, numbers, opens, quietly, reading_after_loads, stores, stores_after, takes, watches, with_client, with_stores, with_watch, load_lines}
use Rattle.replay_player.specs.States.{MonitorState, State, came, live_in, samples_at, units_in, words_at}
use Rattle.replay_laws.specs.Outputs.{is_other_line}
use Rattle.replay_laws.specs.Readings.{EndedReading, is_by, line_of, readings_at, readings_at_load, readings_by, readings_in}
use Rattle.replay_laws.proofs.Apart.{IsApart, all_taken}
use Rattle.replay_laws.proofs.Growing.{GoesOn, IsInside, closed_run_on, served_on}
use Rattle.replay_laws.proofs.Runs.{loads_written}
use Rattle.replay_laws.proofs.States.{allowed_is, first_true, is_within, set_long}
use Rattle.replay_laws.proofs.Chosen.{HasLowMonitor, concat_map, items_lines, items_no_monitor, items_no_other, items_other, joined_rows, lines_joined, low_monitors, monitor_rows, readings_chosen, readings_lines, readings_no_other, readings_no_session}
use Rattle.replay_laws.proofs.Sessions.{Told, kept_apart, told_further, told_taken, Sessions, low_session, beside, unborn, all_told, set_one, added}

-- ---- a state

pub record Wrote (state : State) (rows : List (List ℕ)) : Type 0 where
  pub before : state.begun ≡ false → state.clients ≡ []
  pub monitors : length state.watches ≤ 64
  pub sessions : Sessions state.names state.log state.clients rows
  pub lines : AreLines rows
  pub others : filter is_other_line rows ≡ []

-- what an event writes, and the readings that it ends
pub record Adds (rows : List (List ℕ)) (readings : List EndedReading) (e : EventEffect) : Type 0 where
  pub more : List (List ℕ)
  pub written : e.written ≡ concat more
  pub wrote : Wrote e.state (rows ++ more)
  pub readings_are : (m : ℕ) → m < 2 ^ 64 → monitor_rows m more ≡ map line_of (filter (is_by m) readings)

silent : (rows : List (List ℕ)) (state : State) (e : EventEffect) → quietly state ≡ e → Wrote state rows → Adds rows [] e
silent rows state e is wrote =
    subst (Adds rows []) is (record {
      more = [];
      written = refl;
      wrote = subst (Wrote state) (sym (append-nil rows)) wrote;
      readings_are = λ m low. refl;
    })

not_begun : (b c : Bool) → (not b && c) ≡ true → b ≡ false
not_begun true c e = absurd (cc)
not_begun false c e = refl

declares_adds : (rows : List (List ℕ)) (name : List ℕ) (state : State) (e : EventEffect) → declares name state ≡ Some e → Wrote state rows → Adds rows [] e
unfolding declares
declares_adds rows name state e is wrote =
    let parts = allowed_is _ (quietly (record state { names = state.names ++ name ∷ [] })) e is in
    let fresh : state.begun ≡ false = not_begun state.begun _ (first_true _ _ parts.0) in
    silent rows (record state { names = state.names ++ name ∷ [] }) e parts.1
    (record {
      before = wrote.before;
      monitors = wrote.monitors;
      sessions = unborn state.names (state.names ++ name ∷ []) state.log state.clients rows (wrote.before fresh) wrote.sessions;
      lines = wrote.lines;
      others = wrote.others;
    })

numbers_adds : (rows : List (List ℕ)) (u first : ℕ) (state : State) (e : EventEffect) → numbers u first state ≡ Some e → Wrote state rows → Adds rows [] e
unfolding numbers
numbers_adds rows u first state e is wrote =
    silent rows (record state { firsts = slice_set state.firsts u first }) e (allowed_is _ (quietly (record state { firsts = slice_set state.firsts u first })) e is).1
    (record { before = wrote.before; monitors = wrote.monitors; sessions = wrote.sessions; lines = wrote.lines; others = wrote.others })

pub came_wrote : (rows : List (List ℕ)) (entries : List Entry) (state : State) → Wrote state rows → Wrote (came entries state) rows
unfolding came
came_wrote rows entries state wrote =
    record {
      before = λ e. absurd (cc);
      monitors = wrote.monitors;
      sessions = all_told state.names state.log entries state.clients rows wrote.sessions;
      lines = wrote.lines;
      others = wrote.others;
    }

brings_adds : (rows : List (List ℕ)) (d : ℕ) (entries : List Entry) (state : State) (e : EventEffect) → brings d entries state ≡ Some e → Wrote state rows → Adds rows [] e
unfolding brings
brings_adds rows d entries state e is wrote =
    silent rows (came entries state) e (allowed_is _ (quietly (came entries state)) e is).1 (came_wrote rows entries state wrote)

no_part : (a b : Bool) → not (a || b) ≡ true → b ≡ false
no_part true b e = absurd (cc)
no_part false true e = absurd (cc)
no_part false false e = refl

fewer : (n : ℕ) → n ≤ 100_000 → nat_eq n most_opened ≡ false → n < 100_000
fewer n most test = let other : n ≢ 100_000 = (λ e. differs e test) in omega (arith, most, other)
  where
    differs : n ≡ 100_000 → nat_eq n most_opened ≡ false → ⊥
    differs e test = let same : nat_eq n most_opened ≡ true = grind (arith, nat_tests) in cc

opens_adds : (rows : List (List ℕ)) (s cap : ℕ) (state : State) (e : EventEffect) → opens s cap state ≡ Some e → Wrote state rows → Adds rows [] e
unfolding opens
opens_adds rows s cap state e is wrote =
    let next : State = record state { begun = true; clients = state.clients ++ opened cap state.log ∷ [] } in
    let test : Bool = not (nat_eq (live_in state) most_live || nat_eq (length state.clients) most_opened) in
    let parts : ((nat_eq s (length state.clients) && test) ≡ true) × (quietly next ≡ e) = allowed_is (nat_eq s (length state.clients) && test) (quietly next) e is in
    let both : (nat_eq s (length state.clients) ≡ true) × (test ≡ true) = and_parts (nat_eq s (length state.clients)) test parts.0 in
    let free : nat_eq (length state.clients) most_opened ≡ false = no_part (nat_eq (live_in state) most_live) (nat_eq (length state.clients) most_opened) both.1 in
    silent rows next e parts.1
    (record {
      before = λ e. absurd (cc);
      monitors = wrote.monitors;
      sessions = added state.names state.log state.clients rows cap (fewer (length state.clients) wrote.sessions.count free) wrote.sessions;
      lines = wrote.lines;
      others = wrote.others;
    })

changes_adds : (rows : List (List ℕ)) (s : ℕ) (f : Client → Client) (state : State) (e : EventEffect) → changes s f state ≡ Some e
    → ((c : Client) → is_open c ≡ true → IsInside (history state.log) c.run → GoesOn (line_for state.names) (history state.log) (history state.log) c.run (f c).run)
    → ((c : Client) → (f c).taken ≡ c.taken) → Wrote state rows → Adds rows [] e
changes_adds rows s f state e is goes same wrote = by_client (slice_get state.clients s) refl is
  where
    by_client : (o : Option Client) → slice_get state.clients s ≡ o → option_and_then (λ (c : Client). allowed (is_open c) (quietly (with_client s (f c) state))) o ≡ Some e → Adds rows [] e
    by_client None there is = absurd (cc)
    by_client (Some c) there is =
        let parts = allowed_is (is_open c) (quietly (with_client s (f c) state)) e is in
        let was : Told state.names state.log rows s c = wrote.sessions.told s c there in
        let now : Told state.names state.log rows s (f c) = told_further state.names state.log state.log rows s c (f c) (goes c parts.0 was.inside) (same c) was in
        let longer : Told state.names state.log (rows ++ []) s (f c) = subst (λ (l : List (List ℕ)). Told state.names state.log l s (f c)) (sym (append-nil rows)) now in
        let all : Sessions state.names state.log (slice_set state.clients s (f c)) (rows ++ []) =
        set_one state.names state.log state.clients rows [] s c (f c) there longer (λ j low apart. refl) wrote.sessions in
        silent rows (with_client s (f c) state) e parts.1
        (record {
          before = λ e. absurd (cc);
          monitors = wrote.monitors;
          sessions = subst (Sessions state.names state.log (slice_set state.clients s (f c))) (append-nil rows) all;
          lines = wrote.lines;
          others = wrote.others;
        })

served_keeps : (names : List (List ℕ)) (log : List Entry) (piece : List ℕ) (c : Client) → (served names log piece c).taken ≡ c.taken
unfolding served
served_keeps names log piece c = refl

hears_adds : (rows : List (List ℕ)) (s : ℕ) (piece : List ℕ) (state : State) (e : EventEffect) → hears s piece state ≡ Some e → Wrote state rows → Adds rows [] e
unfolding hears
hears_adds rows s piece state e is wrote =
    changes_adds rows s (served state.names state.log piece) state e is (served_on state.names state.log piece) (served_keeps state.names state.log piece) wrote

hangs_adds : (rows : List (List ℕ)) (s : ℕ) (state : State) (e : EventEffect) → hangs s state ≡ Some e → Wrote state rows → Adds rows [] e
unfolding hangs
hangs_adds rows s state e is wrote =
    changes_adds rows s (closed state.log HungUp) state e is (λ c free inside. closed_run_on state.names state.log HungUp c inside) (λ c. refl) wrote

takes_adds : (rows : List (List ℕ)) (s most : ℕ) (state : State) (e : EventEffect) → takes s most state ≡ Some e → Wrote state rows → Adds rows [] e
unfolding takes
takes_adds rows s most state e is wrote = by_client (slice_get state.clients s) refl is
  where
    by_client : (o : Option Client) → slice_get state.clients s ≡ o
        → option_map (λ (c : Client). record { state = with_client s (after_take most state.names state.log c) state; written = item_lines s (next_taken most state.names state.log c) }) o ≡ Some e
        → Adds rows [] e
    by_client None there is = absurd (cc)
    by_client (Some c) there is =
        let items : List (List ℕ) = next_taken most state.names state.log c in
        let next : Client = after_take most state.names state.log c in
        let made : EventEffect = record { state = with_client s next state; written = item_lines s items } in
        let same : made ≡ e = cc in
        let low : s < 2 ^ 64 = low_session state.clients s c wrote.sessions.count there in
        let told : Told state.names state.log rows s c = wrote.sessions.told s c there in
        let apart : AllByRecursion IsApart items = all_taken IsApart most (kept_of state.names state.log c) (kept_apart state.names state.log rows s c told) in
        subst (Adds rows []) same (record {
          more = map (item_line s) items;
          written = sym (concat_map (item_line s) items);
          wrote = record {
            before = λ e. absurd (cc);
            monitors = wrote.monitors;
            sessions = set_one state.names state.log state.clients rows (map (item_line s) items) s c next there
                (told_taken state.names state.log rows s most c low (wrote.sessions.told s c there))
                (λ j high apart. items_other j s items high low apart) wrote.sessions;
            lines = lines_joined rows (map (item_line s) items) wrote.lines (items_lines s items);
            others = joined_rows is_other_line rows (map (item_line s) items) (items_no_other s items apart) ∙ wrote.others;
          };
          readings_are = λ m low. items_no_monitor m s items;
        })

stores_adds : (rows : List (List ℕ)) (u steps : ℕ) (state : State) (e : EventEffect) → stores u steps state ≡ Some e → Wrote state rows → Adds rows [] e
unfolding stores
stores_adds rows u steps state e is wrote =
    let next : State = with_stores u (stores_after steps (slice_index state.firsts u) (samples_at u state) (slice_index state.stores u)) state in
    silent rows next e (allowed_is (nat_lt u (units_in state)) (quietly next) e is).1
    (record { before = λ e. absurd (cc); monitors = wrote.monitors; sessions = wrote.sessions; lines = wrote.lines; others = wrote.others })

watches_adds : (rows : List (List ℕ)) (m u : ℕ) (state : State) (e : EventEffect) → watches m u state ≡ Some e → Wrote state rows → Adds rows [] e
unfolding watches
watches_adds rows m u state e is wrote =
    let new : MonitorState = record { unit = u; reading = [] } in
    let next : State = record state { begun = true; watches = state.watches ++ new ∷ [] } in
    let one : Bool = nat_eq m (length state.watches) in
    let two : Bool = nat_lt (length state.watches) most_watches in
    let parts : ((one && two && nat_lt u (units_in state)) ≡ true) × (quietly next ≡ e) = allowed_is (one && two && nat_lt u (units_in state)) (quietly next) e is in
    let most : ((one && two) ≡ true) × (nat_lt u (units_in state) ≡ true) = and_parts (one && two) (nat_lt u (units_in state)) parts.0 in
    let both : (one ≡ true) × (two ≡ true) = and_parts one two most.0 in
    let test : nat_lt (length state.watches) most_watches ≡ true = both.1 in
    let room : length state.watches < 64 = grind (arith, nat_tests) in
    let long : length (state.watches ++ new ∷ []) ≡ length state.watches + 1 = length-append state.watches (new ∷ []) in
    silent rows next e parts.1
    (record { before = λ e. absurd (cc); monitors = omega (arith, long, room); sessions = wrote.sessions; lines = wrote.lines; others = wrote.others })

loads_wrote : (rows : List (List ℕ)) (m steps : ℕ) (state : State) (e : EventEffect) → loads m steps state ≡ Some e → Wrote state rows
    → Wrote e.state (rows ++ map line_of (readings_at_load m steps state))
unfolding loads
loads_wrote rows m steps state e is wrote = by_watch (slice_get state.watches m) is
  where
    more : List (List ℕ)
    more = map line_of (readings_at_load m steps state)

    by_watch : (o : Option MonitorState)
        → option_map (λ (w : MonitorState). record {
          state = with_watch m (reading_after_loads steps (words_at w.unit state) w.reading) w state;
          written = load_lines m steps (words_at w.unit state) w.reading;
        }) o ≡ Some e → Wrote e.state (rows ++ more)
    by_watch None is = absurd (cc)
    by_watch (Some w) is =
        let values : List ℕ = reading_after_loads steps (words_at w.unit state) w.reading in
        let made : EventEffect = record { state = with_watch m values w state; written = load_lines m steps (words_at w.unit state) w.reading } in
        let same : made ≡ e = cc in
        let long : length (slice_set state.watches m (record w { reading = values })) ≡ length state.watches = set_long state.watches m (record w { reading = values }) in
        subst (λ (x : EventEffect). Wrote x.state (rows ++ more)) same (record {
          before = λ e. absurd (cc);
          monitors = omega (arith, long, wrote.monitors);
          sessions = beside state.names state.log state.clients rows more (λ s low. readings_no_session s (readings_at_load m steps state)) wrote.sessions;
          lines = lines_joined rows more wrote.lines (readings_lines (readings_at_load m steps state));
          others = joined_rows is_other_line rows more (readings_no_other (readings_at_load m steps state)) ∙ wrote.others;
        })

loads_adds : (rows : List (List ℕ)) (m steps : ℕ) (state : State) (e : EventEffect) → loads m steps state ≡ Some e → Wrote state rows → Adds rows (readings_at_load m steps state) e
loads_adds rows m steps state e is wrote =
    let readings : List EndedReading = readings_at_load m steps state in
    record {
      more = map line_of readings;
      written = loads_written m steps state e is ∙ sym (concat_map line_of readings);
      wrote = loads_wrote rows m steps state e is wrote;
      readings_are = λ k low. readings_chosen k readings low (low_ones (slice_get state.watches m) refl);
    }
  where
    low_ones : (o : Option MonitorState) → slice_get state.watches m ≡ o → AllByRecursion HasLowMonitor (readings_by m steps state o)
    low_ones None there = tt
    low_ones (Some w) there =
        let within : m < length state.watches = is_within state.watches m w there in
        low_monitors m w.unit state (readings_in steps (words_at w.unit state) w.reading) (omega (arith, within, wrote.monitors))

pub event_adds : (queue : ℕ) (rows : List (List ℕ)) (state : State) (event : ScriptEvent) (e : EventEffect) → effect queue state event ≡ Some e → Wrote state rows
    → Adds rows (readings_at state event) e
event_adds queue rows state Nothing e is wrote = silent rows state e (let same : quietly state ≡ e = cc in same) wrote
event_adds queue rows state (Device name) e is wrote = declares_adds rows name state e is wrote
event_adds queue rows state (Segment u first) e is wrote = numbers_adds rows u first state e is wrote
event_adds queue rows state (Feed d at bytes) e is wrote = brings_adds rows d (fed d at bytes) state e is wrote
event_adds queue rows state (Edge d edge) e is wrote = brings_adds rows d (edged d edge) state e is wrote
event_adds queue rows state (End d) e is wrote = brings_adds rows d (ended d) state e is wrote
event_adds queue rows state (Lose d) e is wrote = brings_adds rows d (lost d) state e is wrote
event_adds queue rows state (Open s cap) e is wrote = opens_adds rows s (unwrap_or cap queue) state e is wrote
event_adds queue rows state (Input s bytes) e is wrote = hears_adds rows s bytes state e is wrote
event_adds queue rows state (Hang s) e is wrote = hangs_adds rows s state e is wrote
event_adds queue rows state (Take s most) e is wrote = takes_adds rows s most state e is wrote
event_adds queue rows state (Monitor m u) e is wrote = watches_adds rows m u state e is wrote
event_adds queue rows state (Store u steps) e is wrote = stores_adds rows u steps state e is wrote
event_adds queue rows state (Load m steps) e is wrote = loads_adds rows m steps state e is wrote
