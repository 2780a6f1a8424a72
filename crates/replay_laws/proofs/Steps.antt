-- What each event of a script makes of its sessions.
use Rattle.std.proofs.Common.{◌≡◌, ◌≢◌, ◌⊎◌, inl, inr, ℕ, ◌+◌, ◌<◌, ◌≤◌, Bool, true, false, not, ◌&&◌, ◌||◌, List, [], ◌∷◌, ◌++◌, length, Option, Some, None, option_map, refl, sym, ap, ◌∙◌, subst, append-nil, arith}
use Rattle.std.specs.Prelude.{◌==◌, cond, nat_eq, nat_lt, option_and_then, slice_get, slice_index, slice_set, unwrap_or}
use Rattle.std.proofs.lemmas.Bool.{and_parts, eqb-true, eqb-false}
use Rattle.std.proofs.lemmas.Bool.Decides.{nat_tests}
use Rattle.std.proofs.lemmas.List.{length-append, length-map}
use Rattle.session_core.specs.declared.mark.Close.TheVariants.{HungUp}
use Rattle.book_log.specs.Entries.{Entry}
use Rattle.book_log.specs.History.{history_after}
use Rattle.book_sessions.specs.Roster.{most_live, most_opened}
use Rattle.replay_script.specs.declared.event.ScriptEvent.{ScriptEvent}
use Rattle.replay_script.specs.declared.event.ScriptEvent.TheVariants.{Nothing, Device, Segment, Feed, Edge, End, Lose, Open, Input, Hang, Take, Monitor, Store, Load}
use Rattle.replay_player.specs.Clients.{Client, after_take, closed, is_open, next_taken, opened, served, told}
use Rattle.replay_player.specs.Effects.{EventEffect, allowed, brings, declares, effect, hangs, hears, item_lines, load_lines, loads, most_devices, most_watches, numbers, opens, quietly, reading_after_loads, stores, stores_after, takes, watches, with_client, with_stores, with_watch}
use Rattle.replay_player.specs.States.{MonitorState, State, came, live_in, samples_at, units_in, words_at}
use Rattle.replay_laws.specs.Accounts.{entries_by, sent_by}
use Rattle.replay_laws.proofs.Sessions.{Mapped, at_mapped}
use Rattle.replay_laws.proofs.States.{allowed_is, at_last, at_longer, first_true, is_within, set_at, set_beside, set_long, state_is}

-- whether an event hangs session s up
abbrev pub hangs_up : ℕ → ScriptEvent → Bool
hangs_up s (Hang t) = nat_eq t s
hangs_up s event = false

-- ---- what becomes of one session

-- at most its items are taken
pub record Keeps (event : ScriptEvent) (state next : State) (s : ℕ) (c d : Client) : Type 0 where
  pub log : next.log ≡ state.log
  pub run : d.run ≡ c.run
  pub cap : d.cap ≡ c.cap
  pub heard : d.heard ≡ c.heard
  pub unsent : sent_by s event ≡ []
  pub unhung : hangs_up s event ≡ false

-- reports come
pub record IsTold (event : ScriptEvent) (state next : State) (s : ℕ) (c d : Client) : Type 0 where
  pub log : next.log ≡ state.log ++ entries_by event
  pub is : told state.names state.log (history_after state.log (entries_by event)) c ≡ d
  pub unsent : sent_by s event ≡ []
  pub unhung : hangs_up s event ≡ false

-- it gets a piece of input
pub record IsServed (event : ScriptEvent) (state next : State) (s : ℕ) (c d : Client) : Type 0 where
  pub log : next.log ≡ state.log
  pub bytes : List ℕ
  pub event_is : event ≡ Input s bytes
  pub free : is_open c ≡ true
  pub is : served state.names state.log bytes c ≡ d

-- it is hung up
pub record IsHung (event : ScriptEvent) (state next : State) (s : ℕ) (c d : Client) : Type 0 where
  pub log : next.log ≡ state.log
  pub event_is : event ≡ Hang s
  pub free : is_open c ≡ true
  pub is : closed state.log HungUp c ≡ d

abbrev pub Way : ScriptEvent → State → State → ℕ → Client → Client → Type 0
Way event state next s c d = (Keeps event state next s c d ⊎ IsTold event state next s c d) ⊎ (IsServed event state next s c d ⊎ IsHung event state next s c d)

-- it was there before
pub record Was (event : ScriptEvent) (state next : State) (s : ℕ) (d : Client) : Type 0 where
  pub c : Client
  pub there : slice_get state.clients s ≡ Some c
  pub names : next.names ≡ state.names
  pub way : Way event state next s c d

-- it is new
pub record IsNew (queue : ℕ) (event : ScriptEvent) (state next : State) (s : ℕ) (d : Client) : Type 0 where
  pub log : next.log ≡ state.log
  pub names : next.names ≡ state.names
  pub cap : Option ℕ
  pub event_is : event ≡ Open s cap
  pub past : length state.clients ≤ s
  pub is : opened (unwrap_or cap queue) state.log ≡ d

pub record Beyond (event : ScriptEvent) (state : State) (s : ℕ) : Type 0 where
  pub past : length state.clients ≤ s
  pub unsent : sent_by s event ≡ []
  pub unhung : hangs_up s event ≡ false

pub record Step (queue : ℕ) (event : ScriptEvent) (state next : State) : Type 0 where
  pub log : next.log ≡ state.log ++ entries_by event
  pub few : length state.names ≤ 8 → length next.names ≤ 8
  pub fresh : next.begun ≡ false → next.clients ≡ []
  pub how : (s : ℕ) (d : Client) → slice_get next.clients s ≡ Some d → Was event state next s d ⊎ IsNew queue event state next s d
  pub beyond : (s : ℕ) → length next.clients ≤ s → Beyond event state s

-- an event that is of no session and brings nothing
pub record IsPlain (event : ScriptEvent) : Type 0 where
  pub entries : entries_by event ≡ []
  pub unsent : (s : ℕ) → sent_by s event ≡ []
  pub unhung : (s : ℕ) → hangs_up s event ≡ false

plain_step : (queue : ℕ) (event : ScriptEvent) (state next : State) → IsPlain event → next.log ≡ state.log → next.clients ≡ state.clients → next.names ≡ state.names
    → (next.begun ≡ false → next.clients ≡ []) → Step queue event state next
plain_step queue event state next plain log clients names fresh =
    record {
      log = log ∙ sym (append-nil state.log) ∙ ap (λ (l : List Entry). state.log ++ l) (sym plain.entries);
      few = λ low. subst (λ (l : List (List ℕ)). length l ≤ 8) (sym names) low;
      fresh = fresh;
      how = λ s d there. inl (record {
        c = d;
        there = ap (λ (l : List Client). slice_get l s) (sym clients) ∙ there;
        names = names;
        way = inl (inl (record { log = log; run = refl; cap = refl; heard = refl; unsent = plain.unsent s; unhung = plain.unhung s }));
      });
      beyond = λ s past. record { past = subst (λ (l : List Client). length l ≤ s) clients past; unsent = plain.unsent s; unhung = plain.unhung s };
    }

by_state : (queue : ℕ) (event : ScriptEvent) (state next : State) (e : EventEffect) → quietly next ≡ e → Step queue event state next → Step queue event state e.state
by_state queue event state next e is step = subst (Step queue event state) (state_is (quietly next) e is) step

-- ---- declarations

no_one : (clients : List Client) → clients ≡ [] → (s : ℕ) (d : Client) → slice_get clients s ≡ Some d → ⊥
no_one [] e s d there = cc
no_one (x ∷ clients) e s d there = cc

not_begun : (b : Bool) → not b ≡ true → b ≡ false
not_begun true e = absurd (cc)
not_begun false e = refl

one_more : (names : List (List ℕ)) (name : List ℕ) → nat_lt (length names) most_devices ≡ true → length (names ++ name ∷ []) ≤ 8
one_more names name test =
    let less : length names < 8 = grind (arith, nat_tests) in
    let long : length (names ++ name ∷ []) ≡ length names + 1 = length-append names (name ∷ []) in
    omega (arith, less, long)

declares_step : (queue : ℕ) (name : List ℕ) (state : State) (e : EventEffect) → declares name state ≡ Some e → (state.begun ≡ false → state.clients ≡ [])
    → Step queue (Device name) state e.state
unfolding declares
declares_step queue name state e is fresh =
    let next : State = record state { names = state.names ++ name ∷ [] } in
    let parts = allowed_is _ (quietly next) e is in
    let free : (not state.begun && nat_lt (length state.names) most_devices) ≡ true = first_true _ _ parts.0 in
    let both : (not state.begun ≡ true) × (nat_lt (length state.names) most_devices ≡ true) = and_parts (not state.begun) (nat_lt (length state.names) most_devices) free in
    let none : state.clients ≡ [] = fresh (not_begun state.begun both.0) in
    by_state queue (Device name) state next e parts.1
    (record {
      log = sym (append-nil state.log);
      few = λ low. one_more state.names name both.1;
      fresh = fresh;
      how = λ s d there. absurd (no_one state.clients none s d there);
      beyond = λ s past. record { past = past; unsent = refl; unhung = refl };
    })

numbers_step : (queue u first : ℕ) (state : State) (e : EventEffect) → numbers u first state ≡ Some e → (state.begun ≡ false → state.clients ≡ [])
    → Step queue (Segment u first) state e.state
unfolding numbers
numbers_step queue u first state e is fresh =
    let next : State = record state { firsts = slice_set state.firsts u first } in
    by_state queue (Segment u first) state next e (allowed_is _ (quietly next) e is).1
    (plain_step queue (Segment u first) state next (record { entries = refl; unsent = λ s. refl; unhung = λ s. refl }) refl refl refl fresh)

-- ---- entries

pub came_step : (queue : ℕ) (event : ScriptEvent) (state : State) → ((s : ℕ) → sent_by s event ≡ []) → ((s : ℕ) → hangs_up s event ≡ false)
    → Step queue event state (came (entries_by event) state)
unfolding came
came_step queue event state unsent unhung =
    let f : Client → Client = told state.names state.log (history_after state.log (entries_by event)) in
    record {
      log = refl;
      few = λ low. low;
      fresh = λ e. absurd (cc);
      how = λ s d there.
          (let m : Mapped f state.clients s d = at_mapped f state.clients s d there in
          inl (record { c = m.from; there = m.there; names = refl; way = inl (inr (record { log = refl; is = m.is; unsent = unsent s; unhung = unhung s })) }));
      beyond = λ s past. record { past = subst (λ (n : ℕ). n ≤ s) (length-map state.clients f) past; unsent = unsent s; unhung = unhung s };
    }

brings_step : (queue d : ℕ) (event : ScriptEvent) (state : State) (e : EventEffect) → brings d (entries_by event) state ≡ Some e → ((s : ℕ) → sent_by s event ≡ [])
    → ((s : ℕ) → hangs_up s event ≡ false) → Step queue event state e.state
unfolding brings
brings_step queue d event state e is unsent unhung =
    by_state queue event state (came (entries_by event) state) e (allowed_is _ (quietly (came (entries_by event) state)) e is).1 (came_step queue event state unsent unhung)

-- ---- sessions

opens_step : (queue t : ℕ) (cap : Option ℕ) (state : State) (e : EventEffect) → opens t (unwrap_or cap queue) state ≡ Some e → Step queue (Open t cap) state e.state
unfolding opens
opens_step queue t cap state e is =
    let new : Client = opened (unwrap_or cap queue) state.log in
    let next : State = record state { begun = true; clients = state.clients ++ new ∷ [] } in
    let test : Bool = not (nat_eq (live_in state) most_live || nat_eq (length state.clients) most_opened) in
    let parts : ((nat_eq t (length state.clients) && test) ≡ true) × (quietly next ≡ e) = allowed_is (nat_eq t (length state.clients) && test) (quietly next) e is in
    let number : nat_eq t (length state.clients) ≡ true = first_true (nat_eq t (length state.clients)) test parts.0 in
    let at : t ≡ length state.clients = grind (arith, nat_tests) in
    by_state queue (Open t cap) state next e parts.1 (stepped new at refl)
  where
    stepped : (new : Client) → t ≡ length state.clients → opened (unwrap_or cap queue) state.log ≡ new
        → Step queue (Open t cap) state (record state { begun = true; clients = state.clients ++ new ∷ [] })
    stepped new at made =
        let next : State = record state { begun = true; clients = state.clients ++ new ∷ [] } in
        let long : length (state.clients ++ new ∷ []) ≡ length state.clients + 1 = length-append state.clients (new ∷ []) in
        record {
          log = sym (append-nil state.log);
          few = λ low. low;
          fresh = λ e. absurd (cc);
          how = λ s d there. by_place s d there (s == length state.clients) refl;
          beyond = λ s past. record { past = omega (arith, long, past); unsent = refl; unhung = refl };
        }
      where
        by_place : (s : ℕ) (d : Client) → slice_get (state.clients ++ new ∷ []) s ≡ Some d → (b : Bool) → (s == length state.clients) ≡ b
            → Was (Open t cap) state (record state { begun = true; clients = state.clients ++ new ∷ [] }) s d
            ⊎ IsNew queue (Open t cap) state (record state { begun = true; clients = state.clients ++ new ∷ [] }) s d
        by_place s d there true test =
            let here : s ≡ length state.clients = eqb-true s (length state.clients) test in
            let same : t ≡ s = at ∙ sym here in
            let last : slice_get (state.clients ++ new ∷ []) (length state.clients) ≡ Some d = ap (λ (k : ℕ). slice_get (state.clients ++ new ∷ []) k) (sym here) ∙ there in
            inr (record {
              log = refl;
              names = refl;
              cap = cap;
              event_is = ap (λ (k : ℕ). Open k cap) same;
              past = omega (arith, here);
              is = made ∙ at_last state.clients new d last;
            })
        by_place s d there false test =
            inl (record {
              c = d;
              there = at_longer state.clients new d s there (eqb-false s (length state.clients) test);
              names = refl;
              way = inl (inl (record { log = refl; run = refl; cap = refl; heard = refl; unsent = refl; unhung = refl }));
            })

-- one session becomes another
one_step : (queue : ℕ) (event : ScriptEvent) (t : ℕ) (c new : Client) (state : State) → slice_get state.clients t ≡ Some c → entries_by event ≡ []
    → Way event state (with_client t new state) t c new → ((s : ℕ) → nat_eq t s ≡ false → (sent_by s event ≡ []) × (hangs_up s event ≡ false))
    → Step queue event state (with_client t new state)
one_step queue event t c new state there none way others =
    let long : length (slice_set state.clients t new) ≡ length state.clients = set_long state.clients t new in
    let within : t < length state.clients = is_within state.clients t c there in
    record {
      log = sym (append-nil state.log) ∙ ap (λ (l : List Entry). state.log ++ l) (sym none);
      few = λ low. low;
      fresh = λ e. absurd (cc);
      how = λ s d at. inl (by_place s d at (nat_eq t s) refl);
      beyond = λ s past.
          (let apart : nat_eq t s ≡ false = (let less : t < s = omega (arith, long, within, past) in grind (arith, nat_tests)) in
          record { past = omega (arith, long, past); unsent = (others s apart).0; unhung = (others s apart).1 });
    }
  where
    by_place : (s : ℕ) (d : Client) → slice_get (slice_set state.clients t new) s ≡ Some d → (b : Bool) → nat_eq t s ≡ b → Was event state (with_client t new state) s d
    by_place s d at true test =
        let here : t ≡ s = grind (arith, nat_tests) in
        let found : slice_get (slice_set state.clients t new) t ≡ Some new = set_at state.clients t new c there in
        let moved : slice_get (slice_set state.clients t new) t ≡ Some d = ap (λ (k : ℕ). slice_get (slice_set state.clients t new) k) here ∙ at in
        let same : new ≡ d = cc in
        let now : Was event state (with_client t new state) t new = record { c = c; there = there; names = refl; way = way } in
        subst (λ (k : ℕ). Was event state (with_client t new state) k d) here (subst (Was event state (with_client t new state) t) same now)
    by_place s d at false test =
        let apart : s ≢ t = λ e. differs s test e in
        record {
          c = d;
          there = sym (set_beside state.clients t s new apart) ∙ at;
          names = refl;
          way = inl (inl (record { log = refl; run = refl; cap = refl; heard = refl; unsent = (others s test).0; unhung = (others s test).1 }));
        }
      where
        differs : (k : ℕ) → nat_eq t k ≡ false → k ≡ t → ⊥
        differs k test e = let same : nat_eq t k ≡ true = grind (arith, nat_tests) in cc

unsent_to : (bytes : List ℕ) (b : Bool) → b ≡ false → cond b bytes [] ≡ []
unsent_to bytes true e = absurd (cc)
unsent_to bytes false e = refl

hears_step : (queue t : ℕ) (bytes : List ℕ) (state : State) (e : EventEffect) → hears t bytes state ≡ Some e → Step queue (Input t bytes) state e.state
unfolding hears
hears_step queue t bytes state e is = by_client (slice_get state.clients t) refl is
  where
    f : Client → Client
    f = served state.names state.log bytes

    by_client : (o : Option Client) → slice_get state.clients t ≡ o → option_and_then (λ (c : Client). allowed (is_open c) (quietly (with_client t (f c) state))) o ≡ Some e
        → Step queue (Input t bytes) state e.state
    by_client None there is = absurd (cc)
    by_client (Some c) there is =
        let parts = allowed_is (is_open c) (quietly (with_client t (f c) state)) e is in
        by_state queue (Input t bytes) state (with_client t (f c) state) e parts.1
        (one_step queue (Input t bytes) t c (f c) state there refl
        (inr (inl (record { log = refl; bytes = bytes; event_is = refl; free = parts.0; is = refl })))
        (λ s apart. (unsent_to bytes (nat_eq t s) apart, refl)))

hangs_step : (queue t : ℕ) (state : State) (e : EventEffect) → hangs t state ≡ Some e → Step queue (Hang t) state e.state
unfolding hangs
hangs_step queue t state e is = by_client (slice_get state.clients t) refl is
  where
    f : Client → Client
    f = closed state.log HungUp

    by_client : (o : Option Client) → slice_get state.clients t ≡ o → option_and_then (λ (c : Client). allowed (is_open c) (quietly (with_client t (f c) state))) o ≡ Some e
        → Step queue (Hang t) state e.state
    by_client None there is = absurd (cc)
    by_client (Some c) there is =
        let parts = allowed_is (is_open c) (quietly (with_client t (f c) state)) e is in
        by_state queue (Hang t) state (with_client t (f c) state) e parts.1
        (one_step queue (Hang t) t c (f c) state there refl
        (inr (inr (record { log = refl; event_is = refl; free = parts.0; is = refl })))
        (λ s apart. (refl, apart)))

takes_step : (queue t most : ℕ) (state : State) (e : EventEffect) → takes t most state ≡ Some e → Step queue (Take t most) state e.state
unfolding takes
takes_step queue t most state e is = by_client (slice_get state.clients t) refl is
  where
    by_client : (o : Option Client) → slice_get state.clients t ≡ o
        → option_map (λ (c : Client). record { state = with_client t (after_take most state.names state.log c) state; written = item_lines t (next_taken most state.names state.log c) }) o ≡ Some e
        → Step queue (Take t most) state e.state
    by_client None there is = absurd (cc)
    by_client (Some c) there is =
        let next : Client = after_take most state.names state.log c in
        let made : EventEffect = record { state = with_client t next state; written = item_lines t (next_taken most state.names state.log c) } in
        let same : made ≡ e = cc in
        subst (Step queue (Take t most) state) (state_is made e same)
        (one_step queue (Take t most) t c next state there refl
        (inl (inl (record { log = refl; run = refl; cap = refl; heard = refl; unsent = refl; unhung = refl })))
        (λ s apart. (refl, refl)))

-- ---- units and monitors

stores_step : (queue u steps : ℕ) (state : State) (e : EventEffect) → stores u steps state ≡ Some e → Step queue (Store u steps) state e.state
unfolding stores
stores_step queue u steps state e is =
    let next : State = with_stores u (stores_after steps (slice_index state.firsts u) (samples_at u state) (slice_index state.stores u)) state in
    by_state queue (Store u steps) state next e (allowed_is (nat_lt u (units_in state)) (quietly next) e is).1
    (plain_step queue (Store u steps) state next (record { entries = refl; unsent = λ s. refl; unhung = λ s. refl }) refl refl refl (λ e. absurd (cc)))

watches_step : (queue m u : ℕ) (state : State) (e : EventEffect) → watches m u state ≡ Some e → Step queue (Monitor m u) state e.state
unfolding watches
watches_step queue m u state e is =
    let new : MonitorState = record { unit = u; reading = [] } in
    let next : State = record state { begun = true; watches = state.watches ++ new ∷ [] } in
    by_state queue (Monitor m u) state next e
    (allowed_is (nat_eq m (length state.watches) && nat_lt (length state.watches) most_watches && nat_lt u (units_in state)) (quietly next) e is).1
    (plain_step queue (Monitor m u) state next (record { entries = refl; unsent = λ s. refl; unhung = λ s. refl }) refl refl refl (λ e. absurd (cc)))

loads_step : (queue m steps : ℕ) (state : State) (e : EventEffect) → loads m steps state ≡ Some e → Step queue (Load m steps) state e.state
unfolding loads
loads_step queue m steps state e is = by_watch (slice_get state.watches m) is
  where
    by_watch : (o : Option MonitorState)
        → option_map (λ (w : MonitorState). record {
          state = with_watch m (reading_after_loads steps (words_at w.unit state) w.reading) w state;
          written = load_lines m steps (words_at w.unit state) w.reading;
        }) o ≡ Some e → Step queue (Load m steps) state e.state
    by_watch None is = absurd (cc)
    by_watch (Some w) is =
        let next : State = with_watch m (reading_after_loads steps (words_at w.unit state) w.reading) w state in
        let made : EventEffect = record { state = next; written = load_lines m steps (words_at w.unit state) w.reading } in
        let same : made ≡ e = cc in
        subst (Step queue (Load m steps) state) (state_is made e same)
        (plain_step queue (Load m steps) state next (record { entries = refl; unsent = λ s. refl; unhung = λ s. refl }) refl refl refl (λ e. absurd (cc)))

pub event_step : (queue : ℕ) (event : ScriptEvent) (state : State) (e : EventEffect) → effect queue state event ≡ Some e → (state.begun ≡ false → state.clients ≡ [])
    → Step queue event state e.state
event_step queue Nothing state e is fresh =
    by_state queue Nothing state state e (let same : quietly state ≡ e = cc in same)
    (plain_step queue Nothing state state (record { entries = refl; unsent = λ s. refl; unhung = λ s. refl }) refl refl refl fresh)
event_step queue (Device name) state e is fresh = declares_step queue name state e is fresh
event_step queue (Segment u first) state e is fresh = numbers_step queue u first state e is fresh
event_step queue (Feed d at bytes) state e is fresh = brings_step queue d (Feed d at bytes) state e is (λ s. refl) (λ s. refl)
event_step queue (Edge d edge) state e is fresh = brings_step queue d (Edge d edge) state e is (λ s. refl) (λ s. refl)
event_step queue (End d) state e is fresh = brings_step queue d (End d) state e is (λ s. refl) (λ s. refl)
event_step queue (Lose d) state e is fresh = brings_step queue d (Lose d) state e is (λ s. refl) (λ s. refl)
event_step queue (Open s cap) state e is fresh = opens_step queue s cap state e is
event_step queue (Input s bytes) state e is fresh = hears_step queue s bytes state e is
event_step queue (Hang s) state e is fresh = hangs_step queue s state e is
event_step queue (Take s most) state e is fresh = takes_step queue s most state e is
event_step queue (Monitor m u) state e is fresh = watches_step queue m u state e is
event_step queue (Store u steps) state e is fresh = stores_step queue u steps state e is
event_step queue (Load m steps) state e is fresh = loads_step queue m steps state e is
