-- The states that a made script runs through.
use Rattle.std.proofs.Common.{◌≡◌, ℕ, ◌+◌, ◌*◌, ◌<◌, ◌≤◌, Bool, true, false, List, [], ◌∷◌, ◌++◌, length, map, cond, nat_eq, nat_lt, not, ◌&&◌, ◌||◌, Option, Some, None, option_map, option_and_then, refl, sym, ◌∙◌, ap, subst, arith}
use Rattle.std.specs.Prelude.{slice_get, slice_set, get_or, count_by}
use Rattle.std.proofs.Math.Seq.{get_or-append_seam}
use Rattle.std.proofs.lemmas.List.{length-append, length-map, length-set}
use Rattle.std.proofs.lemmas.List.Sums.{count_by-le-length}
use Rattle.std.proofs.lemmas.Option.{slice_get-get_or}
use Rattle.std.proofs.lemmas.Bool.Decides.{nat_tests}
use Rattle.gps_fixed.specs.Moment.{Moment}
use Rattle.gps_report.specs.declared.edge.Edge.{Edge as PulseEdge}
use Rattle.gps_report.specs.declared.edge.Symbol.{Symbol}
use Rattle.book_log.specs.Entries.{Entry, got, has_end, has_lost, stops_in}
use Rattle.book_log.proofs.Histories.{has_end-append, has_lost-append, no_end_got, no_loss_got}
use Rattle.book_sessions.specs.Roster.{most_live, most_opened}
use Rattle.replay_script.specs.declared.event.ScriptEvent.{ScriptEvent}
use Rattle.replay_script.specs.declared.event.ScriptEvent.TheVariants.{Device, Feed, Edge, Open, Input, Take, Monitor, Store, Load}
use Rattle.replay_player.specs.Clients.{Client, after_take, is_open, next_taken, opened, served}
use Rattle.replay_player.specs.States.{State, MonitorState, came, live_in, new_state, words_at}
use Rattle.replay_player.specs.Effects.{EventEffect, allowed, brings, changes, declares, effect, hears, item_lines, load_lines, loads, opens, quietly, reading_after_loads, stores, takes, watches, with_client, with_watch}

-- an event that is not refused leads to such a state
abbrev pub Leads : (State → Type 0) → Option EventEffect → Type 0
Leads to (Some e) = to e.state
Leads to None = ⊥

-- the two receivers
abbrev pub two : List (List ℕ)
two = (97 ∷ []) ∷ (98 ∷ []) ∷ []

abbrev pub Begins : State → Type 0
Begins s = s ≡ new_state

abbrev pub HasOne : State → Type 0
HasOne s = s ≡ record new_state { names = (97 ∷ []) ∷ [] }

abbrev pub HasTwo : State → Type 0
HasTwo s = s ≡ record new_state { names = two }

-- n sessions have been opened, and nothing came of a receiver
pub record Opened (count : ℕ) (s : State) : Type 0 where
  pub names : s.names ≡ two
  pub log : s.log ≡ []
  pub clients : length s.clients ≡ count
  pub watches : length s.watches ≡ 1

-- of one more nothing was heard
pub record Opens (count : ℕ) (s : State) : Type 0 where
  pub names : s.names ≡ two
  pub log : s.log ≡ []
  pub before : List Client
  pub cap : ℕ
  pub clients : s.clients ≡ before ++ opened cap [] ∷ []
  pub many : length before ≡ count
  pub watches : length s.watches ≡ 1

-- both receivers are there
pub record Going (s : State) : Type 0 where
  pub names : s.names ≡ two
  pub runs : (d : ℕ) → stops_in d s.log ≡ false
  pub clients : length s.clients ≡ 3
  pub watches : length s.watches ≡ 1

pub first_device : (queue : ℕ) (s : State) → Begins s → Leads HasOne (effect queue s (Device (97 ∷ [])))
unfolding declares
first_device queue s is = subst (λ (t : State). Leads HasOne (effect queue t (Device (97 ∷ [])))) (sym is) refl

pub second_device : (queue : ℕ) (s : State) → HasOne s → Leads HasTwo (effect queue s (Device (98 ∷ [])))
unfolding declares
second_device queue s is = subst (λ (t : State). Leads HasTwo (effect queue t (Device (98 ∷ [])))) (sym is) refl

pub monitor : (queue : ℕ) (s : State) → HasTwo s → Leads (Opened 0) (effect queue s (Monitor 0 0))
unfolding watches
monitor queue s is = subst (λ (t : State). Leads (Opened 0) (effect queue t (Monitor 0 0))) (sym is)
    (record { names = refl; log = refl; clients = refl; watches = refl })

allowed_leads : (to : State → Type 0) (ok : Bool) (e : EventEffect) → ok ≡ true → to e.state → Leads to (allowed ok e)
allowed_leads to ok e is there = subst (λ b. Leads to (allowed b e)) (sym is) there

pub opening : (queue count : ℕ) (s : State) → count < 3 → Opened count s → Leads (Opens count) (effect queue s (Open count None))
unfolding opens
opening queue count s few is =
    let long : length s.clients ≡ count = is.clients in
    let live : live_in s ≤ length s.clients = count_by-le-length is_open s.clients in
    let next : nat_eq count (length s.clients) ≡ true = grind (arith, nat_tests) in
    let room : nat_eq (live_in s) most_live ≡ false = grind (arith, nat_tests) in
    let more : nat_eq (length s.clients) most_opened ≡ false = grind (arith, nat_tests) in
    let ok : (nat_eq count (length s.clients) && not (nat_eq (live_in s) most_live || nat_eq (length s.clients) most_opened)) ≡ true =
    ap (λ b. b && not (nat_eq (live_in s) most_live || nat_eq (length s.clients) most_opened)) next
    ∙ ap (λ b. not (b || nat_eq (length s.clients) most_opened)) room ∙ ap not more in
    allowed_leads (Opens count) _ _ ok
    (record {
      names = is.names;
      log = is.log;
      before = s.clients;
      cap = queue;
      clients = ap (λ l. s.clients ++ opened queue l ∷ []) is.log;
      many = long;
      watches = is.watches;
    })

pub asking : (queue count : ℕ) (bytes : List ℕ) (s : State) → Opens count s → Leads (Opened (count + 1)) (effect queue s (Input count bytes))
unfolding hears
asking queue count bytes s is =
    let c : Client = opened is.cap [] in
    let long : length s.clients ≡ count + 1 = ap length is.clients ∙ length-append is.before (c ∷ []) ∙ ap (λ n. n + 1) is.many in
    let at : get_or s.clients count c ≡ c =
    ap (λ l. get_or l count c) is.clients ∙ ap (λ n. get_or (is.before ++ c ∷ []) n c) (sym is.many) ∙ get_or-append_seam is.before c [] c in
    let there : slice_get s.clients count ≡ Some c =
    slice_get-get_or s.clients count c (omega (arith, long)) ∙ ap (λ x. Some x) at in
    let next : Client → Client = served s.names s.log bytes in
    let Goal : Option Client → Type 0 =
    λ o. Leads (Opened (count + 1)) (option_and_then (λ (d : Client). allowed (is_open d) (quietly (with_client count (next d) s))) o) in
    subst Goal (sym there)
    (record { names = is.names; log = is.log; clients = length-set s.clients count (next c) ∙ long; watches = is.watches })

pub going : (s : State) → Opened 3 s → Going s
going s is = record {
  names = is.names;
  runs = λ d. ap (λ l. stops_in d l) is.log;
  clients = is.clients;
  watches = is.watches;
}

pub symbols_come : (d : ℕ) (symbols : List Symbol) (s : State) → d < 2 → Going s → Leads Going (brings d (got d symbols) s)
unfolding brings came
symbols_come d symbols s low is =
    let long : length s.names ≡ 2 = ap length is.names in
    let there : nat_lt d (length s.names) ≡ true = grind (arith, nat_tests) in
    let ok : (nat_lt d (length s.names) && not (stops_in d s.log)) ≡ true =
    ap (λ b. b && not (stops_in d s.log)) there ∙ ap not (is.runs d) in
    allowed_leads Going _ _ ok
    (record {
      names = is.names;
      runs = λ e.
          ap (λ b. b || has_lost e (s.log ++ got d symbols)) (has_end-append e s.log (got d symbols) (no_end_got d e symbols))
          ∙ ap (λ b. has_end e s.log || b) (has_lost-append e s.log (got d symbols) (no_loss_got d e symbols)) ∙ is.runs e;
      clients = length-map s.clients _ ∙ is.clients;
      watches = is.watches;
    })

pub storing : (queue u steps : ℕ) (s : State) → u < 4 → Going s → Leads Going (effect queue s (Store u steps))
unfolding stores
storing queue u steps s low is =
    let long : length s.names ≡ 2 = ap length is.names in
    let ok : nat_lt u (2 * length s.names) ≡ true = grind (arith, nat_tests) in
    allowed_leads Going _ _ ok (record { names = is.names; runs = is.runs; clients = is.clients; watches = is.watches })

pub loading : (queue steps : ℕ) (s : State) → Going s → Leads Going (effect queue s (Load 0 steps))
unfolding loads
loading queue steps s is =
    let free : MonitorState = record { unit = 0; reading = [] } in
    let there : slice_get s.watches 0 ≡ Some (get_or s.watches 0 free) = slice_get-get_or s.watches 0 free (let one = is.watches in omega (arith, one)) in
    let Goal : Option MonitorState → Type 0 = λ o. Leads Going (option_map
    (λ (w : MonitorState). record {
      state = with_watch 0 (reading_after_loads steps (words_at w.unit s) w.reading) w s;
      written = load_lines 0 steps (words_at w.unit s) w.reading;
    }) o) in
    subst Goal (sym there)
    (record { names = is.names; runs = is.runs; clients = is.clients; watches = length-set s.watches 0 _ ∙ is.watches })

pub taking : (queue n most : ℕ) (s : State) → n < 3 → Going s → Leads Going (effect queue s (Take n most))
unfolding takes
taking queue n most s low is =
    let free : Client = opened 1 [] in
    let there : slice_get s.clients n ≡ Some (get_or s.clients n free) = slice_get-get_or s.clients n free (let three = is.clients in omega (arith, three, low)) in
    let Goal : Option Client → Type 0 = λ o. Leads Going (option_map
    (λ (c : Client). record {
      state = with_client n (after_take most s.names s.log c) s;
      written = item_lines n (next_taken most s.names s.log c);
    }) o) in
    subst Goal (sym there)
    (record { names = is.names; runs = is.runs; clients = length-set s.clients n _ ∙ is.clients; watches = is.watches })
