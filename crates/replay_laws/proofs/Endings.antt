-- What the end of a script writes, and which of its lines are of a session or of a monitor.
use Rattle.std.proofs.Common.{◌≡◌, ℕ, zero, suc, ◌+◌, ◌^◌, ◌<◌, ◌≤◌, Bool, true, false, cond, List, [], ◌∷◌, ◌++◌, length, map, fold, Option, Some, None, refl, ap, ◌∙◌, append-nil, arith, codes}
use Rattle.std.specs.Prelude.{nat_eq, slice_get, slice_index}
use Rattle.std.specs.List.{concat, flat_map, range_with_len}
use Rattle.std.proofs.lemmas.Bool.Decides.{nat_tests}
use Rattle.std.proofs.lemmas.List.Elements.{filter-append}
use Rattle.std.proofs.lemmas.List.Folds.{concat-append}
use Rattle.session_core.specs.declared.mark.Close.{Close}
use Rattle.line_cut.specs.Lines.{AreLines}
use Rattle.book_log.specs.Entries.{Entry, ended, stops_in}
use Rattle.output_lines.specs.declared.closing.SessionEnd.TheVariants.{Drained}
use Rattle.output_lines.specs.Closings.{closing_line}
use Rattle.output_lines.specs.Items.{item_line}
use Rattle.replay_player.specs.Stored.{shown_state, stores_at_end}
use Rattle.replay_player.specs.Clients.{Client, items_of, kept_of}
use Rattle.replay_player.specs.Effects.{item_lines}
use Rattle.replay_player.specs.Ends.{all_drained, counted, drained, end_line, ended_at, last_lines, published}
use Rattle.replay_player.specs.States.{State, came, samples_at, units_in}
use Rattle.replay_laws.specs.Outputs.{is_of}
use Rattle.replay_laws.proofs.Rows.{closing_is_line, closing_of, closing_of_no_monitor, unit_of_no_monitor, unit_of_no_session, unit_rows, unit_rows_are, unit_rows_lines}
use Rattle.replay_laws.proofs.Chosen.{concat_map, filtered, items_lines, items_mine, items_no_monitor, items_other, joined_rows, lines_joined, monitor_rows, session_rows}
use Rattle.replay_laws.proofs.Written.{Wrote, came_wrote}

-- ---- the end of a script

pub ended_wrote : (rows : List (List ℕ)) (devices : List ℕ) (state : State) → Wrote state rows → Wrote (fold ended_at state devices) rows
ended_wrote rows [] state wrote = wrote
ended_wrote rows (d ∷ devices) state wrote = ended_wrote rows devices (ended_at state d) (by_stop (stops_in d state.log))
  where
    by_stop : (b : Bool) → Wrote (cond b state (came (ended d) state)) rows
    by_stop true = wrote
    by_stop false = came_wrote rows (ended d) state wrote

abbrev pub end_rows : ℕ → Option (ℕ × Close) → ℕ → List (List ℕ)
end_rows s None items = []
end_rows s (Some closing) items = closing_line s Drained closing.1 items ∷ []

abbrev pub client_rows : List (List ℕ) → List Entry → ℕ → Client → List (List ℕ)
client_rows names log s c = map (item_line s) (kept_of names log c) ++ end_rows s c.run.closing (counted (items_of names log c))

abbrev pub drained_rows : List (List ℕ) → List Entry → ℕ → List Client → List (List ℕ)
drained_rows names log s [] = []
drained_rows names log s (c ∷ more) = client_rows names log s c ++ drained_rows names log (s + 1) more

abbrev pub units_of : State → ℕ → List (List ℕ)
units_of state u = unit_rows u (shown_state (slice_index state.firsts u) (samples_at u state) (stores_at_end (slice_index state.firsts u) (samples_at u state)))

abbrev pub last_rows : State → List (List ℕ)
last_rows state = drained_rows state.names state.log 0 state.clients ++ flat_map (units_of state) (range_with_len 0 (units_in state))

-- their bytes
pub end_is : (s : ℕ) (closing : Option (ℕ × Close)) (items : ℕ) → concat (end_rows s closing items) ≡ end_line s closing items
end_is s None items = refl
end_is s (Some closing) items = append-nil (closing_line s Drained closing.1 items)

client_is : (names : List (List ℕ)) (log : List Entry) (s : ℕ) (c : Client) → concat (client_rows names log s c) ≡ drained names log s c
unfolding drained
client_is names log s c =
    let items : ℕ = counted (items_of names log c) in
    concat-append (map (item_line s) (kept_of names log c)) (end_rows s c.run.closing items)
    ∙ ap (λ (l : List ℕ). l ++ concat (end_rows s c.run.closing items)) (concat_map (item_line s) (kept_of names log c))
    ∙ ap (λ (l : List ℕ). item_lines s (kept_of names log c) ++ l) (end_is s c.run.closing items)

drained_is : (names : List (List ℕ)) (log : List Entry) (s : ℕ) (clients : List Client) → concat (drained_rows names log s clients) ≡ all_drained names log s clients
unfolding all_drained
drained_is names log s [] = refl
drained_is names log s (c ∷ more) =
    concat-append (client_rows names log s c) (drained_rows names log (s + 1) more)
    ∙ ap (λ (l : List ℕ). l ++ concat (drained_rows names log (s + 1) more)) (client_is names log s c)
    ∙ ap (λ (l : List ℕ). drained names log s c ++ l) (drained_is names log (s + 1) more)

pub units_are : (state : State) (us : List ℕ) → concat (flat_map (units_of state) us) ≡ flat_map (published state) us
units_are state [] = refl
units_are state (u ∷ us) =
    concat-append (units_of state u) (flat_map (units_of state) us)
    ∙ ap (λ (l : List ℕ). l ++ concat (flat_map (units_of state) us)) (unit_rows_are u (shown_state (slice_index state.firsts u) (samples_at u state) (stores_at_end (slice_index state.firsts u) (samples_at u state))))
    ∙ ap (λ (l : List ℕ). published state u ++ l) (units_are state us)

pub last_is : (state : State) → concat (last_rows state) ≡ last_lines state
last_is state =
    let a = drained_rows state.names state.log 0 state.clients in
    let us = range_with_len 0 (units_in state) in
    concat-append a (flat_map (units_of state) us)
    ∙ ap (λ (l : List ℕ). l ++ concat (flat_map (units_of state) us)) (drained_is state.names state.log 0 state.clients)
    ∙ ap (λ (l : List ℕ). all_drained state.names state.log 0 state.clients ++ l) (units_are state us)

-- they are lines
client_lines : (names : List (List ℕ)) (log : List Entry) (s : ℕ) (c : Client) → AreLines (client_rows names log s c)
client_lines names log s c = lines_joined (map (item_line s) (kept_of names log c)) _ (items_lines s (kept_of names log c)) (by_closing c.run.closing (counted (items_of names log c)))
  where
    by_closing : (closing : Option (ℕ × Close)) (items : ℕ) → AreLines (end_rows s closing items)
    by_closing None items = tt
    by_closing (Some closing) items = (closing_is_line s closing.1 items, tt)

drained_lines : (names : List (List ℕ)) (log : List Entry) (s : ℕ) (clients : List Client) → AreLines (drained_rows names log s clients)
drained_lines names log s [] = tt
drained_lines names log s (c ∷ more) = lines_joined (client_rows names log s c) (drained_rows names log (s + 1) more) (client_lines names log s c) (drained_lines names log (s + 1) more)

units_lines : (state : State) (us : List ℕ) → AreLines (flat_map (units_of state) us)
units_lines state [] = tt
units_lines state (u ∷ us) =
    lines_joined (units_of state u) (flat_map (units_of state) us)
    (unit_rows_lines u (shown_state (slice_index state.firsts u) (samples_at u state) (stores_at_end (slice_index state.firsts u) (samples_at u state)))) (units_lines state us)

pub last_are_lines : (state : State) → AreLines (last_rows state)
last_are_lines state =
    lines_joined (drained_rows state.names state.log 0 state.clients) (flat_map (units_of state) (range_with_len 0 (units_in state)))
    (drained_lines state.names state.log 0 state.clients) (units_lines state (range_with_len 0 (units_in state)))

-- which of them are of a session
client_other : (names : List (List ℕ)) (log : List Entry) (s t : ℕ) (c : Client) → s < 2 ^ 64 → t < 2 ^ 64 → nat_eq t s ≡ false → session_rows s (client_rows names log t c) ≡ []
client_other names log s t c low high test =
    joined_rows (is_of (codes "s") s) (map (item_line t) (kept_of names log c)) _ (by_closing c.run.closing (counted (items_of names log c)))
    ∙ items_other s t (kept_of names log c) low high test
  where
    by_closing : (closing : Option (ℕ × Close)) (items : ℕ) → session_rows s (end_rows t closing items) ≡ []
    by_closing None items = refl
    by_closing (Some closing) items =
        filtered (is_of (codes "s") s) false (closing_line t Drained closing.1 items) [] (closing_of s t closing.1 items low high ∙ test)

client_mine : (names : List (List ℕ)) (log : List Entry) (s : ℕ) (c : Client) → s < 2 ^ 64 → session_rows s (client_rows names log s c) ≡ client_rows names log s c
client_mine names log s c low =
    filter-append (is_of (codes "s") s) (map (item_line s) (kept_of names log c)) (end_rows s c.run.closing (counted (items_of names log c)))
    ∙ ap (λ (l : List (List ℕ)). l ++ session_rows s (end_rows s c.run.closing (counted (items_of names log c)))) (items_mine s (kept_of names log c) low)
    ∙ ap (λ (l : List (List ℕ)). map (item_line s) (kept_of names log c) ++ l) (by_closing c.run.closing (counted (items_of names log c)))
  where
    by_closing : (closing : Option (ℕ × Close)) (items : ℕ) → session_rows s (end_rows s closing items) ≡ end_rows s closing items
    by_closing None items = refl
    by_closing (Some closing) items =
        let same : nat_eq s s ≡ true = grind (arith, nat_tests) in
        filtered (is_of (codes "s") s) true (closing_line s Drained closing.1 items) [] (closing_of s s closing.1 items low low ∙ same)

apart_from : (s t : ℕ) → s < t → nat_eq t s ≡ false
apart_from s t less = grind (arith, nat_tests)

drained_past : (names : List (List ℕ)) (log : List Entry) (s t : ℕ) (clients : List Client) → s < t → t + length clients < 2 ^ 64 → session_rows s (drained_rows names log t clients) ≡ []
drained_past names log s t [] less high = refl
drained_past names log s t (c ∷ more) less high =
    let low : s < 2 ^ 64 = omega (arith, less, high) in
    let here : t < 2 ^ 64 = omega (arith, high) in
    let on : s < t + 1 = omega (arith, less) in
    let rest : t + 1 + length more < 2 ^ 64 = omega (arith, high) in
    joined_rows (is_of (codes "s") s) (client_rows names log t c) (drained_rows names log (t + 1) more) (drained_past names log s (t + 1) more on rest)
    ∙ client_other names log s t c low here (apart_from s t less)

abbrev pub rows_if : List (List ℕ) → List Entry → ℕ → Option Client → List (List ℕ)
rows_if names log s None = []
rows_if names log s (Some c) = client_rows names log s c

apart_under : (s t : ℕ) → t < s → nat_eq t s ≡ false
apart_under s t less = grind (arith, nat_tests)

drained_at : (names : List (List ℕ)) (log : List Entry) (s t k : ℕ) (clients : List Client) → t + k ≡ s → s < 2 ^ 64 → t + length clients < 2 ^ 64
    → session_rows s (drained_rows names log t clients) ≡ rows_if names log s (slice_get clients k)
drained_at names log s t k [] at low high = refl
drained_at names log s t zero (c ∷ more) at low high =
    let here : t ≡ s = omega (arith, at) in
    let rest : t + 1 + length more < 2 ^ 64 = omega (arith, high) in
    let past : s < t + 1 = omega (arith, at) in
    joined_rows (is_of (codes "s") s) (client_rows names log t c) (drained_rows names log (t + 1) more) (drained_past names log s (t + 1) more past rest)
    ∙ ap (λ (n : ℕ). session_rows s (client_rows names log n c)) here
    ∙ client_mine names log s c low
drained_at names log s t (suc k) (c ∷ more) at low high =
    let less : t < s = omega (arith, at) in
    let here : t < 2 ^ 64 = omega (arith, high) in
    let next : t + 1 + k ≡ s = omega (arith, at) in
    let rest : t + 1 + length more < 2 ^ 64 = omega (arith, high) in
    filter-append (is_of (codes "s") s) (client_rows names log t c) (drained_rows names log (t + 1) more)
    ∙ ap (λ (l : List (List ℕ)). l ++ session_rows s (drained_rows names log (t + 1) more)) (client_other names log s t c low here (apart_under s t less))
    ∙ drained_at names log s (t + 1) k more next low rest

units_no_session : (s : ℕ) (state : State) (us : List ℕ) → session_rows s (flat_map (units_of state) us) ≡ []
units_no_session s state [] = refl
units_no_session s state (u ∷ us) =
    joined_rows (is_of (codes "s") s) (units_of state u) (flat_map (units_of state) us) (units_no_session s state us)
    ∙ unit_of_no_session s u (shown_state (slice_index state.firsts u) (samples_at u state) (stores_at_end (slice_index state.firsts u) (samples_at u state)))

pub last_of_session : (state : State) (s : ℕ) → s < 2 ^ 64 → length state.clients ≤ 100_000
    → session_rows s (last_rows state) ≡ rows_if state.names state.log s (slice_get state.clients s)
last_of_session state s low few =
    let start : 0 + s ≡ s = omega arith in
    let high : 0 + length state.clients < 2 ^ 64 = omega (arith, few) in
    joined_rows (is_of (codes "s") s) (drained_rows state.names state.log 0 state.clients) (flat_map (units_of state) (range_with_len 0 (units_in state)))
    (units_no_session s state (range_with_len 0 (units_in state)))
    ∙ drained_at state.names state.log s 0 s state.clients start low high

-- none is of a monitor
client_no_monitor : (names : List (List ℕ)) (log : List Entry) (m s : ℕ) (c : Client) → monitor_rows m (client_rows names log s c) ≡ []
client_no_monitor names log m s c =
    joined_rows (is_of (codes "m") m) (map (item_line s) (kept_of names log c)) _ (by_closing c.run.closing (counted (items_of names log c)))
    ∙ items_no_monitor m s (kept_of names log c)
  where
    by_closing : (closing : Option (ℕ × Close)) (items : ℕ) → monitor_rows m (end_rows s closing items) ≡ []
    by_closing None items = refl
    by_closing (Some closing) items =
        filtered (is_of (codes "m") m) false (closing_line s Drained closing.1 items) [] (closing_of_no_monitor m s closing.1 items)

drained_no_monitor : (names : List (List ℕ)) (log : List Entry) (m s : ℕ) (clients : List Client) → monitor_rows m (drained_rows names log s clients) ≡ []
drained_no_monitor names log m s [] = refl
drained_no_monitor names log m s (c ∷ more) =
    joined_rows (is_of (codes "m") m) (client_rows names log s c) (drained_rows names log (s + 1) more) (drained_no_monitor names log m (s + 1) more)
    ∙ client_no_monitor names log m s c

units_no_monitor : (m : ℕ) (state : State) (us : List ℕ) → monitor_rows m (flat_map (units_of state) us) ≡ []
units_no_monitor m state [] = refl
units_no_monitor m state (u ∷ us) =
    joined_rows (is_of (codes "m") m) (units_of state u) (flat_map (units_of state) us) (units_no_monitor m state us)
    ∙ unit_of_no_monitor m u (shown_state (slice_index state.firsts u) (samples_at u state) (stores_at_end (slice_index state.firsts u) (samples_at u state)))

pub last_no_monitor : (m : ℕ) (state : State) → monitor_rows m (last_rows state) ≡ []
last_no_monitor m state =
    joined_rows (is_of (codes "m") m) (drained_rows state.names state.log 0 state.clients) (flat_map (units_of state) (range_with_len 0 (units_in state)))
    (units_no_monitor m state (range_with_len 0 (units_in state)))
    ∙ drained_no_monitor state.names state.log m 0 state.clients
