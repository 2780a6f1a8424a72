-- The lines of the units in the output of a script.
use Rattle.std.proofs.Common.{◌≡◌, ℕ, zero, suc, ◌+◌, ◌-◌, ◌*◌, ◌/◌, ◌%◌, ◌^◌, ◌<◌, ◌≤◌, Bool, true, false, ◌&&◌, cond, List, [], ◌∷◌, ◌++◌, length, map, Option, Some, None, refl, sym, ap, ◌∙◌, subst, append_assoc, arith, codes, if◌then◌else◌, nat_eq, nat_le, nat_lt}
use Rattle.std.specs.Prelude.{◌==◌, slice_index}
use Rattle.std.specs.List.{filter, flat_map, range_with_len}
use Rattle.std.specs.Fmt.{decimal}
use Rattle.std.proofs.lemmas.Bool.{and_parts}
use Rattle.std.proofs.lemmas.Bool.Decides.{nat_tests}
use Rattle.std.proofs.lemmas.List.Elements.{filter-append}
use Rattle.session_core.specs.declared.mark.Close.{Close}
use Rattle.shm_segment.specs.declared.sample.Sample.{Sample}
use Rattle.shm_segment.specs.Words.{count_after, published_after}
use Rattle.line_cut.specs.Lines.{line_cut}
use Rattle.line_player.specs.Courses.{bad_line, whole_course}
use Rattle.book_log.specs.Entries.{Entry}
use Rattle.book_units.specs.declared.unit.UnitState.{UnitState}
use Rattle.output_lines.specs.declared.closing.SessionEnd.TheVariants.{Drained}
use Rattle.output_lines.specs.Closings.{closing_line, unit_line}
use Rattle.output_lines.specs.Items.{item_line}
use Rattle.output_lines.specs.Words.{line_end, numbered}
use Rattle.replay_player.specs.Stored.{shown_state, stores_at_end}
use Rattle.replay_player.specs.Clients.{Client, items_of, kept_of}
use Rattle.replay_player.specs.Ends.{counted}
use Rattle.replay_player.specs.States.{State, samples_at, units_in}
use Rattle.gps_replay.specs.Run.{rules_of, run}
use Rattle.replay_laws.specs.Outputs.{RefusesALine, RefusesNoLine, begins_with, end_state, is_of, is_other_line, last_line_of_unit, last_state, line_of_unit, numbered_count, unit_lines}
use Rattle.replay_laws.proofs.AnsweredLaws.{names_few}
use Rattle.replay_laws.proofs.Chosen.{filtered, joined_rows}
use Rattle.replay_laws.proofs.Ended.{end_names}
use Rattle.replay_laws.proofs.Endings.{client_rows, drained_rows, end_rows, last_rows, units_of}
use Rattle.replay_laws.proofs.Printed.{Output, output}
use Rattle.replay_laws.proofs.Rows.{of_number, unit_rows}

abbrev rows_of : ℕ → List (List ℕ) → List (List ℕ)
rows_of u rows = filter (is_of (codes "u") u) rows

-- ---- lines of other kinds

item_of_no_unit : (u s : ℕ) (item : List ℕ) → is_of (codes "u") u (item_line s item) ≡ false
unfolding item_line numbered
item_of_no_unit u s item = refl

closing_of_no_unit : (u s : ℕ) (why : Close) (items : ℕ) → is_of (codes "u") u (closing_line s Drained why items) ≡ false
unfolding closing_line numbered
closing_of_no_unit u s why items = refl

bad_of_no_unit : (u n : ℕ) → is_of (codes "u") u (bad_line n) ≡ false
unfolding bad_line numbered
bad_of_no_unit u n = refl

-- a line of a unit is none of an item or of a reading
unit_is_other : (u : ℕ) (line : List ℕ) → is_of (codes "u") u line ≡ true → is_other_line line ≡ true
unfolding numbered
unit_is_other u [] mine = absurd (cc)
unit_is_other u (c ∷ line) mine =
    let first : nat_eq 117 c ≡ true = (and_parts (nat_eq 117 c) _ mine).0 in
    let letter : 117 ≡ c = grind (arith, nat_tests) in
    subst (λ (n : ℕ). is_other_line (n ∷ line) ≡ true) letter refl

no_units : (u : ℕ) (rows : List (List ℕ)) → filter is_other_line rows ≡ [] → rows_of u rows ≡ []
no_units u [] none = refl
no_units u (row ∷ rows) none = by_kind (is_other_line row) refl none (λ rest. no_units u rows rest)
  where
    not_mine : is_other_line row ≡ false → (b : Bool) → is_of (codes "u") u row ≡ b → b ≡ false
    not_mine kind true mine = let other : is_other_line row ≡ true = unit_is_other u row mine in absurd (cc)
    not_mine kind false mine = refl

    by_kind : (b : Bool) → is_other_line row ≡ b → filter is_other_line (row ∷ rows) ≡ [] → (filter is_other_line rows ≡ [] → rows_of u rows ≡ []) → rows_of u (row ∷ rows) ≡ []
    by_kind true kind none go_on =
        let wrong : row ∷ filter is_other_line rows ≡ [] = sym (filtered is_other_line true row rows kind) ∙ none in
        absurd (cc)
    by_kind false kind none go_on =
        let rest : filter is_other_line rows ≡ [] = sym (filtered is_other_line false row rows kind) ∙ none in
        filtered (is_of (codes "u") u) false row rows (not_mine kind (is_of (codes "u") u row) refl) ∙ go_on rest

items_no_unit : (u s : ℕ) (items : List (List ℕ)) → rows_of u (map (item_line s) items) ≡ []
items_no_unit u s [] = refl
items_no_unit u s (item ∷ items) =
    filtered (is_of (codes "u") u) false (item_line s item) (map (item_line s) items) (item_of_no_unit u s item) ∙ items_no_unit u s items

client_no_unit : (names : List (List ℕ)) (log : List Entry) (u s : ℕ) (c : Client) → rows_of u (client_rows names log s c) ≡ []
client_no_unit names log u s c =
    joined_rows (is_of (codes "u") u) (map (item_line s) (kept_of names log c)) _ (by_closing c.run.closing (counted (items_of names log c)))
    ∙ items_no_unit u s (kept_of names log c)
  where
    by_closing : (closing : Option (ℕ × Close)) (items : ℕ) → rows_of u (end_rows s closing items) ≡ []
    by_closing None items = refl
    by_closing (Some closing) items = filtered (is_of (codes "u") u) false (closing_line s Drained closing.1 items) [] (closing_of_no_unit u s closing.1 items)

drained_no_unit : (names : List (List ℕ)) (log : List Entry) (u s : ℕ) (clients : List Client) → rows_of u (drained_rows names log s clients) ≡ []
drained_no_unit names log u s [] = refl
drained_no_unit names log u s (c ∷ more) =
    joined_rows (is_of (codes "u") u) (client_rows names log s c) (drained_rows names log (s + 1) more) (drained_no_unit names log u (s + 1) more)
    ∙ client_no_unit names log u s c

-- ---- the line of a unit

begins : (u v published : ℕ) (rest : List ℕ) → u < 2 ^ 64 → v < 2 ^ 64
    → begins_with (numbered (codes "u") u ++ codes " ") (numbered (codes "u") v ++ (numbered (codes " published ") published ++ rest)) ≡ nat_eq v u
unfolding numbered
begins u v published rest low high =
    let behind : List ℕ = (codes "published " ++ decimal published) ++ rest in
    ap (λ (l : List ℕ). begins_with (numbered (codes "u") u ++ codes " ") l) (sym (append_assoc (numbered (codes "u") v) (32 ∷ []) behind))
    ∙ of_number 117 u v behind refl low high

unit_of : (u v : ℕ) (state : UnitState) → u < 2 ^ 64 → v < 2 ^ 64 → is_of (codes "u") u (unit_line v state) ≡ nat_eq v u
unfolding unit_line
unit_of u v state low high =
    let one : List ℕ = numbered (codes "u") v in
    let two : List ℕ = numbered (codes " published ") state.published in
    let three : List ℕ = numbered (codes " count ") state.count in
    let four : List ℕ = numbered (codes " left ") state.left in
    let joined : one ++ two ++ three ++ four ++ line_end ≡ one ++ (two ++ (three ++ (four ++ line_end))) =
    append_assoc (one ++ two ++ three) four line_end ∙ append_assoc (one ++ two) three (four ++ line_end) ∙ append_assoc one two (three ++ (four ++ line_end)) in
    ap (λ (l : List ℕ). begins_with (numbered (codes "u") u ++ codes " ") l) joined ∙ begins u v state.published (three ++ (four ++ line_end)) low high

-- the lines of the units from a number on
unit_rows_of : (u v : ℕ) (state : UnitState) (b : Bool) → nat_eq v u ≡ b → u < 2 ^ 64 → v < 2 ^ 64 → rows_of u (unit_rows v state) ≡ cond b (unit_rows v state) []
unit_rows_of u v state b test low high = by_sum (state.published + state.left == 0) b test
  where
    by_sum : (sum b : Bool) → nat_eq v u ≡ b → rows_of u (if sum then [] else unit_line v state ∷ []) ≡ cond b (if sum then [] else unit_line v state ∷ []) []
    by_sum true true test = refl
    by_sum true false test = refl
    by_sum false true test = filtered (is_of (codes "u") u) true (unit_line v state) [] (unit_of u v state low high ∙ test)
    by_sum false false test = filtered (is_of (codes "u") u) false (unit_line v state) [] (unit_of u v state low high ∙ test)

apart : (u v : ℕ) → u < v → nat_eq v u ≡ false
apart u v less = grind (arith, nat_tests)

beneath : (u v : ℕ) → v < u → nat_eq v u ≡ false
beneath u v less = grind (arith, nat_tests)

same_number : (u : ℕ) → nat_eq u u ≡ true
same_number u = grind (arith, nat_tests)

units_past : (state : State) (u n start : ℕ) → u < start → start + n < 2 ^ 64 → rows_of u (flat_map (units_of state) (range_with_len start n)) ≡ []
units_past state u zero start less high = refl
units_past state u (suc n) start less high =
    let low : u < 2 ^ 64 = omega (arith, less, high) in
    let here : start < 2 ^ 64 = omega (arith, high) in
    let on : u < start + 1 = omega (arith, less) in
    let rest : start + 1 + n < 2 ^ 64 = omega (arith, high) in
    joined_rows (is_of (codes "u") u) (units_of state start) (flat_map (units_of state) (range_with_len (start + 1) n)) (units_past state u n (start + 1) on rest)
    ∙ unit_rows_of u start (shown_state (slice_index state.firsts start) (samples_at start state) (stores_at_end (slice_index state.firsts start) (samples_at start state))) false (apart u start less) low here

none_below : (k : ℕ) → nat_lt k 0 ≡ false
none_below k = grind (arith, nat_tests)

some_below : (n : ℕ) → nat_lt 0 (suc n) ≡ true
some_below n = grind (arith, nat_tests)

both_below : (k n : ℕ) (b : Bool) → nat_lt k n ≡ b → nat_lt (suc k) (suc n) ≡ b
both_below k n true test = grind (arith, nat_tests)
both_below k n false test = grind (arith, nat_tests)

units_at : (state : State) (u n k start : ℕ) → start + k ≡ u → u < 2 ^ 64 → start + n < 2 ^ 64
    → rows_of u (flat_map (units_of state) (range_with_len start n)) ≡ cond (nat_lt k n) (units_of state u) []
units_at state u zero k start at low high = ap (λ (b : Bool). cond b (units_of state u) []) (sym (none_below k))
units_at state u (suc n) zero start at low high =
    let here : start ≡ u = omega (arith, at) in
    let past : u < start + 1 = omega (arith, at) in
    let rest : start + 1 + n < 2 ^ 64 = omega (arith, high) in
    joined_rows (is_of (codes "u") u) (units_of state start) (flat_map (units_of state) (range_with_len (start + 1) n)) (units_past state u n (start + 1) past rest)
    ∙ ap (λ (v : ℕ). rows_of u (units_of state v)) here
    ∙ unit_rows_of u u (shown_state (slice_index state.firsts u) (samples_at u state) (stores_at_end (slice_index state.firsts u) (samples_at u state))) true (same_number u) low low
    ∙ ap (λ (b : Bool). cond b (units_of state u) []) (sym (some_below n))
units_at state u (suc n) (suc k) start at low high =
    let less : start < u = omega (arith, at) in
    let here : start < 2 ^ 64 = omega (arith, high) in
    let next : start + 1 + k ≡ u = omega (arith, at) in
    let rest : start + 1 + n < 2 ^ 64 = omega (arith, high) in
    filter-append (is_of (codes "u") u) (units_of state start) (flat_map (units_of state) (range_with_len (start + 1) n))
    ∙ ap (λ (l : List (List ℕ)). l ++ rows_of u (flat_map (units_of state) (range_with_len (start + 1) n)))
    (unit_rows_of u start (shown_state (slice_index state.firsts start) (samples_at start state) (stores_at_end (slice_index state.firsts start) (samples_at start state))) false (beneath u start less) low here)
    ∙ units_at state u n k (start + 1) next low rest
    ∙ ap (λ (b : Bool). cond b (units_of state u) []) (sym (both_below k n (nat_lt k n) refl))

-- ---- what it says

all_published : (n : ℕ) → published_after (13 * n) ≡ n
all_published n = omega arith

count_at_end : (first n : ℕ) → count_after first (13 * n) ≡ 2 * (first + n)
unfolding count_after
count_at_end first n =
    let whole : (13 * n + 1) / 13 ≡ n = omega arith in
    let none : 13 * n % 13 ≡ 0 = omega arith in
    ap (λ (p : ℕ). 2 * (first + p) + (if nat_le 2 (13 * n % 13) && nat_le (13 * n % 13) 11 then 1 else 0)) whole
    ∙ ap (λ (r : ℕ). 2 * (first + n) + (if nat_le 2 r && nat_le r 11 then 1 else 0)) none
    ∙ (let plain : 2 * (first + n) + 0 ≡ 2 * (first + n) = omega arith in plain)

says : (u first : ℕ) (samples : List Sample) → unit_rows u (shown_state first samples (stores_at_end first samples)) ≡ line_of_unit u first samples
says u first samples =
    let n : ℕ = numbered_count first samples in
    let shown : shown_state first samples (stores_at_end first samples) ≡ record { published = n; count = 2 * (first + n); left = length samples - n } =
    (λ i. record { published = all_published n i; count = count_at_end first n i; left = length samples - all_published n i }) in
    ap (unit_rows u) shown ∙ by_samples samples
  where
    by_sum : (b : Bool) (state : UnitState) → (state.published + state.left == 0) ≡ b → unit_rows u state ≡ (if b then [] else unit_line u state ∷ [])
    by_sum b state is = ap (λ (c : Bool). if c then [] else unit_line u state ∷ []) is

    by_samples : (l : List Sample) → unit_rows u (record { published = numbered_count first l; count = 2 * (first + numbered_count first l); left = length l - numbered_count first l }) ≡ line_of_unit u first l
    by_samples [] =
        let n : ℕ = numbered_count first [] in
        let state : UnitState = record { published = n; count = 2 * (first + n); left = 0 - n } in
        let none : (n + (0 - n) == 0) ≡ true = grind (arith, nat_tests) in
        by_sum true state none
    by_samples (sample ∷ l) =
        let n : ℕ = numbered_count first (sample ∷ l) in
        let state : UnitState = record { published = n; count = 2 * (first + n); left = length (sample ∷ l) - n } in
        let more : (n + (length (sample ∷ l) - n) == 0) ≡ false = grind (arith, nat_tests) in
        by_sum false state more

pub units_written : (queue : ℕ) (script : List ℕ) (u : ℕ) → u < 2 ^ 64 → RefusesNoLine queue script
    → unit_lines u (run queue script) ≡ last_line_of_unit u (end_state queue script)
units_written queue script u low none =
    let o : Output queue script None = output queue script None none in
    let state : State = end_state queue script in
    let few : length (last_state queue script).names ≤ 8 = names_few queue (line_cut script) in
    let names : length state.names ≡ length (last_state queue script).names = ap (λ (l : List (List ℕ)). length l) (end_names queue script) in
    let start : 0 + u ≡ u = omega arith in
    let high : 0 + units_in state < 2 ^ 64 = omega (arith, few, names) in
    ap (λ (l : List (List ℕ)). rows_of u l) o.lines
    ∙ filter-append (is_of (codes "u") u) o.rows (last_rows state)
    ∙ ap (λ (l : List (List ℕ)). l ++ rows_of u (last_rows state)) (no_units u o.rows o.wrote.others)
    ∙ filter-append (is_of (codes "u") u) (drained_rows state.names state.log 0 state.clients) (flat_map (units_of state) (range_with_len 0 (units_in state)))
    ∙ ap (λ (l : List (List ℕ)). l ++ rows_of u (flat_map (units_of state) (range_with_len 0 (units_in state)))) (drained_no_unit state.names state.log u 0 state.clients)
    ∙ units_at state u (units_in state) u 0 start low high
    ∙ ap (λ (l : List (List ℕ)). cond (nat_lt u (units_in state)) l []) (says u (slice_index state.firsts u) (samples_at u state))

pub units_refused : (queue : ℕ) (script : List ℕ) (u : ℕ) → RefusesALine queue script → unit_lines u (run queue script) ≡ []
units_refused queue script u some = by_refused (whole_course (rules_of queue) script).refused refl
  where
    by_refused : (o : Option ℕ) → (whole_course (rules_of queue) script).refused ≡ o → unit_lines u (run queue script) ≡ []
    by_refused None is = absurd (some is)
    by_refused (Some number) is =
        let o : Output queue script (Some number) = output queue script (Some number) is in
        ap (λ (l : List (List ℕ)). rows_of u l) o.lines
        ∙ joined_rows (is_of (codes "u") u) o.rows (bad_line number ∷ []) (filtered (is_of (codes "u") u) false (bad_line number) [] (bad_of_no_unit u number))
        ∙ no_units u o.rows o.wrote.others
