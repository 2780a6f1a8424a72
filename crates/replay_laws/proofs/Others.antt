-- The lines of an output that are of no item and of no reading, and the samples that a monitor took.
use Rattle.std.proofs.Common.{◌≡◌, ℕ, suc, ◌+◌, ◌^◌, ◌<◌, Bool, true, false, ◌&&◌, cond, List, [], ◌∷◌, ◌++◌, length, map, fold, Option, Some, None, option_map, refl, sym, ap, ◌∙◌, append-nil, append_assoc, arith, codes}
use Rattle.std.specs.Prelude.{nat_eq, nat_lt, slice_get, slice_index}
use Rattle.std.specs.List.{concat, filter, flat_map, range_with_len}
use Rattle.std.proofs.lemmas.Bool.{and_parts, and_from}
use Rattle.std.proofs.lemmas.Bool.Decides.{nat_tests}
use Rattle.std.proofs.lemmas.List.{map-append}
use Rattle.std.proofs.lemmas.List.Elements.{filter-append}
use Rattle.std.proofs.lemmas.List.Folds.{concat-append}
use Rattle.session_core.specs.declared.mark.Close.{Close}
use Rattle.shm_monitor.specs.declared.reading.Reading.{Reading}
use Rattle.shm_monitor.specs.declared.reading.Reading.TheVariants.{Taken, NotReady, Clash}
use Rattle.line_cut.specs.Limits.{most}
use Rattle.line_cut.specs.Lines.{line_cut, lines}
use Rattle.line_player.specs.Rules.{Effect, effect_within}
use Rattle.line_player.specs.Courses.{Course, bad_line, due_at_end, gone_on, new_course, unless, whole_course, with_line}
use Rattle.book_log.specs.Entries.{Entry}
use Rattle.output_lines.specs.declared.closing.SessionEnd.TheVariants.{Drained}
use Rattle.output_lines.specs.Closings.{closing_line}
use Rattle.output_lines.specs.Items.{item_line}
use Rattle.output_lines.specs.Readings.{reading_line, reading_text, taken_text, two_numbers}
use Rattle.output_lines.specs.Words.{line_end, numbered}
use Rattle.replay_player.specs.Stored.{shown_state, stores_at_end}
use Rattle.replay_player.specs.Clients.{Client, items_of, kept_of}
use Rattle.replay_player.specs.Ends.{all_closed, all_ended, closing_lines, counted, end_line, shut}
use Rattle.replay_player.specs.States.{State, samples_at, units_in}
use Rattle.gps_replay.specs.Closings.{closing_rules, closings, silent}
use Rattle.gps_replay.specs.Run.{rules_of, run}
use Rattle.replay_laws.specs.Outputs.{begins_with, is_of, is_other_line, last_state, taken_line, taken_lines}
use Rattle.replay_laws.specs.Readings.{EndedReading, is_by, line_of, readings_of, taken_by, taken_in}
use Rattle.replay_laws.proofs.Rows.{closing_other, bad_other, unit_other}
use Rattle.replay_laws.proofs.Chosen.{filtered, items_no_other}
use Rattle.replay_laws.proofs.Sessions.{kept_apart}
use Rattle.replay_laws.proofs.Endings.{client_rows, drained_rows, end_is, end_rows, last_rows, units_are, units_of}
use Rattle.replay_laws.proofs.Printed.{AtEnd, Output, ends, monitors_written, output, shut_sessions}

-- ---- what the end writes besides items

closings_stay : (s : ℕ) (closing : Option (ℕ × Close)) (items : ℕ) → filter is_other_line (end_rows s closing items) ≡ end_rows s closing items
closings_stay s None items = refl
closings_stay s (Some closing) items = filtered is_other_line true (closing_line s Drained closing.1 items) [] (closing_other s closing.1 items)

client_others : (names : List (List ℕ)) (log : List Entry) (s : ℕ) (c : Client) → filter is_other_line (map (item_line s) (kept_of names log c)) ≡ []
    → concat (filter is_other_line (client_rows names log s c)) ≡ end_line s c.run.closing (counted (items_of names log c))
client_others names log s c none =
    let rest : List (List ℕ) = end_rows s c.run.closing (counted (items_of names log c)) in
    ap concat (filter-append is_other_line (map (item_line s) (kept_of names log c)) rest
    ∙ ap (λ (l : List (List ℕ)). l ++ filter is_other_line rest) none
    ∙ closings_stay s c.run.closing (counted (items_of names log c)))
    ∙ end_is s c.run.closing (counted (items_of names log c))

-- the sessions from a number on
drained_others : (names : List (List ℕ)) (log : List Entry) (s : ℕ) (clients : List Client)
    → ((k : ℕ) (c : Client) → slice_get clients k ≡ Some c → (t : ℕ) → filter is_other_line (map (item_line t) (kept_of names log c)) ≡ [])
    → concat (filter is_other_line (drained_rows names log s clients)) ≡ all_closed names log s clients
unfolding all_closed
drained_others names log s [] none = refl
drained_others names log s (c ∷ more) none =
    ap concat (filter-append is_other_line (client_rows names log s c) (drained_rows names log (s + 1) more))
    ∙ concat-append (filter is_other_line (client_rows names log s c)) (filter is_other_line (drained_rows names log (s + 1) more))
    ∙ ap (λ (l : List ℕ). l ++ concat (filter is_other_line (drained_rows names log (s + 1) more))) (client_others names log s c (none 0 c refl s))
    ∙ ap (λ (l : List ℕ). end_line s c.run.closing (counted (items_of names log c)) ++ l) (drained_others names log (s + 1) more (λ k d there t. none (suc k) d there t))

units_stay : (state : State) (us : List ℕ) → filter is_other_line (flat_map (units_of state) us) ≡ flat_map (units_of state) us
units_stay state [] = refl
units_stay state (u ∷ us) =
    let shown = shown_state (slice_index state.firsts u) (samples_at u state) (stores_at_end (slice_index state.firsts u) (samples_at u state)) in
    filter-append is_other_line (units_of state u) (flat_map (units_of state) us)
    ∙ ap (λ (l : List (List ℕ)). l ++ filter is_other_line (flat_map (units_of state) us)) (unit_other u shown)
    ∙ ap (λ (l : List (List ℕ)). units_of state u ++ l) (units_stay state us)

last_others : (state : State) (rows : List (List ℕ)) → AtEnd state rows → concat (filter is_other_line (last_rows state)) ≡ closing_lines state
last_others state rows are =
    let a = drained_rows state.names state.log 0 state.clients in
    let us = range_with_len 0 (units_in state) in
    ap concat (filter-append is_other_line a (flat_map (units_of state) us))
    ∙ concat-append (filter is_other_line a) (filter is_other_line (flat_map (units_of state) us))
    ∙ ap (λ (l : List ℕ). l ++ concat (filter is_other_line (flat_map (units_of state) us)))
    (drained_others state.names state.log 0 state.clients (λ k c there t. items_no_other t (kept_of state.names state.log c) (kept_apart state.names state.log rows k c (are.told k c there))))
    ∙ ap (λ (l : List ℕ). all_closed state.names state.log 0 state.clients ++ l) (ap concat (units_stay state us) ∙ units_are state us)

-- ---- the closing lines of a script

-- the same course, with nothing written
abbrev hushed : Course State → Course State
hushed course = record course { written = [] }

hushed_line : (queue : ℕ) (course : Course State) (text : List ℕ) → with_line (closing_rules queue) (hushed course) text ≡ hushed (with_line (rules_of queue) course text)
unfolding effect_within
hushed_line queue course text =
    by_refused course.refused ((rules_of queue).effect course.state text) (nat_lt (most (rules_of queue).limit) (length text))
  where
    by_effect : (o : Option (Effect State)) → gone_on (hushed course) (option_map silent o) ≡ hushed (gone_on course o)
    by_effect None = refl
    by_effect (Some e) = refl

    by_refused : (r : Option ℕ) (o : Option (Effect State)) (b : Bool)
        → unless r (gone_on (hushed course) (cond b None (option_map silent o))) (hushed course) ≡ hushed (unless r (gone_on course (cond b None o)) course)
    by_refused None o true = refl
    by_refused None o false = by_effect o
    by_refused (Some n) o b = refl

hushed_lines : (queue : ℕ) (texts : List (List ℕ)) (course : Course State)
    → fold (with_line (closing_rules queue)) (hushed course) texts ≡ hushed (fold (with_line (rules_of queue)) course texts)
hushed_lines queue [] course = refl
hushed_lines queue (text ∷ texts) course =
    ap (λ (c : Course State). fold (with_line (closing_rules queue)) c texts) (hushed_line queue course text)
    ∙ hushed_lines queue texts (with_line (rules_of queue) course text)

hushed_whole : (queue : ℕ) (script : List ℕ) → whole_course (closing_rules queue) script ≡ hushed (whole_course (rules_of queue) script)
hushed_whole queue script = hushed_lines queue (line_cut script) (new_course (rules_of queue))

pub closings_are_others : (queue : ℕ) (script : List ℕ) → closings queue script ≡ concat (filter is_other_line (lines (run queue script)))
closings_are_others queue script =
    let course : Course State = whole_course (rules_of queue) script in
    let o : Output queue script course.refused = output queue script course.refused refl in
    ap (λ (c : Course State). due_at_end (closing_rules queue) c c.refused) (hushed_whole queue script)
    ∙ by_end course.refused o.rows (shut_sessions course.state o.rows o.wrote)
    ∙ sym (ap concat (filter-append is_other_line o.rows (ends course.refused course.state)
    ∙ ap (λ (l : List (List ℕ)). l ++ filter is_other_line (ends course.refused course.state)) o.wrote.others))
    ∙ sym (ap (λ (l : List (List ℕ)). concat (filter is_other_line l)) o.lines)
  where
    by_end : (r : Option ℕ) (rows : List (List ℕ)) → AtEnd (shut (all_ended (last_state queue script))) rows
        → due_at_end (closing_rules queue) (hushed (whole_course (rules_of queue) script)) r ≡ concat (filter is_other_line (ends r (last_state queue script)))
    by_end None rows are = sym (last_others (shut (all_ended (last_state queue script))) rows are)
    by_end (Some number) rows are =
        sym (ap concat (filtered is_other_line true (bad_line number) [] (bad_other number)) ∙ append-nil (bad_line number))

-- ---- the samples that a monitor took

begins_behind : (a first rest : List ℕ) → begins_with (a ++ first) (a ++ rest) ≡ begins_with first rest
begins_behind [] first rest = refl
begins_behind (c ∷ a) first rest =
    let same : nat_eq c c ≡ true = grind (arith, nat_tests) in
    ap (λ (b : Bool). b && begins_with (a ++ first) (a ++ rest)) same ∙ begins_behind a first rest

shorter : (a more line : List ℕ) → begins_with (a ++ more) line ≡ true → begins_with a line ≡ true
shorter [] more line is = refl
shorter (c ∷ a) more [] is = absurd (cc)
shorter (c ∷ a) more (x ∷ line) is =
    let p : (nat_eq c x ≡ true) × (begins_with (a ++ more) line ≡ true) = and_parts _ _ is in
    and_from (nat_eq c x) (begins_with a line) p.0 (shorter a more line p.1)

abbrev takes_line : ℕ → List ℕ → Bool
takes_line m line = begins_with (numbered (codes "m") m ++ codes " taken ") line

takes_of : (m : ℕ) (line : List ℕ) → takes_line m line ≡ true → is_of (codes "m") m line ≡ true
takes_of m line is =
    shorter (numbered (codes "m") m ++ codes " ") (codes "taken ") line
    (ap (λ (l : List ℕ). begins_with l line) (append_assoc (numbered (codes "m") m) (codes " ") (codes "taken ")) ∙ is)

-- a test that is stronger than another
filter_both : (p q : List ℕ → Bool) → ((row : List ℕ) → p row ≡ true → q row ≡ true) → (rows : List (List ℕ)) → filter p rows ≡ filter p (filter q rows)
filter_both p q stronger [] = refl
filter_both p q stronger (row ∷ rows) = by_tests (p row) (q row) refl refl (filter_both p q stronger rows)
  where
    by_tests : (a b : Bool) → p row ≡ a → q row ≡ b → filter p rows ≡ filter p (filter q rows)
        → cond (p row) (row ∷ filter p rows) (filter p rows) ≡ filter p (cond (q row) (row ∷ filter q rows) (filter q rows))
    by_tests true true one two next =
        ap (λ (c : Bool). cond c (row ∷ filter p rows) (filter p rows)) one ∙ ap (λ (l : List (List ℕ)). row ∷ l) next
        ∙ sym (ap (λ (c : Bool). filter p (cond c (row ∷ filter q rows) (filter q rows))) two ∙ filtered p true row (filter q rows) one)
    by_tests true false one two next = let never : q row ≡ true = stronger row one in absurd (cc)
    by_tests false true one two next =
        ap (λ (c : Bool). cond c (row ∷ filter p rows) (filter p rows)) one ∙ next
        ∙ sym (ap (λ (c : Bool). filter p (cond c (row ∷ filter q rows) (filter q rows))) two ∙ filtered p false row (filter q rows) one)
    by_tests false false one two next =
        ap (λ (c : Bool). cond c (row ∷ filter p rows) (filter p rows)) one ∙ next
        ∙ sym (ap (λ (c : Bool). filter p (cond c (row ∷ filter q rows) (filter q rows))) two)

-- a reading of the monitor
text_takes : (m : ℕ) (reading : Reading) → takes_line m (reading_line m reading) ≡ begins_with (codes " taken ") (codes " " ++ (reading_text reading ++ line_end))
unfolding reading_line
text_takes m reading =
    let word : List ℕ = numbered (codes "m") m in
    ap (takes_line m) (append_assoc (word ++ codes " ") (reading_text reading) line_end ∙ append_assoc word (codes " ") (reading_text reading ++ line_end))
    ∙ begins_behind word (codes " taken ") (codes " " ++ (reading_text reading ++ line_end))

kind_takes : (m : ℕ) (reading : Reading) (rest : List (List ℕ)) → cond (takes_line m (reading_line m reading)) (reading_line m reading ∷ rest) rest ≡ map (taken_line m) (taken_in reading) ++ rest
unfolding reading_text taken_text two_numbers numbered
kind_takes m (Taken pair) rest = ap (λ (b : Bool). cond b (reading_line m (Taken pair) ∷ rest) rest) (text_takes m (Taken pair))
kind_takes m (NotReady count valid) rest = ap (λ (b : Bool). cond b (reading_line m (NotReady count valid) ∷ rest) rest) (text_takes m (NotReady count valid))
kind_takes m (Clash before after) rest = ap (λ (b : Bool). cond b (reading_line m (Clash before after) ∷ rest) rest) (text_takes m (Clash before after))

taken_rows : (m : ℕ) (readings : List EndedReading) → filter (takes_line m) (map line_of (filter (is_by m) readings)) ≡ map (taken_line m) (taken_by m readings)
taken_rows m [] = refl
taken_rows m (r ∷ readings) = by_monitor (nat_eq r.monitor m) refl (taken_rows m readings)
  where
    by_monitor : (b : Bool) → nat_eq r.monitor m ≡ b
        → filter (takes_line m) (map line_of (filter (is_by m) readings)) ≡ map (taken_line m) (taken_by m readings)
        → filter (takes_line m) (map line_of (cond (is_by m r) (r ∷ filter (is_by m) readings) (filter (is_by m) readings)))
        ≡ map (taken_line m) (cond (nat_eq r.monitor m) (taken_in r.reading) [] ++ taken_by m readings)
    by_monitor false test next =
        ap (λ (b : Bool). filter (takes_line m) (map line_of (cond b (r ∷ filter (is_by m) readings) (filter (is_by m) readings)))) test
        ∙ next
        ∙ ap (λ (b : Bool). map (taken_line m) (cond b (taken_in r.reading) [] ++ taken_by m readings)) (sym test)
    by_monitor true test next =
        let here : r.monitor ≡ m = grind (arith, nat_tests) in
        let rest : List (List ℕ) = filter (takes_line m) (map line_of (filter (is_by m) readings)) in
        ap (λ (b : Bool). filter (takes_line m) (map line_of (cond b (r ∷ filter (is_by m) readings) (filter (is_by m) readings)))) test
        ∙ ap (λ (k : ℕ). cond (takes_line m (reading_line k r.reading)) (reading_line k r.reading ∷ rest) rest) here
        ∙ kind_takes m r.reading rest
        ∙ ap (λ (l : List (List ℕ)). map (taken_line m) (taken_in r.reading) ++ l) next
        ∙ sym (map-append (taken_line m) (taken_in r.reading) (taken_by m readings))
        ∙ ap (λ (b : Bool). map (taken_line m) (cond b (taken_in r.reading) [] ++ taken_by m readings)) (sym test)

pub taken_written : (queue : ℕ) (script : List ℕ) (m : ℕ) → m < 2 ^ 64 → taken_lines m (run queue script) ≡ map (taken_line m) (taken_by m (readings_of queue (line_cut script)))
taken_written queue script m low =
    filter_both (takes_line m) (is_of (codes "m") m) (takes_of m) (lines (run queue script))
    ∙ ap (filter (takes_line m)) (monitors_written queue script m low)
    ∙ taken_rows m (readings_of queue (line_cut script))
