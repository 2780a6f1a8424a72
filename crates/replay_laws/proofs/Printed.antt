-- The lines of the output of a whole script.
use Rattle.std.proofs.Common.{◌≡◌, ℕ, zero, suc, ◌+◌, ◌^◌, ◌<◌, ◌≤◌, Bool, true, false, cond, List, [], ◌∷◌, ◌++◌, length, map, take, drop, fold, Option, Some, None, option_map, refl, sym, ap, ◌∙◌, subst, append-nil, append_assoc, arith, take-append-drop, codes}
use Rattle.std.specs.Prelude.{nat_lt, option_and_then, slice_get, unwrap_or}
use Rattle.std.specs.List.{concat, filter, range_with_len}
use Rattle.std.proofs.lemmas.List.{length-map, map-append}
use Rattle.std.proofs.lemmas.List.Elements.{filter-append}
use Rattle.std.proofs.lemmas.List.Folds.{concat-append}
use Rattle.session_core.specs.declared.mark.Close.{Close}
use Rattle.session_core.specs.declared.mark.Close.TheVariants.{DaemonEnd}
use Rattle.line_cut.specs.Limits.{most}
use Rattle.line_cut.specs.Lines.{AreLines, line_cut, lines, open_line}
use Rattle.line_cut.proofs.Splits.{only_lines}
use Rattle.line_player.specs.Rules.{Effect, Rules, effect_within}
use Rattle.line_player.specs.Courses.{Course, bad_line, course_of, course_so_far, due_at_end, due_so_far, ended_texts, gone_on, long_texts, new_course, whole_course, with_line}
use Rattle.line_player.proofs.Courses.{next_line, stops}
use Rattle.book_log.specs.Entries.{Entry, ended, stops_in}
use Rattle.book_log.specs.History.{history_after}
use Rattle.output_lines.specs.declared.closing.SessionEnd.TheVariants.{Drained}
use Rattle.output_lines.specs.Closings.{closing_line}
use Rattle.output_lines.specs.Items.{item_line}
use Rattle.replay_script.specs.Events.{event_in}
use Rattle.replay_script.specs.declared.event.ScriptEvent.{ScriptEvent}
use Rattle.replay_player.specs.Clients.{Client, closed, items_of, told}
use Rattle.replay_player.specs.Effects.{EventEffect, effect}
use Rattle.replay_player.specs.Ends.{all_ended, counted, ended_at, shut, written_at_end}
use Rattle.replay_player.specs.States.{State, came, new_state}
use Rattle.gps_replay.specs.Run.{effect_of, of_line, rules_of, run}
use Rattle.replay_laws.specs.Outputs.{IsDrained, RefusesALine, RefusesNoLine, all_lines, end_state, is_of, last_state, lines_taken, monitor_lines, output_so_far, session_lines, state_so_far}
use Rattle.replay_laws.specs.Readings.{EndedReading, is_by, line_of, readings_at, readings_at_line, readings_from, readings_of}
use Rattle.replay_laws.proofs.Growing.{HasClosing, closed_has}
use Rattle.replay_laws.proofs.Rows.{bad_is_line, bad_of_no_monitor, bad_of_no_session}
use Rattle.replay_laws.proofs.Chosen.{filtered, joined_rows, lines_joined, monitor_rows, session_rows}
use Rattle.replay_laws.proofs.Sessions.{Mapped, Sessions, Told, all_shut, at_mapped, low_session}
use Rattle.replay_laws.proofs.Written.{Adds, Wrote, event_adds}
use Rattle.replay_laws.proofs.Endings.{client_rows, end_rows, ended_wrote, last_are_lines, last_is, last_no_monitor, last_of_session, last_rows, rows_if}

-- ---- one line of a script

record LineAdds (rows : List (List ℕ)) (readings : List EndedReading) (e : Effect State) : Type 0 where
  more : List (List ℕ)
  written : e.written ≡ concat more
  wrote : Wrote e.state (rows ++ more)
  readings_are : (m : ℕ) → m < 2 ^ 64 → monitor_rows m more ≡ map line_of (filter (is_by m) readings)

line_adds : (queue : ℕ) (rows : List (List ℕ)) (state : State) (text : List ℕ) (e : Effect State) → effect_within (rules_of queue) state text ≡ Some e → Wrote state rows
    → LineAdds rows (readings_at_line state (event_in text)) e
unfolding effect_within
line_adds queue rows state text e is wrote = by_length (nat_lt (most (rules_of queue).limit) (length text)) is
  where
    by_event : (o : Option ScriptEvent) → option_map of_line (option_and_then (effect queue state) o) ≡ Some e → LineAdds rows (readings_at_line state o) e
    by_event None is = absurd (cc)
    by_event (Some event) is = by_effect (effect queue state event) refl is
      where
        by_effect : (o : Option EventEffect) → effect queue state event ≡ o → option_map of_line o ≡ Some e → LineAdds rows (readings_at state event) e
        by_effect None made is = absurd (cc)
        by_effect (Some x) made is =
            let same : of_line x ≡ e = cc in
            let adds : Adds rows (readings_at state event) x = event_adds queue rows state event x made wrote in
            subst (LineAdds rows (readings_at state event)) same
            (record { more = adds.more; written = adds.written; wrote = adds.wrote; readings_are = adds.readings_are })

    by_length : (b : Bool) → cond b None (effect_of queue state text) ≡ Some e → LineAdds rows (readings_at_line state (event_in text)) e
    by_length true is = absurd (cc)
    by_length false is = by_event (event_in text) is

-- ---- any lines

pub record Reaches (readings : List EndedReading) (rows : List (List ℕ)) (last : Course State) : Type 0 where
  pub all : List (List ℕ)
  pub written : last.written ≡ concat all
  pub wrote : Wrote last.state all
  pub readings_are : (m : ℕ) → m < 2 ^ 64 → monitor_rows m all ≡ monitor_rows m rows ++ map line_of (filter (is_by m) readings)

-- the lines of what a line ends, and of what those after it end
both_readings : (m : ℕ) (rows more all : List (List ℕ)) (now later : List EndedReading) → monitor_rows m more ≡ map line_of (filter (is_by m) now)
    → monitor_rows m all ≡ monitor_rows m (rows ++ more) ++ map line_of (filter (is_by m) later)
    → monitor_rows m all ≡ monitor_rows m rows ++ map line_of (filter (is_by m) (now ++ later))
both_readings m rows more all now later one two =
    let a : List (List ℕ) = map line_of (filter (is_by m) now) in
    let b : List (List ℕ) = map line_of (filter (is_by m) later) in
    two
    ∙ ap (λ (l : List (List ℕ)). l ++ b) (filter-append (is_of (codes "m") m) rows more ∙ ap (λ (l : List (List ℕ)). monitor_rows m rows ++ l) one)
    ∙ append_assoc (monitor_rows m rows) a b
    ∙ ap (λ (l : List (List ℕ)). monitor_rows m rows ++ l) (sym (map-append line_of (filter (is_by m) now) (filter (is_by m) later)))
    ∙ ap (λ (l : List EndedReading). monitor_rows m rows ++ map line_of l) (sym (filter-append (is_by m) now later))

reaches : (queue : ℕ) (texts : List (List ℕ)) (course : Course State) (rows : List (List ℕ)) → course.refused ≡ None → course.written ≡ concat rows → Wrote course.state rows
    → Reaches (readings_from queue course.state texts) rows (fold (with_line (rules_of queue)) course texts)
unfolding readings_from
reaches queue [] course rows none written wrote =
    record { all = rows; written = written; wrote = wrote; readings_are = λ m low. sym (append-nil (monitor_rows m rows)) }
reaches queue (text ∷ texts) course rows none written wrote =
    by_effect (effect_within (rules_of queue) course.state text) refl (λ next longer a b c. reaches queue texts next longer a b c)
  where
    by_effect : (o : Option (Effect State)) → effect_within (rules_of queue) course.state text ≡ o
        → ((next : Course State) (longer : List (List ℕ)) → next.refused ≡ None → next.written ≡ concat longer → Wrote next.state longer
        → Reaches (readings_from queue next.state texts) longer (fold (with_line (rules_of queue)) next texts))
        → Reaches (unwrap_or (option_map (λ (e : Effect State). readings_at_line course.state (event_in text) ++ readings_from queue e.state texts) o) []) rows
        (fold (with_line (rules_of queue)) (with_line (rules_of queue) course text) texts)
    by_effect None is go_on =
        let rules : Rules State = rules_of queue in
        let next : Course State = gone_on course None in
        let step : with_line rules course text ≡ next = next_line rules course text None none is in
        let last : fold (with_line rules) (with_line rules course text) texts ≡ next =
        ap (λ (c : Course State). fold (with_line rules) c texts) step ∙ stops rules next (course.count + 1) texts refl in
        subst (Reaches [] rows) (sym last)
        (record { all = rows; written = written; wrote = wrote; readings_are = λ m low. sym (append-nil (monitor_rows m rows)) })
    by_effect (Some e) is go_on =
        let rules : Rules State = rules_of queue in
        let next : Course State = gone_on course (Some e) in
        let step : with_line rules course text ≡ next = next_line rules course text (Some e) none is in
        let now : List EndedReading = readings_at_line course.state (event_in text) in
        let later : List EndedReading = readings_from queue e.state texts in
        let adds : LineAdds rows now e = line_adds queue rows course.state text e is wrote in
        let longer : course.written ++ e.written ≡ concat (rows ++ adds.more) =
        ap (λ (l : List ℕ). l ++ e.written) written ∙ ap (λ (l : List ℕ). concat rows ++ l) adds.written ∙ sym (concat-append rows adds.more) in
        let rest : Reaches later (rows ++ adds.more) (fold (with_line rules) next texts) = go_on next (rows ++ adds.more) refl longer adds.wrote in
        subst (λ (c : Course State). Reaches (now ++ later) rows (fold (with_line rules) c texts)) (sym step)
        (record {
          all = rest.all;
          written = rest.written;
          wrote = rest.wrote;
          readings_are = λ m low. both_readings m rows adds.more rest.all now later (adds.readings_are m low) (rest.readings_are m low);
        })

new_wrote : Wrote new_state []
new_wrote =
    record {
      before = λ e. refl;
      monitors = omega arith;
      sessions = record { count = omega arith; told = λ s c there. absurd (cc); beyond = λ s low past. refl };
      lines = tt;
      others = refl;
    }

pub lines_reach : (queue : ℕ) (texts : List (List ℕ)) → Reaches (readings_of queue texts) [] (course_of (rules_of queue) texts)
lines_reach queue texts = reaches queue texts (new_course (rules_of queue)) [] refl refl new_wrote

pub reached : (queue : ℕ) (script : List ℕ) → Reaches (readings_of queue (line_cut script)) [] (whole_course (rules_of queue) script)
reached queue script = lines_reach queue (line_cut script)

-- ---- the whole output

-- what is written after the lines of a script
abbrev pub ends : Option ℕ → State → List (List ℕ)
ends None state = last_rows (shut (all_ended state))
ends (Some number) state = bad_line number ∷ []

pub record Output (queue : ℕ) (script : List ℕ) (refused : Option ℕ) : Type 0 where
  pub rows : List (List ℕ)
  pub wrote : Wrote (last_state queue script) rows
  pub bytes : run queue script ≡ concat (rows ++ ends refused (last_state queue script))
  pub lines : lines (run queue script) ≡ rows ++ ends refused (last_state queue script)
  pub readings_are : (m : ℕ) → m < 2 ^ 64 → monitor_rows m rows ≡ map line_of (filter (is_by m) (readings_of queue (line_cut script)))

lines_back : (rows : List (List ℕ)) → AreLines rows → lines (concat rows) ≡ rows
lines_back rows are = ap lines (sym (append-nil (concat rows))) ∙ only_lines rows [] are refl

pub output : (queue : ℕ) (script : List ℕ) (refused : Option ℕ) → (whole_course (rules_of queue) script).refused ≡ refused → Output queue script refused
output queue script refused is =
    let r = reached queue script in
    let course : Course State = whole_course (rules_of queue) script in
    let due : run queue script ≡ due_at_end (rules_of queue) course refused = ap (λ (o : Option ℕ). due_at_end (rules_of queue) course o) is in
    let bytes : run queue script ≡ concat (r.all ++ ends refused course.state) = due ∙ by_end r.all course r.written refused in
    record {
      rows = r.all;
      wrote = r.wrote;
      bytes = bytes;
      lines =
          ap lines bytes
          ∙ lines_back (r.all ++ ends refused course.state) (lines_joined r.all (ends refused course.state) r.wrote.lines (ends_lines refused course.state));
      readings_are = r.readings_are;
    }
  where
    ends_lines : (o : Option ℕ) (state : State) → AreLines (ends o state)
    ends_lines None state = last_are_lines (shut (all_ended state))
    ends_lines (Some number) state = (bad_is_line number, tt)

    by_end : (rows : List (List ℕ)) (course : Course State) → course.written ≡ concat rows → (o : Option ℕ) → due_at_end (rules_of queue) course o ≡ concat (rows ++ ends o course.state)
    by_end rows course written None =
        ap (λ (l : List ℕ). l ++ written_at_end course.state) written
        ∙ ap (λ (l : List ℕ). concat rows ++ l) (sym (last_is (shut (all_ended course.state))))
        ∙ sym (concat-append rows (last_rows (shut (all_ended course.state))))
    by_end rows course written (Some number) =
        ap (λ (l : List ℕ). l ++ bad_line number) written
        ∙ ap (λ (l : List ℕ). concat rows ++ l) (sym (append-nil (bad_line number)))
        ∙ sym (concat-append rows (bad_line number ∷ []))

pub output_lines : (queue : ℕ) (script : List ℕ) → concat (lines (run queue script)) ≡ run queue script
output_lines queue script =
    let o : Output queue script (whole_course (rules_of queue) script).refused = output queue script (whole_course (rules_of queue) script).refused refl in
    ap concat o.lines ∙ sym o.bytes

-- ---- sessions

-- the sessions at the end
abbrev pub AtEnd : State → List (List ℕ) → Type 0
AtEnd state rows = Sessions state.names state.log state.clients rows

pub shut_sessions : (state : State) (rows : List (List ℕ)) → Wrote state rows → AtEnd (shut (all_ended state)) rows
shut_sessions state rows wrote =
    let w : Wrote (all_ended state) rows = ended_wrote rows (range_with_len 0 (length state.names)) state wrote in
    let late : State = all_ended state in
    all_shut late.names late.log DaemonEnd late.clients rows w.sessions

shut_closed : (state : State) (s : ℕ) (c : Client) → slice_get (shut state).clients s ≡ Some c → HasClosing c
shut_closed state s c there =
    let m : Mapped (closed state.log DaemonEnd) state.clients s c = at_mapped (closed state.log DaemonEnd) state.clients s c there in
    subst HasClosing m.is (closed_has state.log DaemonEnd m.from)

joined_items : (names : List (List ℕ)) (log : List Entry) (s : ℕ) (c : Client) (place : ℕ) (why : Close) → c.run.closing ≡ Some (place, why)
    → map (item_line s) (take c.taken (items_of names log c)) ++ client_rows names log s c ≡ all_lines s (items_of names log c) why
joined_items names log s c place why is =
    let items : List (List ℕ) = items_of names log c in
    let one : List (List ℕ) = map (item_line s) (take c.taken items) in
    let two : List (List ℕ) = map (item_line s) (drop c.taken items) in
    ap (λ (o : Option (ℕ × Close)). one ++ (two ++ end_rows s o (counted items))) is
    ∙ sym (append_assoc one two (closing_line s Drained why (counted items) ∷ []))
    ∙ ap (λ (l : List (List ℕ)). l ++ closing_line s Drained why (counted items) ∷ [])
    (sym (map-append (item_line s) (take c.taken items) (drop c.taken items)) ∙ ap (λ (l : List (List ℕ)). map (item_line s) l) (take-append-drop c.taken items))

pub whole_sessions : (queue : ℕ) (script : List ℕ) (s : ℕ) (c : Client) → RefusesNoLine queue script → slice_get (end_state queue script).clients s ≡ Some c
    → IsDrained s (end_state queue script) c (run queue script)
whole_sessions queue script s c none there =
    let o : Output queue script None = output queue script None none in
    let state : State = end_state queue script in
    let are : Sessions state.names state.log state.clients o.rows = shut_sessions (last_state queue script) o.rows o.wrote in
    let told : Told state.names state.log o.rows s c = are.told s c there in
    let low : s < 2 ^ 64 = low_session state.clients s c are.count there in
    let end : HasClosing c = shut_closed (all_ended (last_state queue script)) s c there in
    record {
      place = end.place;
      why = end.why;
      closed = end.is;
      lines =
          ap (λ (l : List (List ℕ)). session_rows s l) o.lines
          ∙ filter-append (is_of (codes "s") s) o.rows (last_rows state)
          ∙ ap (λ (l : List (List ℕ)). l ++ session_rows s (last_rows state)) told.written
          ∙ ap (λ (l : List (List ℕ)). map (item_line s) (take c.taken (items_of state.names state.log c)) ++ l)
          (last_of_session state s low are.count ∙ ap (rows_if state.names state.log s) there)
          ∙ joined_items state.names state.log s c end.place end.why end.is;
    }

bad_of_none : (s number : ℕ) → session_rows s (bad_line number ∷ []) ≡ []
bad_of_none s number = filtered (is_of (codes "s") s) false (bad_line number) [] (bad_of_no_session s number)

pub refused_sessions : (queue : ℕ) (script : List ℕ) (s : ℕ) (c : Client) → RefusesALine queue script → slice_get (last_state queue script).clients s ≡ Some c
    → session_lines s (run queue script) ≡ lines_taken s (last_state queue script) c
refused_sessions queue script s c some there = by_refused (whole_course (rules_of queue) script).refused refl
  where
    by_refused : (o : Option ℕ) → (whole_course (rules_of queue) script).refused ≡ o → session_lines s (run queue script) ≡ lines_taken s (last_state queue script) c
    by_refused None is = absurd (some is)
    by_refused (Some number) is =
        let o : Output queue script (Some number) = output queue script (Some number) is in
        let told : Told (last_state queue script).names (last_state queue script).log o.rows s c = o.wrote.sessions.told s c there in
        ap (λ (l : List (List ℕ)). session_rows s l) o.lines ∙ joined_rows (is_of (codes "s") s) o.rows (bad_line number ∷ []) (bad_of_none s number) ∙ told.written

-- what is written before the end is read
pub sessions_so_far : (queue : ℕ) (bytes : List ℕ) (s : ℕ) (c : Client) → slice_get (state_so_far queue bytes).clients s ≡ Some c
    → session_lines s (output_so_far queue bytes) ≡ lines_taken s (state_so_far queue bytes) c
sessions_so_far queue bytes s c there = by_refused (course_so_far (rules_of queue) bytes).refused
  where
    texts : List (List ℕ)
    texts = ended_texts (rules_of queue) bytes ++ long_texts (rules_of queue) (open_line bytes)

    course : Course State
    course = course_so_far (rules_of queue) bytes

    r : Reaches (readings_of queue texts) [] course
    r = lines_reach queue texts

    mine : session_rows s r.all ≡ lines_taken s course.state c
    mine = (r.wrote.sessions.told s c there).written

    by_refused : (o : Option ℕ) → session_lines s (due_so_far course o) ≡ lines_taken s course.state c
    by_refused None = ap (λ (l : List ℕ). session_lines s l) r.written ∙ ap (λ (l : List (List ℕ)). session_rows s l) (lines_back r.all r.wrote.lines) ∙ mine
    by_refused (Some number) =
        let rows : List (List ℕ) = r.all ++ bad_line number ∷ [] in
        let bytes_are : due_so_far course (Some number) ≡ concat rows =
        ap (λ (l : List ℕ). l ++ bad_line number) r.written
        ∙ ap (λ (l : List ℕ). concat r.all ++ l) (sym (append-nil (bad_line number)))
        ∙ sym (concat-append r.all (bad_line number ∷ [])) in
        ap (λ (l : List ℕ). session_lines s l) bytes_are
        ∙ ap (λ (l : List (List ℕ)). session_rows s l) (lines_back rows (lines_joined r.all (bad_line number ∷ []) r.wrote.lines (bad_is_line number, tt)))
        ∙ joined_rows (is_of (codes "s") s) r.all (bad_line number ∷ []) (bad_of_none s number)
        ∙ mine

-- a number that no session has

past_end : {X : Type 0} (xs : List X) (k : ℕ) → slice_get xs k ≡ None → length xs ≤ k
past_end [] k none = omega arith
past_end (x ∷ xs) zero none = absurd (cc)
past_end (x ∷ xs) (suc k) none = let more : length xs ≤ k = past_end xs k none in omega (arith, more)

none_past : {X : Type 0} (xs : List X) (k : ℕ) → length xs ≤ k → slice_get xs k ≡ None
none_past [] k past = refl
none_past (x ∷ xs) zero past = absurd (omega (arith, past))
none_past (x ∷ xs) (suc k) past = let less : length xs ≤ k = omega (arith, past) in none_past xs k less

came_count : (entries : List Entry) (state : State) → length (came entries state).clients ≡ length state.clients
unfolding came
came_count entries state = length-map state.clients (told state.names state.log (history_after state.log entries))

ended_count : (devices : List ℕ) (state : State) → length (fold ended_at state devices).clients ≡ length state.clients
ended_count [] state = refl
ended_count (d ∷ devices) state = ended_count devices (ended_at state d) ∙ by_stop (stops_in d state.log)
  where
    by_stop : (b : Bool) → length (cond b state (came (ended d) state)).clients ≡ length state.clients
    by_stop true = refl
    by_stop false = came_count (ended d) state

end_count : (state : State) → length (shut (all_ended state)).clients ≡ length state.clients
end_count state =
    let late : State = all_ended state in
    length-map late.clients (closed late.log DaemonEnd) ∙ ended_count (range_with_len 0 (length state.names)) state

pub no_session_lines : (queue : ℕ) (script : List ℕ) (s : ℕ) → s < 2 ^ 64 → slice_get (last_state queue script).clients s ≡ None → session_lines s (run queue script) ≡ []
no_session_lines queue script s low none =
    let state : State = last_state queue script in
    let refused : Option ℕ = (whole_course (rules_of queue) script).refused in
    let o : Output queue script refused = output queue script refused refl in
    let past : length state.clients ≤ s = past_end state.clients s none in
    ap (λ (l : List (List ℕ)). session_rows s l) o.lines
    ∙ joined_rows (is_of (codes "s") s) o.rows (ends refused state) (none_at_end refused state o.rows o.wrote past)
    ∙ o.wrote.sessions.beyond s low past
  where
    none_at_end : (o : Option ℕ) (state : State) (rows : List (List ℕ)) → Wrote state rows → length state.clients ≤ s → session_rows s (ends o state) ≡ []
    none_at_end None state rows wrote past =
        let last : State = shut (all_ended state) in
        let are : AtEnd last rows = shut_sessions state rows wrote in
        let beyond : length last.clients ≤ s = omega (arith, end_count state, past) in
        last_of_session last s low are.count ∙ ap (rows_if last.names last.log s) (none_past last.clients s beyond)
    none_at_end (Some number) state rows wrote past = bad_of_none s number

-- ---- monitors

pub monitors_written : (queue : ℕ) (script : List ℕ) (m : ℕ) → m < 2 ^ 64
    → monitor_lines m (run queue script) ≡ map line_of (filter (is_by m) (readings_of queue (line_cut script)))
monitors_written queue script m low =
    let refused : Option ℕ = (whole_course (rules_of queue) script).refused in
    let o : Output queue script refused = output queue script refused refl in
    ap (λ (l : List (List ℕ)). monitor_rows m l) o.lines
    ∙ joined_rows (is_of (codes "m") m) o.rows (ends refused (last_state queue script)) (none_at_end refused (last_state queue script))
    ∙ o.readings_are m low
  where
    none_at_end : (o : Option ℕ) (state : State) → monitor_rows m (ends o state) ≡ []
    none_at_end None state = last_no_monitor m (shut (all_ended state))
    none_at_end (Some number) state = filtered (is_of (codes "m") m) false (bad_line number) [] (bad_of_no_monitor m number)
