-- How the items of a session's run go on: reports, answers and closings take none away.
use Rattle.std.proofs.Common.{◌≡◌, ℕ, ◌+◌, ◌-◌, ◌≤◌, Bool, true, false, not, cond, List, [], ◌∷◌, ◌++◌, length, map, take, drop, Option, Some, None, is_some, refl, sym, ap, ◌∙◌, subst, append-nil, append_assoc, arith, take-append-drop, le_refl, nat_le}
use Rattle.std.specs.List.{AllByRecursion}
use Rattle.std.proofs.lemmas.List.{length-append, length-take-le}
use Rattle.gps_report.specs.declared.report.Report.{Report}
use Rattle.gps_report.specs.declared.policy.Policy.{Policy}
use Rattle.session_core.specs.declared.mark.Close.{Close}
use Rattle.session_core.specs.Holding.{Selection}
use Rattle.session_core.specs.Stretches.{Stretch, AreInOrder, end_of, items_to, last_watched, selected, session_items}
use Rattle.session_core.proofs.Growth.{items_grow, items_marked, items_stay}
use Rattle.session_core.proofs.Intervals.{order_longer, order_marked}
use Rattle.book_batch.specs.Lines.{line_for}
use Rattle.book_log.specs.Entries.{Entry}
use Rattle.book_log.specs.History.{history, history_after}
use Rattle.book_log.proofs.HistoryLaws.{whole_history}
use Rattle.book_replies.specs.declared.answering.Answer.{Answer}
use Rattle.book_sessions.specs.Answering.{stretch_at}
use Rattle.book_sessions.specs.Spreading.{Due, due, due_at}
use Rattle.session_runs.specs.Runs.{SessionRun}
use Rattle.session_runs.specs.Following.{opened_run, shut_run}
use Rattle.replay_player.specs.Clients.{Client, answerable, answers_to, closed, is_open, lines_due, new_requests, overrun_at, overrun_by, policy_of, refusal, room_of, served, told}
use Rattle.report_book.specs.Knowing.{known_in}
use Rattle.replay_laws.proofs.Apart.{HasApartReply, IsApartAnswer, all_dropped, all_taken, answers_apart, opening_apart}
use Rattle.replay_laws.proofs.Stamps.{all_both}

-- the stretches of a run are in order, its end within the history, and no reply begins as a closing line does
pub record IsInside (h : List Report) (r : SessionRun) : Type 0 where
  pub order : AreInOrder (end_of r.closing h) r.stretches
  pub within : end_of r.closing h ≤ length h
  pub replies : AllByRecursion HasApartReply r.stretches

-- over a longer history, the items begin with what they were
pub record GoesOn (lines : Selection) (h longer : List Report) (r next : SessionRun) : Type 0 where
  pub more : List (List ℕ)
  pub items : session_items lines next.closing next.stretches longer ≡ session_items lines r.closing r.stretches h ++ more
  pub inside : IsInside longer next

abbrev run_of : List Stretch → Option (ℕ × Close) → SessionRun
run_of stretches closing = record { stretches = stretches; closing = closing }

-- ---- reports

-- up to an end within the longer history
pub record Gained (lines : Selection) (end : ℕ) (stretches : List Stretch) (h more : List Report) : Type 0 where
  pub gained : List (List ℕ)
  pub is : items_to lines end stretches (h ++ more) ≡ items_to lines (length h) stretches h ++ gained

-- the items of a run that is not closed before this end: those that it had, and what its last policy selects of the reports up to the end
pub items_up_to : (lines : Selection) (end : ℕ) (stretch : Stretch) (rest : List Stretch) (h more : List Report) → AreInOrder (length h) (stretch ∷ rest) → length h ≤ end
    → end ≤ length (h ++ more)
    → items_to lines end (stretch ∷ rest) (h ++ more)
    ≡ items_to lines (length h) (stretch ∷ rest) h ++ selected lines (last_watched stretch.policy rest) (take (end - length h) more)
items_up_to lines end stretch rest h more order from to =
    let n : ℕ = end - length h in
    let front : List Report = take n more in
    let back : List Report = drop n more in
    let long : length (h ++ more) ≡ length h + length more = length-append h more in
    let few : n ≤ length more = omega (arith, from, to, long) in
    let part : length front ≡ n = length-take-le n more few in
    let joined : length (h ++ front) ≡ length h + length front = length-append h front in
    let size : length (h ++ front) ≡ end = omega (arith, part, joined, from) in
    let whole : h ++ more ≡ (h ++ front) ++ back = ap (λ (l : List Report). h ++ l) (sym (take-append-drop n more)) ∙ sym (append_assoc h front back) in
    let later : AreInOrder end (stretch ∷ rest) = order_longer (length h) end (stretch ∷ rest) from order in
    let inside : end ≤ length (h ++ front) = omega (arith, size) in
    ap (λ (l : List Report). items_to lines end (stretch ∷ rest) l) whole
    ∙ items_stay lines end (stretch ∷ rest) (h ++ front) back inside later
    ∙ ap (λ (k : ℕ). items_to lines k (stretch ∷ rest) (h ++ front)) (sym size)
    ∙ items_grow lines stretch rest h front order

grown : (lines : Selection) (end : ℕ) (stretches : List Stretch) (h more : List Report) → AreInOrder (length h) stretches → length h ≤ end → end ≤ length (h ++ more)
    → Gained lines end stretches h more
grown lines end [] h more order from to = record { gained = []; is = refl }
grown lines end (stretch ∷ rest) h more order from to =
    record {
      gained = selected lines (last_watched stretch.policy rest) (take (end - length h) more);
      is = items_up_to lines end stretch rest h more order from to;
    }

-- where a closing is
abbrev EndsWithin : ℕ → ℕ → Option (ℕ × Close) → Type 0
EndsWithin from to None = Unit {0}
EndsWithin from to (Some closing) = (from ≤ closing.0) × (closing.0 ≤ to)

open_on : (lines : Selection) (h more : List Report) (stretches : List Stretch) (now : Option (ℕ × Close)) → AreInOrder (length h) stretches → AllByRecursion HasApartReply stretches
    → EndsWithin (length h) (length (h ++ more)) now → GoesOn lines h (h ++ more) (run_of stretches None) (run_of stretches now)
open_on lines h more stretches None order replies ends =
    let long : length (h ++ more) ≡ length h + length more = length-append h more in
    let from : length h ≤ length (h ++ more) = omega (arith, long) in
    let g : Gained lines (length (h ++ more)) stretches h more = grown lines (length (h ++ more)) stretches h more order from (le_refl (length (h ++ more))) in
    record {
      more = g.gained;
      items = g.is;
      inside = record { order = order_longer (length h) (length (h ++ more)) stretches from order; within = le_refl (length (h ++ more)); replies = replies };
    }
open_on lines h more stretches (Some closing) order replies ends =
    let g : Gained lines closing.0 stretches h more = grown lines closing.0 stretches h more order ends.0 ends.1 in
    record {
      more = g.gained;
      items = g.is;
      inside = record { order = order_longer (length h) closing.0 stretches ends.0 order; within = ends.1; replies = replies };
    }

closed_on : (lines : Selection) (h more : List Report) (stretches : List Stretch) (closing : ℕ × Close) → AreInOrder closing.0 stretches → closing.0 ≤ length h → AllByRecursion HasApartReply stretches
    → GoesOn lines h (h ++ more) (run_of stretches (Some closing)) (run_of stretches (Some closing))
closed_on lines h more stretches closing order within replies =
    let long : length (h ++ more) ≡ length h + length more = length-append h more in
    record {
      more = [];
      items = items_stay lines closing.0 stretches h more within order ∙ sym (append-nil (items_to lines closing.0 stretches h));
      inside = record { order = order; within = omega (arith, within, long); replies = replies };
    }

-- the places of what is due
abbrev IsDueWithin : ℕ → ℕ → Due → Type 0
IsDueWithin from to d = (from ≤ d.place) × (d.place ≤ to)

lines_within : (from to place : ℕ) (texts : List (List ℕ)) → from ≤ place → place ≤ to → AllByRecursion (IsDueWithin from to) (map (due_at place) texts)
lines_within from to place [] low high = tt
lines_within from to place (text ∷ texts) low high = ((low, high), lines_within from to place texts low high)

due_within : (lines : Selection) (policy : Policy) (from to place : ℕ) (reports : List Report) → from ≤ place → place + length reports ≤ to
    → AllByRecursion (IsDueWithin from to) (due lines policy place reports)
due_within lines policy from to place [] low high = tt
due_within lines policy from to place (report ∷ reports) low high =
    let here : place ≤ to = omega (arith, high) in
    let up : from ≤ place + 1 = omega (arith, low) in
    let rest : place + 1 + length reports ≤ to = omega (arith, high) in
    all_both (IsDueWithin from to) (map (due_at place) (lines policy report)) (due lines policy (place + 1) reports)
    (lines_within from to place (lines policy report) low here)
    (due_within lines policy from to (place + 1) reports up rest)

overrun_within : (from to : ℕ) (dues : List Due) → AllByRecursion (IsDueWithin from to) dues → EndsWithin from to (overrun_at dues)
overrun_within from to [] all = tt
overrun_within from to (d ∷ dues) all = all.0

run_on : (lines : Selection) (h more : List Report) (stretches : List Stretch) (was : Option (ℕ × Close)) (dues : List Due) → IsInside h (run_of stretches was)
    → AllByRecursion (IsDueWithin (length h) (length (h ++ more))) dues → GoesOn lines h (h ++ more) (run_of stretches was) (run_of stretches (overrun_by was dues))
run_on lines h more stretches None dues inside all =
    open_on lines h more stretches (overrun_at dues) inside.order inside.replies (overrun_within (length h) (length (h ++ more)) dues all)
run_on lines h more stretches (Some closing) dues inside all = closed_on lines h more stretches closing inside.order inside.within inside.replies

pub told_on : (names : List (List ℕ)) (log entries : List Entry) (c : Client) → IsInside (history log) c.run
    → GoesOn (line_for names) (history log) (history (log ++ entries)) c.run (told names log (history_after log entries) c).run
unfolding told
told_on names log entries c inside =
    let h : List Report = history log in
    let more : List Report = history_after log entries in
    let dues : List Due = lines_due names log more c in
    let next : SessionRun = run_of c.run.stretches (overrun_by c.run.closing (drop (room_of names log c) dues)) in
    let long : length (h ++ more) ≡ length h + length more = length-append h more in
    let low : length h ≤ length h = le_refl (length h) in
    let high : length h + length more ≤ length (h ++ more) = omega (arith, long) in
    let all : AllByRecursion (IsDueWithin (length h) (length (h ++ more))) dues =
    due_within (line_for names) (policy_of c) (length h) (length (h ++ more)) (length h) more low high in
    subst (λ (l : List Report). GoesOn (line_for names) h l c.run next) (sym (whole_history log entries))
    (run_on (line_for names) h more c.run.stretches c.run.closing (drop (room_of names log c) dues) inside
    (all_dropped (IsDueWithin (length h) (length (h ++ more))) (room_of names log c) dues all))

-- ---- answers

record Marked (lines : Selection) (h : List Report) (end : ℕ) (stretches : List Stretch) (answers : List Answer) : Type 0 where
  replies : AllByRecursion HasApartReply (stretches ++ map (stretch_at end) answers)
  order : AreInOrder end (stretches ++ map (stretch_at end) answers)
  more : List (List ℕ)
  items : items_to lines end (stretches ++ map (stretch_at end) answers) h ≡ items_to lines end stretches h ++ more

marked : (lines : Selection) (h : List Report) (end : ℕ) (stretches : List Stretch) (answers : List Answer) → AreInOrder end stretches → AllByRecursion HasApartReply stretches
    → AllByRecursion IsApartAnswer answers → Marked lines h end stretches answers
marked lines h end stretches [] order replies apart =
    record {
      replies = subst (AllByRecursion HasApartReply) (sym (append-nil stretches)) replies;
      order = subst (AreInOrder end) (sym (append-nil stretches)) order;
      more = [];
      items = ap (λ (l : List Stretch). items_to lines end l h) (append-nil stretches) ∙ sym (append-nil (items_to lines end stretches h));
    }
marked lines h end stretches (a ∷ rest) order replies apart =
    let last : Stretch = stretch_at end a in
    let one : AreInOrder end (stretches ++ last ∷ []) = order_marked end stretches last refl order in
    let two : AllByRecursion HasApartReply (stretches ++ last ∷ []) = all_both HasApartReply stretches (last ∷ []) replies (apart.0, tt) in
    let next : Marked lines h end (stretches ++ last ∷ []) rest = marked lines h end (stretches ++ last ∷ []) rest one two apart.1 in
    let join : (stretches ++ last ∷ []) ++ map (stretch_at end) rest ≡ stretches ++ (last ∷ map (stretch_at end) rest) = append_assoc stretches (last ∷ []) (map (stretch_at end) rest) in
    record {
      replies = subst (AllByRecursion HasApartReply) join next.replies;
      order = subst (AreInOrder end) join next.order;
      more = a.reply ∷ next.more;
      items =
          ap (λ (l : List Stretch). items_to lines end l h) (sym join)
          ∙ next.items
          ∙ ap (λ (l : List (List ℕ)). l ++ next.more) (items_marked lines end stretches last h refl)
          ∙ append_assoc (items_to lines end stretches h) (a.reply ∷ []) next.more;
    }

answered_on : (lines : Selection) (h : List Report) (stretches : List Stretch) (answers : List Answer) (b : Bool) (why : Close) → AreInOrder (length h) stretches
    → AllByRecursion HasApartReply stretches → AllByRecursion IsApartAnswer answers
    → GoesOn lines h h (run_of stretches None) (run_of (stretches ++ map (stretch_at (length h)) answers) (cond b None (Some (length h, why))))
answered_on lines h stretches answers true why order replies apart =
    let m : Marked lines h (length h) stretches answers = marked lines h (length h) stretches answers order replies apart in
    record { more = m.more; items = m.items; inside = record { order = m.order; within = le_refl (length h); replies = m.replies } }
answered_on lines h stretches answers false why order replies apart =
    let m : Marked lines h (length h) stretches answers = marked lines h (length h) stretches answers order replies apart in
    record { more = m.more; items = m.items; inside = record { order = m.order; within = le_refl (length h); replies = m.replies } }

open_answered : (lines : Selection) (h : List Report) (stretches : List Stretch) (was : Option (ℕ × Close)) (answers : List Answer) (b : Bool) (why : Close)
    → not (is_some was) ≡ true → IsInside h (run_of stretches was) → AllByRecursion IsApartAnswer answers
    → GoesOn lines h h (run_of stretches was) (run_of (stretches ++ map (stretch_at (length h)) answers) (cond b None (Some (length h, why))))
open_answered lines h stretches None answers b why is inside apart = answered_on lines h stretches answers b why inside.order inside.replies apart
open_answered lines h stretches (Some closing) answers b why is inside apart = absurd (cc)

pub served_on : (names : List (List ℕ)) (log : List Entry) (piece : List ℕ) (c : Client) → is_open c ≡ true → IsInside (history log) c.run
    → GoesOn (line_for names) (history log) (history log) c.run (served names log piece c).run
unfolding served
served_on names log piece c is inside =
    open_answered (line_for names) (history log) c.run.stretches c.run.closing (take (answerable names log c) (answers_to names log piece c))
    (nat_le (length (answers_to names log piece c)) (answerable names log c)) (refusal names log c) is inside
    (all_taken IsApartAnswer (answerable names log c) (answers_to names log piece c) (answers_apart (known_in (length names) log) names (policy_of c) (new_requests c.heard piece)))

-- ---- closings

pub shut_on : (lines : Selection) (log : List Entry) (why : Close) (was : Option (ℕ × Close)) (stretches : List Stretch) → IsInside (history log) (run_of stretches was)
    → GoesOn lines (history log) (history log) (run_of stretches was) (shut_run log why was (run_of stretches was))
shut_on lines log why None stretches inside =
    record {
      more = [];
      items = sym (append-nil (items_to lines (length (history log)) stretches (history log)));
      inside = record { order = inside.order; within = le_refl (length (history log)); replies = inside.replies };
    }
shut_on lines log why (Some closing) stretches inside =
    record {
      more = [];
      items = sym (append-nil (items_to lines closing.0 stretches (history log)));
      inside = record { order = inside.order; within = inside.within; replies = inside.replies };
    }

pub closed_run_on : (names : List (List ℕ)) (log : List Entry) (why : Close) (c : Client) → IsInside (history log) c.run
    → GoesOn (line_for names) (history log) (history log) c.run (closed log why c).run
closed_run_on names log why c inside = shut_on (line_for names) log why c.run.closing c.run.stretches inside

-- a session that is closed has a closing
pub record HasClosing (c : Client) : Type 0 where
  pub place : ℕ
  pub why : Close
  pub is : c.run.closing ≡ Some (place, why)

pub closed_has : (log : List Entry) (why : Close) (c : Client) → HasClosing (closed log why c)
closed_has log why c = by_closing c.run.closing
  where
    by_closing : (was : Option (ℕ × Close)) → HasClosing (record c { run = shut_run log why was (run_of c.run.stretches was) })
    by_closing None = record { place = length (history log); why = why; is = refl }
    by_closing (Some closing) = record { place = closing.0; why = closing.1; is = refl }

-- a new session
pub opened_inside : (log : List Entry) → IsInside (history log) (opened_run log)
opened_inside log = record { order = (le_refl (length (history log)), tt); within = le_refl (length (history log)); replies = (opening_apart, tt) }
