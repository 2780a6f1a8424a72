-- How the run of one session goes on.
use Rattle.std.proofs.Common.{◌≡◌, ◌≤◌, inl, inr, ℕ, ◌+◌, Bool, List, [], ◌∷◌, ◌++◌, length, map, Option, Some, None, refl, sym, ap, ◌∙◌, subst, append-nil, append_assoc, arith, true, false, is_some}
use Rattle.std.proofs.lemmas.List.{map-append}
use Rattle.gps_report.specs.declared.report.Report.{Report}
use Rattle.session_core.specs.declared.mark.Close.{Close}
use Rattle.session_core.specs.Holding.{SessionGains, Holding, Selection, stretches_left}
use Rattle.session_core.specs.SessionView.{SessionView, turned, turned_closing, turned_marks}
use Rattle.session_core.specs.Stretches.{Stretch, AreInOrder, end_of, left_of, placed_from, plain_stretch}
use Rattle.session_core.proofs.Gaining.{over, taken, turned_holds}
use Rattle.book_batch.specs.Lines.{line_for}
use Rattle.book_log.specs.Entries.{Entry}
use Rattle.book_log.specs.History.{history, history_after}
use Rattle.book_log.proofs.Histories.{history-append}
use Rattle.book_replies.specs.declared.answering.Answer.{Answer}
use Rattle.book_sessions.specs.Answering.{Stops, stretch_at}
use Rattle.book_sessions.specs.MemberView.{MemberView}
use Rattle.book_sessions.specs.Roster.{ShutsBy}
use Rattle.book_sessions.specs.Spreading.{ReportsBy}
use Rattle.session_runs.specs.Runs.{SessionRun, IsHere, IsOver, IsRunOf, closed_from, items_over}
use Rattle.session_runs.specs.Following.{Extends, closing_after, closing_at, shut_run}
use Rattle.session_runs.specs.Laws.{AnswersExtendRuns, ClosingsEndRuns, ReportsExtendRuns, ShutsEndRuns, TakingKeepsRuns, TurnsKeepRuns}
use Rattle.session_runs.proofs.Joined.{left_is, left_joined, order_joined, order_later}
use Rattle.session_runs.proofs.Whole.{goes_on_here, items_over_then, nothing_after, stays_here, whole_length}

not_both : (c : Option (ℕ × Close)) (closing : ℕ × Close) → c ≡ None → c ≡ Some closing → ⊥
not_both None closing none some = absurd (cc)
not_both (Some other) closing none some = absurd (cc)

none_is_some : false ≡ true → ⊥
none_is_some some = absurd (cc)

-- it was closed before, and is now as it was
rests : (names : List (List ℕ)) (before log longer : List Entry) (old new : SessionView) (r : SessionRun) → IsOver before old r → new ≡ old
    → Extends names before log before longer old new [] r r
rests names before log longer old new r x same =
    let P : SessionView → Type 0 = λ s. Extends names before log before longer old s [] r r in
    subst P (sym same) (record {
      run = inr x;
      kept = sym (append-nil old.kept);
      items =
          items_over_then names before longer old r x
          ∙ sym (items_over_then names before log old r x)
          ∙ sym (append-nil (items_over names (before ++ log) r));
    })

reports_by : (c : Option (ℕ × Close)) (exact : Bool) (names : List (List ℕ)) (before log entries : List Entry) (reports : List Report) (old new : SessionView) (r : SessionRun)
    → history_after before (log ++ entries) ≡ history_after before log ++ reports → old.closing ≡ c
    → ReportsBy c exact (line_for names) (length (history_after before log)) reports old new → IsRunOf names before log old r
    → (more : List (List ℕ)) × Extends names before log before (log ++ entries) old new more r
    (record { stretches = r.stretches; closing = closing_after (length (history before)) c new.closing r.closing }) × (is_some c ≡ true → more ≡ [])
reports_by None exact names before log entries reports old new r longer is reported (inl x) =
    let lines : Selection = line_for names in
    let here : List Stretch = left_of x.earlier ++ x.later in
    let P : List Report → Type 0 = λ h. SessionGains lines (history_after before log) h old new here here reported.more in (
      reported.more,
      stays_here names before log (log ++ entries) old new reported.more r x
          (subst P (sym longer) (reported.gets.gains (history_after before log) here refl x.holding)),
      λ some. absurd (none_is_some some),
    )
reports_by None exact names before log entries reports old new r longer is reported (inr x) =
    absurd (not_both old.closing (0, x.why) is x.now)
reports_by (Some closing) exact names before log entries reports old new r longer is unreported (inl x) =
    let lines : Selection = line_for names in
    let here : List Stretch = left_of x.earlier ++ x.later in
    let P : List Report → Type 0 = λ h. SessionGains lines (history_after before log) h old old here here [] in
    let Q : Option (ℕ × Close) → Type 0 = λ c. Extends names before log before (log ++ entries) old old [] r (record { stretches = r.stretches; closing = c }) in
    let S : SessionView → Type 0 = λ s. Extends names before log before (log ++ entries) old s [] r r in (
      [],
      subst S (sym unreported.same) (subst Q (sym x.closing) (stays_here names before log (log ++ entries) old old [] r x
          (subst P (sym longer) (over lines closing (history_after before log) reports old here is x.holding.agrees)))),
      λ some. refl,
    )
reports_by (Some closing) exact names before log entries reports old new r longer is unreported (inr x) =
    ([], rests names before log (log ++ entries) old new r x unreported.same, λ some. refl)

pub reports_extend : ReportsExtendRuns
reports_extend exact names before log entries reports old new added reported r run =
    reports_by old.closing exact names before log entries reports old new r
    (history-append before log entries ∙ ap (λ l. history_after before log ++ l) added) refl reported run

-- ---- a turn

turn_here : (c : Option (ℕ × Close)) (names : List (List ℕ)) (before log : List Entry) (s : SessionView) (r : SessionRun) → s.closing ≡ c → IsHere names before log s r
    → IsRunOf names (before ++ log) [] (turned s) r
turn_here None names before log s r is x =
    let lines : Selection = line_for names in
    let base : ℕ = length (history before) in
    let here : List Stretch = left_of x.earlier ++ x.later in
    let agrees = x.holding.agrees in
    let end_is : end_of s.closing (history_after before log) ≡ length (history_after before log) = ap (λ c. end_of c (history_after before log)) is in
    let InOrder : ℕ → Type 0 = λ n. AreInOrder n here in
    let late : AreInOrder (length (history_after before log)) x.later = order_later (length (history_after before log)) x.earlier x.later (subst InOrder end_is agrees.order) in
    let joined = order_joined base (length (history_after before log)) x.earlier x.later x.order late in
    let AllOrder : ℕ → Type 0 = λ n. AreInOrder n r.stretches in
    let RunOrder : List Stretch → Type 0 = λ l. AreInOrder (base + length (history_after before log)) l in
    let left : left_of r.stretches ≡ plain_stretch 0 s.policy ∷ [] =
    ap left_of x.joined ∙ sym (left_joined base x.earlier x.later) ∙ left_is s.policy s.marks here (x.holding.opened is) agrees.marks agrees.policy in
    let Left : List Stretch → Type 0 = λ l. Holding lines [] (turned s) l in
    let Over : List Report → Type 0 = λ h. Holding lines h (turned s) (left_of r.stretches ++ []) in
    let held : Holding lines [] (turned s) (left_of r.stretches ++ []) =
    subst Left (ap (λ c. stretches_left c s.policy) is ∙ sym left ∙ sym (append-nil (left_of r.stretches))) (turned_holds lines s) in
    inl (record {
      earlier = r.stretches;
      later = [];
      joined = sym (append-nil r.stretches);
      order = subst AllOrder (sym (whole_length before log)) (subst RunOrder (sym x.joined) joined);
      holding = subst Over (sym (nothing_after (before ++ log))) held;
      closing = x.closing ∙ ap (closed_from base) is ∙ sym (ap (λ c. closed_from (length (history (before ++ log))) (turned_closing c)) is);
    })
turn_here (Some closing) names before log s r is x =
    let base : ℕ = length (history before) in
    let here : List Stretch = left_of x.earlier ++ x.later in
    let agrees = x.holding.agrees in
    let end_is : end_of s.closing (history_after before log) ≡ closing.0 = ap (λ c. end_of c (history_after before log)) is in
    let InOrder : ℕ → Type 0 = λ n. AreInOrder n here in
    let Inside : ℕ → Type 0 = λ n. n ≤ length (history_after before log) in
    let inside : closing.0 ≤ length (history_after before log) = subst Inside end_is agrees.within in
    let late : AreInOrder closing.0 x.later = order_later closing.0 x.earlier x.later (subst InOrder end_is agrees.order) in
    let RunOrder : List Stretch → Type 0 = λ l. AreInOrder (base + closing.0) l in
    inr (record {
      place = base + closing.0;
      why = closing.1;
      closing = x.closing ∙ ap (closed_from base) is;
      within = omega (arith, whole_length before log, inside);
      order = subst RunOrder (sym x.joined) (order_joined base closing.0 x.earlier x.later x.order late);
      now = ap turned_closing is;
      marks = ap (λ c. turned_marks c s.policy) is;
    })

turn_run : (names : List (List ℕ)) (before log : List Entry) (s : SessionView) (r : SessionRun) → IsRunOf names before log s r → IsRunOf names (before ++ log) [] (turned s) r
turn_run names before log s r (inl x) = turn_here s.closing names before log s r refl x
turn_run names before log s r (inr x) = inr (record {
  place = x.place;
  why = x.why;
  closing = x.closing;
  within = omega (arith, whole_length before log, x.within);
  order = x.order;
  now = ap turned_closing x.now;
  marks = ap (λ c. turned_marks c s.policy) x.now;
})

pub turns_keep : TurnsKeepRuns
turns_keep names before log s r run = record {
  run = turn_run names before log s r run;
  kept = sym (append-nil s.kept);
  items = ap (λ l. items_over names l r) (append-nil (before ++ log)) ∙ sym (append-nil (items_over names (before ++ log) r));
}

-- ---- answers

pub here_of : (names : List (List ℕ)) (before log : List Entry) (s : SessionView) (r : SessionRun) → s.closing ≡ None → IsRunOf names before log s r → IsHere names before log s r
here_of names before log s r is (inl x) = x
here_of names before log s r is (inr x) = absurd (not_both s.closing (0, x.why) is x.now)

stretches_placed : (base place whole : ℕ) (answers : List Answer) → base + place ≡ whole → map (placed_from base) (map (stretch_at place) answers) ≡ map (stretch_at whole) answers
stretches_placed base place whole [] at = refl
stretches_placed base place whole (answer ∷ answers) at =
    ap (λ n. stretch_at n answer ∷ map (placed_from base) (map (stretch_at place) answers)) at
    ∙ ap (λ l. stretch_at whole answer ∷ l) (stretches_placed base place whole answers at)

closing_placed : (base place whole left : ℕ) (s : SessionView) (now : Option (ℕ × Close)) → base + place ≡ whole → Stops place left s now → closed_from base now ≡ closing_at whole now
closing_placed base place whole left s None at stops = refl
closing_placed base place whole left s (Some closing) at stops = ap (λ n. Some (n, closing.1)) (ap (λ n. base + n) stops.1 ∙ at)

pub answers_extend : AnswersExtendRuns
answers_extend names before log place left old new answers r long is puts stops run =
    let lines : Selection = line_for names in
    let base : ℕ = length (history before) in
    let whole : ℕ = length (history (before ++ log)) in
    let x : IsHere names before log old.session r = here_of names before log old.session r is run in
    let put : List Stretch = map (stretch_at place) answers in
    let here : List Stretch = left_of x.earlier ++ x.later in
    let replies : List (List ℕ) = map (λ answer. answer.reply) answers in
    let at : base + place ≡ whole = omega (arith, whole_length before log, long) in
    let P : List Stretch → Type 0 = λ l. SessionGains lines (history_after before log) (history_after before log) old.session new.session here l replies in
    let gains : P (left_of x.earlier ++ (x.later ++ put)) =
    subst P (append_assoc (left_of x.earlier) x.later put) (puts.gains lines (history_after before log) here long x.holding) in
    let Q : List Stretch → Type 0 = λ l. Extends names before log before log old.session new.session replies r (record { stretches = l; closing = closed_from base new.session.closing }) in
    let R : Option (ℕ × Close) → Type 0 = λ c. Extends names before log before log old.session new.session replies r (record { stretches = r.stretches ++ map (stretch_at whole) answers; closing = c }) in
    let stretches_are : x.earlier ++ map (placed_from base) (x.later ++ put) ≡ r.stretches ++ map (stretch_at whole) answers =
    ap (λ l. x.earlier ++ l) (map-append (placed_from base) x.later put)
    ∙ sym (append_assoc x.earlier (map (placed_from base) x.later) (map (placed_from base) put))
    ∙ ap (λ l. l ++ map (placed_from base) put) (sym x.joined)
    ∙ ap (λ l. r.stretches ++ l) (stretches_placed base place whole answers at) in
    subst R (closing_placed base place whole left new.session new.session.closing at stops)
    (subst Q stretches_are (goes_on_here names before log log old.session new.session (x.later ++ put) replies r x gains))

-- ---- closings

pub closings_end : ClosingsEndRuns
closings_end names before log place why old new r long is closes run =
    let lines : Selection = line_for names in
    let base : ℕ = length (history before) in
    let whole : ℕ = length (history (before ++ log)) in
    let x : IsHere names before log old.session r = here_of names before log old.session r is run in
    let at : base + place ≡ whole = omega (arith, whole_length before log, long) in
    let R : Option (ℕ × Close) → Type 0 = λ c. Extends names before log before log old.session new.session [] r (record { stretches = r.stretches; closing = c }) in
    let closing_is : closed_from base new.session.closing ≡ Some (whole, why) =
    ap (λ (a : MemberView). closed_from base a.session.closing) closes.becomes ∙ ap (λ n. Some (n, why)) at in
    subst R closing_is (stays_here names before log log old.session new.session [] r x (closes.gains lines (history_after before log) (left_of x.earlier ++ x.later) long x.holding))

same_run : (names : List (List ℕ)) (before log : List Entry) (s : SessionView) (r : SessionRun) → IsRunOf names before log s r → Extends names before log before log s s [] r r
same_run names before log s r run = record { run = run; kept = sym (append-nil s.kept); items = sym (append-nil (items_over names (before ++ log) r)) }

shut_by : (c : Option (ℕ × Close)) (names : List (List ℕ)) (before log : List Entry) (place : ℕ) (why : Close) (old new : MemberView) (r : SessionRun)
    → old.session.closing ≡ c → length (history_after before log) ≡ place → ShutsBy c place why old new → IsRunOf names before log old.session r
    → Extends names before log before log old.session new.session [] r (shut_run (before ++ log) why c r)
shut_by None names before log place why old new r is long shuts run = closings_end names before log place why old new r long is shuts run
shut_by (Some closing) names before log place why old new r is long shuts run =
    let P : MemberView → Type 0 = λ a. Extends names before log before log old.session a.session [] r r in
    subst P (sym shuts) (same_run names before log old.session r run)

pub shuts_end : ShutsEndRuns
shuts_end names before log place why old new r long shuts run = shut_by old.session.closing names before log place why old new r refl long shuts run

-- ---- taking

pub taking_keeps : TakingKeepsRuns
taking_keeps names before log a kept r is (inl x) =
    let s : SessionView = a.session in
    let lines : Selection = line_for names in
    let P : List (List ℕ) → Type 0 = λ l. Holding lines (history_after before log) (record s { kept = l }) (left_of x.earlier ++ x.later) in
    inl (record {
      earlier = x.earlier;
      later = x.later;
      joined = x.joined;
      order = x.order;
      holding = subst P (sym is) (taken lines (history_after before log) s (left_of x.earlier ++ x.later) x.holding);
      closing = x.closing;
    })
taking_keeps names before log a kept r is (inr x) =
    inr (record { place = x.place; why = x.why; closing = x.closing; within = x.within; order = x.order; now = x.now; marks = x.marks })
