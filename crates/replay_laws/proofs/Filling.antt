-- How many items a session of a script has when its outlet is full.
use Rattle.std.proofs.Common.{◌≡◌, ℕ, zero, suc, ◌+◌, ◌-◌, ◌≤◌, List, [], ◌∷◌, ◌++◌, length, map, take, drop, Option, Some, None, refl, sym, ap, ◌∙◌, subst, append-nil, append_assoc, arith}
use Rattle.std.specs.Prelude.{unwrap_or}
use Rattle.std.proofs.lemmas.List.{length-append}
use Rattle.gps_report.specs.declared.policy.Form.{Form}
use Rattle.gps_report.specs.declared.policy.Policy.{Policy}
use Rattle.gps_report.specs.declared.report.Report.{Report}
use Rattle.session_core.specs.declared.mark.Close.{Close}
use Rattle.session_core.specs.declared.mark.Close.TheVariants.{Overrun}
use Rattle.session_core.specs.Holding.{Selection}
use Rattle.session_core.specs.Stretches.{Stretch, items_to, selected}
use Rattle.session_core.proofs.Growth.{items_marked}
use Rattle.book_batch.specs.Lines.{line_for, line_in}
use Rattle.book_replies.specs.declared.answering.Answer.{Answer}
use Rattle.book_sessions.specs.Answering.{stretch_at}
use Rattle.book_sessions.specs.Spreading.{due, due_at}
use Rattle.watch_policy.specs.Selection.{selected as form_of}
use Rattle.replay_player.specs.Clients.{overrun_at}

-- a report has one line or none
pub one_line : (names : List (List ℕ)) (policy : Policy) (report : Report) → length (line_for names policy report) ≤ 1
one_line names policy report = by_form (form_of policy names report)
  where
    by_form : (o : Option Form) → length (line_in names report o) ≤ 1
    by_form None = omega arith
    by_form (Some form) = omega arith

-- if the line after this many closes a session, this many come before its place
pub record Overran (lines : Selection) (policy : Policy) (place : ℕ) (reports : List Report) (room at : ℕ) (why : Close) : Type 0 where
  pub from : place ≤ at
  pub to : at ≤ place + length reports
  pub cause : why ≡ Overrun
  pub count : room ≤ length (selected lines policy (take (at - place) reports))

pub overran : (lines : Selection) → ((policy : Policy) (report : Report) → length (lines policy report) ≤ 1) → (policy : Policy) (place : ℕ) (reports : List Report) (room at : ℕ) (why : Close)
    → overrun_at (drop room (due lines policy place reports)) ≡ Some (at, why) → Overran lines policy place reports room at why
overran lines single policy place [] zero at why is = absurd (cc)
overran lines single policy place [] (suc room) at why is = absurd (cc)
overran lines single policy place (report ∷ reports) room at why is =
    by_line (lines policy report) refl (single policy report) room is (λ k there. overran lines single policy (place + 1) reports k at why there)
  where
    later : (k : ℕ) (texts : List (List ℕ)) → lines policy report ≡ texts → Overran lines policy (place + 1) reports k at why
        → Overran lines policy place (report ∷ reports) (length texts + k) at why
    later k texts here over =
        let n : ℕ = at - (place + 1) in
        let next : at - place ≡ suc n = omega (arith, over.from) in
        let front : selected lines policy (take (at - place) (report ∷ reports)) ≡ texts ++ selected lines policy (take n reports) =
        ap (λ (m : ℕ). selected lines policy (take m (report ∷ reports))) next
        ∙ ap (λ (l : List (List ℕ)). l ++ selected lines policy (take n reports)) here in
        let long : length (texts ++ selected lines policy (take n reports)) ≡ length texts + length (selected lines policy (take n reports)) =
        length-append texts (selected lines policy (take n reports)) in
        let size : length (selected lines policy (take (at - place) (report ∷ reports))) ≡ length (texts ++ selected lines policy (take n reports)) =
        ap (λ (l : List (List ℕ)). length l) front in
        record {
          from = omega (arith, over.from);
          to = omega (arith, over.to);
          cause = over.cause;
          count = omega (arith, size, long, over.count);
        }

    by_line : (texts : List (List ℕ)) → lines policy report ≡ texts → length (lines policy report) ≤ 1 → (k : ℕ)
        → overrun_at (drop k (map (due_at place) (lines policy report) ++ due lines policy (place + 1) reports)) ≡ Some (at, why)
        → ((j : ℕ) → overrun_at (drop j (due lines policy (place + 1) reports)) ≡ Some (at, why) → Overran lines policy (place + 1) reports j at why)
        → Overran lines policy place (report ∷ reports) k at why
    by_line [] here few k closes go_on =
        let plain : 0 + k ≡ k = omega arith in
        subst (λ (n : ℕ). Overran lines policy place (report ∷ reports) n at why) plain
        (later k [] here (go_on k
        (subst (λ (l : List (List ℕ)). overrun_at (drop k (map (due_at place) l ++ due lines policy (place + 1) reports)) ≡ Some (at, why)) here closes)))
    by_line (text ∷ []) here few zero closes go_on =
        let now : overrun_at (due_at place text ∷ due lines policy (place + 1) reports) ≡ Some (at, why) =
        subst (λ (l : List (List ℕ)). overrun_at (drop 0 (map (due_at place) l ++ due lines policy (place + 1) reports)) ≡ Some (at, why)) here closes in
        let place_is : place ≡ at = ap (λ (o : Option (ℕ × Close)). (unwrap_or o (at, why)).0) now in
        let why_is : Overrun ≡ why = ap (λ (o : Option (ℕ × Close)). (unwrap_or o (at, why)).1) now in
        record { from = omega (arith, place_is); to = omega (arith, place_is); cause = sym why_is; count = omega arith }
    by_line (text ∷ []) here few (suc k) closes go_on =
        let next : 1 + k ≡ suc k = omega arith in
        subst (λ (n : ℕ). Overran lines policy place (report ∷ reports) n at why) next
        (later k (text ∷ []) here (go_on k
        (subst (λ (l : List (List ℕ)). overrun_at (drop (suc k) (map (due_at place) l ++ due lines policy (place + 1) reports)) ≡ Some (at, why)) here closes)))
    by_line (text ∷ other ∷ texts) here few k closes go_on =
        let more : length (lines policy report) ≡ length (text ∷ other ∷ texts) = ap (λ (l : List (List ℕ)). length l) here in
        absurd (omega (arith, more, few))

-- each answer that is pushed at the end is one item more
pub answers_count : (lines : Selection) (h : List Report) (end : ℕ) (stretches : List Stretch) (answers : List Answer)
    → length (items_to lines end (stretches ++ map (stretch_at end) answers) h) ≡ length (items_to lines end stretches h) + length answers
answers_count lines h end stretches [] =
    let same : length (items_to lines end (stretches ++ []) h) ≡ length (items_to lines end stretches h) =
    ap (λ (l : List Stretch). length (items_to lines end l h)) (append-nil stretches) in
    omega (arith, same)
answers_count lines h end stretches (a ∷ answers) =
    let last : Stretch = stretch_at end a in
    let join : (stretches ++ last ∷ []) ++ map (stretch_at end) answers ≡ stretches ++ (last ∷ map (stretch_at end) answers) =
    append_assoc stretches (last ∷ []) (map (stretch_at end) answers) in
    let rest : length (items_to lines end ((stretches ++ last ∷ []) ++ map (stretch_at end) answers) h) ≡ length (items_to lines end (stretches ++ last ∷ []) h) + length answers =
    answers_count lines h end (stretches ++ last ∷ []) answers in
    let one : length (items_to lines end (stretches ++ last ∷ []) h) ≡ length (items_to lines end stretches h ++ a.reply ∷ []) =
    ap (λ (l : List (List ℕ)). length l) (items_marked lines end stretches last h refl) in
    let two : length (items_to lines end stretches h ++ a.reply ∷ []) ≡ length (items_to lines end stretches h) + 1 = length-append (items_to lines end stretches h) (a.reply ∷ []) in
    let whole : length (items_to lines end (stretches ++ (last ∷ map (stretch_at end) answers)) h)
    ≡ length (items_to lines end ((stretches ++ last ∷ []) ++ map (stretch_at end) answers) h) =
    ap (λ (l : List Stretch). length (items_to lines end l h)) (sym join) in
    omega (arith, whole, rest, one, two)

-- what an outlet keeps, if this many of its items were taken
pub kept_count : {X : Type 0} (n : ℕ) (xs : List X) → n ≤ length xs → length (drop n xs) + n ≡ length xs
kept_count zero xs few = omega arith
kept_count (suc n) [] few = absurd (omega (arith, few))
kept_count (suc n) (x ∷ xs) few =
    let less : n ≤ length xs = omega (arith, few) in
    let rest : length (drop n xs) + n ≡ length xs = kept_count n xs less in
    omega (arith, rest)
