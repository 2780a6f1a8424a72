-- What is allowed still after some of it was put, and along a walk.
use Rattle.std.proofs.Common.{◌≡◌, ◌<◌, ℕ, suc, ◌+◌, ◌-◌, ◌^◌, Bool, true, false, List, [], ◌∷◌, ◌++◌, length, map, take, drop, get_or, set, Option, Some, None, option_to_list, IfSome, MatchOption, refl, sym, ap, ◌∙◌, subst, append_assoc, length-append, cond, add-one, drop-cons, arith}
use Rattle.std.specs.List.{All}
use Rattle.std.proofs.lemmas.List.{set_at}
use Rattle.std.proofs.lemmas.List.Elements.{All-head, All-tail}
use Rattle.gps_command.specs.declared.request.RawCommand.{RawCommand}
use Rattle.gps_report.specs.declared.policy.Policy.{Policy}
use Rattle.gps_report.specs.declared.report.Report.{Report}
use Rattle.book_replies.specs.declared.answering.Answer.{Answer}
use Rattle.book_replies.specs.ReplyDataView.{ReplyDataView}
use Rattle.book_replies.specs.Replies.{answered}
use Rattle.session_core.specs.Allowing.{AllowsAll}
use Rattle.session_core.specs.Holding.{Selection}
use Rattle.session_core.specs.Naming.{OutletName}
use Rattle.session_core.specs.declared.mark.Close.TheVariants.{Overrun}
use Rattle.session_core.specs.declared.outlet.Push.{Push}
use Rattle.session_core.specs.declared.outlet.Push.TheVariants.{Done}
use Rattle.session_core.specs.Pushing.{MatchPush}
use Rattle.session_core.specs.SessionView.{SessionView, closed_at, given}
use Rattle.session_core.specs.Stretches.{selected}
use Rattle.book_sessions.specs.Allowing.{MayReply, replies_left}
use Rattle.book_sessions.specs.Answering.{MayAnswer, put}
use Rattle.book_sessions.specs.MemberView.{MemberView}
use Rattle.book_sessions.specs.Spreading.{TakesDue, due, due_at}
use Rattle.book_sessions.specs.Walks.{MayWalk, numbers}
use Rattle.book_sessions.proofs.Answered.{one_put}
use Rattle.book_sessions.proofs.Walking.{got_at}

-- the next report of a slice
pub report_here : (reports : List Report) (i : ℕ) (x : Report) → i < length reports → x ≡ get_or reports i x → drop i reports ≡ x ∷ drop (i + 1) reports
report_here reports i x within is =
    let here : drop i reports ≡ get_or reports i x ∷ drop (i + 1) reports = rw (add-one, drop-cons reports i x) refl in
    here ∙ ap (λ y. y ∷ drop (i + 1) reports) (sym is)

-- what a report that did not overrun makes of a session
pub was_put : (exact : Bool) (place : ℕ) (line : Option (List ℕ)) (push : Push) (old now : SessionView) → push ≡ Done
    → MatchOption line ((push ≡ Done) × (now ≡ old)) (λ l. MayAnswer exact old push × MatchPush push (now ≡ given l old) (now ≡ closed_at place Overrun old))
    → MatchOption line (now ≡ old) (λ l. now ≡ given l old)
was_put exact place None push old now is same = same.1
was_put exact place (Some l) push old now is answer =
    let P : Push → Type 0 = λ p. MatchPush p (now ≡ given l old) (now ≡ closed_at place Overrun old) in
    subst P is answer.1

-- taking what is due of the later reports ends the taking of all
pub takes_later : (exact : Bool) (lines : Selection) (place : ℕ) (report : Report) (reports : List Report) (line : Option (List ℕ)) (push : Push) (old now : SessionView)
    → option_to_list line ≡ lines old.policy report → push ≡ Done
    → MatchOption line ((push ≡ Done) × (now ≡ old)) (λ l. MayAnswer exact old push × MatchPush push (now ≡ given l old) (now ≡ closed_at place Overrun old))
    → (new : SessionView) → TakesDue exact (due lines now.policy (place + 1) reports) now new → TakesDue exact (due lines old.policy place (report ∷ reports)) old new
takes_later exact lines place report reports None push old now is done same new takes =
    let P : SessionView → Type 0 = λ s. TakesDue exact (due lines s.policy (place + 1) reports) s new in
    let Q : List (List ℕ) → Type 0 = λ l. TakesDue exact (map (due_at place) l ++ due lines old.policy (place + 1) reports) old new in
    subst Q is (subst P same.1 takes)
takes_later exact lines place report reports (Some l) push old now is done answer new takes =
    let P : SessionView → Type 0 = λ s. TakesDue exact (due lines s.policy (place + 1) reports) s new in
    let Q : List (List ℕ) → Type 0 = λ ls. TakesDue exact (map (due_at place) ls ++ due lines old.policy (place + 1) reports) old new in
    let M : Push → Type 0 = λ p. MatchPush p (now ≡ given l old) (now ≡ closed_at place Overrun old) in
    let A : Push → Type 0 = λ p. MayAnswer exact old p in
    let gets : now ≡ given l old = subst M done answer.1 in
    subst Q is (Done, subst A done answer.0, subst P gets takes)

-- a session that did not overrun is open, and has its marks
pub open_later : (exact : Bool) (place : ℕ) (line : Option (List ℕ)) (push : Push) (old now : SessionView) → push ≡ Done
    → MatchOption line ((push ≡ Done) × (now ≡ old)) (λ l. MayAnswer exact old push × MatchPush push (now ≡ given l old) (now ≡ closed_at place Overrun old))
    → (now.closing ≡ old.closing) × (now.marks ≡ old.marks)
open_later exact place None push old now done same = (ap (λ (s : SessionView). s.closing) same.1, ap (λ (s : SessionView). s.marks) same.1)
open_later exact place (Some l) push old now done answer =
    let M : Push → Type 0 = λ p. MatchPush p (now ≡ given l old) (now ≡ closed_at place Overrun old) in
    let gets : now ≡ given l old = subst M done answer.1 in
    (ap (λ (s : SessionView). s.closing) gets, ap (λ (s : SessionView). s.marks) gets)

module _ (may : OutletName → List (List ℕ) → Type 0) where
  -- the first of these items were put
  allows_rest : (old now : SessionView) (first rest : List (List ℕ)) → now.name ≡ old.name → now.kept ≡ old.kept ++ first
      → AllowsAll may old (first ++ rest) → AllowsAll may now rest
  allows_rest old now first rest name kept allows front tail split =
      let whole : first ++ rest ≡ (first ++ front) ++ tail = ap (λ l. first ++ l) split ∙ sym (append_assoc first front tail) in
      let all : old.kept ++ (first ++ front) ≡ now.kept ++ front = sym (append_assoc old.kept first front) ∙ ap (λ l. l ++ front) (sym kept) in
      let K : List (List ℕ) → Type 0 = λ l. may old.name l in
      let N : OutletName → Type 0 = λ n. may n (now.kept ++ front) in
      subst N (sym name) (subst K all (allows (first ++ front) tail whole))

  -- the line of the first report, if it is selected
  pub allowed_line : (lines : Selection) (s : SessionView) (report : Report) (reports : List Report) (line : Option (List ℕ)) → option_to_list line ≡ lines s.policy report
      → AllowsAll may s (selected lines s.policy (report ∷ reports)) → IfSome line (λ l. may s.name (s.kept ++ l ∷ []))
  allowed_line lines s report reports None is allows = tt
  allowed_line lines s report reports (Some line) is allows = allows (line ∷ []) (selected lines s.policy reports) (ap (λ l. l ++ selected lines s.policy reports) (sym is))

  -- it was put, if there is one
  pub allowed_later : (lines : Selection) (old now : SessionView) (report : Report) (reports : List Report) (line : Option (List ℕ)) → option_to_list line ≡ lines old.policy report
      → MatchOption line (now ≡ old) (λ l. now ≡ given l old)
      → AllowsAll may old (selected lines old.policy (report ∷ reports)) → AllowsAll may now (selected lines now.policy reports)
  allowed_later lines old now report reports None is same allows =
      let P : SessionView → Type 0 = λ s. AllowsAll may s (selected lines s.policy reports) in
      let Q : List (List ℕ) → Type 0 = λ l. AllowsAll may old (l ++ selected lines old.policy reports) in
      subst P (sym same) (subst Q (sym is) allows)
  allowed_later lines old now report reports (Some line) is gets allows =
      let P : SessionView → Type 0 = λ s. AllowsAll may s (selected lines s.policy reports) in
      let Q : List (List ℕ) → Type 0 = λ l. AllowsAll may old (l ++ selected lines old.policy reports) in
      subst P (sym gets) (allows_rest old (given line old) (line ∷ []) (selected lines old.policy reports) refl refl (subst Q (sym is) allows))

  -- the reply to the first request
  pub allowed_reply : (cur : MemberView) (answer : Answer) (rest : List Answer) → cur.session.requests < cur.session.most_requests
      → AllowsAll may cur.session (replies_left cur.session (answer ∷ rest)) → may cur.session.name (cur.session.kept ++ answer.reply ∷ [])
  allowed_reply cur answer rest few allows =
      let left = cur.session.most_requests - (cur.session.requests + 1) in
      let one : cur.session.most_requests - cur.session.requests ≡ suc left = omega (arith, few) in
      allows (answer.reply ∷ []) (map (λ (a : Answer). a.reply) (take left rest)) (ap (λ n. map (λ (a : Answer). a.reply) (take n (answer ∷ rest))) one)

  -- it was put
  pub replies_later : (place : ℕ) (cur next : MemberView) (answer : Answer) (rest : List Answer) → cur.session.most_requests < 2 ^ 32 → cur.session.closing ≡ None
      → 0 < length cur.session.marks → cur.session.requests < cur.session.most_requests → next ≡ put place answer cur
      → AllowsAll may cur.session (replies_left cur.session (answer ∷ rest)) → AllowsAll may next.session (replies_left next.session rest)
  replies_later place cur next answer rest low is_open marked few is allows =
      let mid = put place answer cur in
      let counted : mid.session.requests ≡ cur.session.requests + 1 = (one_put false place answer cur low is_open marked few).requests in
      let one : cur.session.most_requests - cur.session.requests ≡ suc (cur.session.most_requests - mid.session.requests) = omega (arith, few, counted) in
      let P : MemberView → Type 0 = λ a. AllowsAll may a.session (replies_left a.session rest) in
      let Q : ℕ → Type 0 = λ n. AllowsAll may cur.session (map (λ (a : Answer). a.reply) (take n (answer ∷ rest))) in
      subst P (sym is) (allows_rest cur.session mid.session (answer.reply ∷ []) (replies_left mid.session rest) refl refl (subst Q one allows))

  -- room was taken for the answers
  pub replies_allowed : (known : ReplyDataView) (names : List (List ℕ)) (requests asked : List RawCommand) (policy : Policy) (replies : List Answer) (spare : ℕ) (s roomy : SessionView)
      → roomy ≡ record s { spare = spare } → policy ≡ s.policy → asked ≡ requests → replies ≡ answered known names policy asked
      → MayReply may known names requests s → AllowsAll may roomy (replies_left roomy replies)
  replies_allowed known names requests asked policy replies spare s roomy room policy_is asks replied allows =
      let all : replies ≡ answered known names s.policy requests = replied ∙ ap (λ p. answered known names p asked) policy_is ∙ ap (answered known names s.policy) asks in
      let P : SessionView → Type 0 = λ t. AllowsAll may t (replies_left t replies) in
      let Q : List Answer → Type 0 = λ l. AllowsAll may s (replies_left s l) in
      subst P (sym room) (subst Q (sym all) allows)

module _ {A : Type 0} (May : A → Type 0) where
  first_step : (ns : List ℕ) (cur : List A) (i : ℕ) → i < length ns → MayWalk May (drop i ns) cur → MayWalk May (get_or ns i 0 ∷ drop (i + 1) ns) cur
  first_step ns cur i within walk =
      let here : drop i ns ≡ get_or ns i 0 ∷ drop (i + 1) ns = rw (add-one, drop-cons ns i 0) refl in
      let P : List ℕ → Type 0 = λ l. MayWalk May l cur in
      subst P here walk

  -- a loop over the numbers, whose items are given as another list
  pub step_may : (ns items : List ℕ) (cur : List A) (i : ℕ) (x : A) → items ≡ ns → i < length items → MayWalk May (drop i ns) cur → x ≡ get_or cur (get_or items i 0) x → May x
  step_may ns items cur i x same within walk got =
      let P : List ℕ → Type 0 = λ l. MayWalk May (drop i l) cur in
      subst May (sym got) ((first_step items cur i within (subst P (sym same) walk)).0 x)

  pub walk_later : (ns items : List ℕ) (cur : List A) (i : ℕ) (next : A) → items ≡ ns → i < length items → MayWalk May (drop i ns) cur
      → MayWalk May (drop (i + 1) ns) (set cur (get_or items i 0) next)
  walk_later ns items cur i next same within walk =
      let P : List ℕ → Type 0 = λ l. MayWalk May (drop i l) cur in
      let Q : List ℕ → Type 0 = λ l. MayWalk May (drop (i + 1) l) (set cur (get_or items i 0) next) in
      subst Q same ((first_step items cur i within (subst P (sym same) walk)).1 next)

  walk_from : (test : A → Bool) (front xs : List A) (n : ℕ) → length front ≡ n → All May xs → MayWalk May (numbers test n xs) (front ++ xs)
  walk_from test front [] n at all = tt
  walk_from test front (x ∷ xs) n at all =
      by (test x) (λ y.
      let longer : length (front ++ y ∷ []) ≡ n + 1 = omega (arith, at, length-append front (y ∷ [])) in
      let P : List A → Type 0 = λ l. MayWalk May (numbers test (n + 1) xs) l in
      subst P (append_assoc front (y ∷ []) xs) (walk_from test (front ++ y ∷ []) xs (n + 1) longer (All-tail May x xs all)))
    where
      by : (b : Bool) → ((y : A) → MayWalk May (numbers test (n + 1) xs) (front ++ y ∷ xs)) → MayWalk May (cond b (n ∷ numbers test (n + 1) xs) (numbers test (n + 1) xs)) (front ++ x ∷ xs)
      by true rest = (
        λ free. subst May (sym (got_at front x xs n free at)) (All-head May x xs all),
        λ next. let P : List A → Type 0 = λ l. MayWalk May (numbers test (n + 1) xs) l in subst P (sym (set_at front x xs next n at)) (rest next),
      )
      by false rest = rest x

  -- a walk over elements of which this holds
  pub walk_over : (test : A → Bool) (ns : List ℕ) (xs : List A) → ns ≡ numbers test 0 xs → All May xs → MayWalk May ns xs
  walk_over test ns xs is all =
      let P : List ℕ → Type 0 = λ l. MayWalk May l xs in
      subst P (sym is) (walk_from test [] xs 0 refl all)
