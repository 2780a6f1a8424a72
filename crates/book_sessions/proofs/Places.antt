-- Which places are after all marks once a call has ended, and what a new session holds.
use Rattle.std.proofs.Common.{◌≡◌, ◌<◌, ◌≤◌, ℕ, Bool, List, [], ◌∷◌, ◌++◌, length, map, get_or, set, take, Option, Some, None, Result, Ok, Err, OnOk, refl, sym, ap, subst, arith}
use Rattle.std.specs.List.{AllZip}
use Rattle.std.proofs.lemmas.List.Elements.{All-cons, All-head, All-map, All-push, All-set, All-tail}
use Rattle.session_core.specs.declared.mark.Close.{Close}
use Rattle.session_core.specs.declared.mark.Mark.{Mark}
use Rattle.session_core.specs.SessionView.{SessionView, allowing, fresh, last_place, opening_policy, turned_marks}
use Rattle.session_core.specs.Stretches.{answer_stretch}
use Rattle.session_core.specs.Holding.{Selection, Holding}
use Rattle.session_core.proofs.Gaining as gaining
use Rattle.gps_report.specs.declared.report.Report.{Report}
use Rattle.gps_report.specs.declared.policy.Policy.{Policy}
use Rattle.gps_command.specs.Kept.{CommandCutterView}
use Rattle.gps_command.specs.declared.request.RawCommand.{RawCommand}
use Rattle.book_replies.specs.declared.answering.Answer.{Answer}
use Rattle.book_replies.specs.ReplyDataView.{ReplyDataView}
use Rattle.book_replies.specs.Replies.{answered, opening_reply}
use Rattle.session_core.specs.Naming.{OutletName}
use Rattle.book_sessions.specs.MemberView.{MemberView, opened, renewed, with_cutter}
use Rattle.book_sessions.specs.Answering.{AnswersCut, mark_at}
use Rattle.book_sessions.specs.Roster.{Changes, Closes, IsAfterAll, Shuts, ShutsBy}
use Rattle.book_sessions.specs.Spreading.{ReportsBy, Spreads}
use Rattle.book_sessions.proofs.Zips.{zip_set, zip_weaker}

pub after_zip : (place : ℕ) (xs ys : List MemberView) → AllZip (λ a b. b.session.marks ≡ a.session.marks) xs ys → IsAfterAll place xs → IsAfterAll place ys
after_zip place [] [] zip after = after
after_zip place [] (y ∷ ys) zip after = absurd zip
after_zip place (x ∷ xs) [] zip after = absurd zip
after_zip place (x ∷ xs) (y ∷ ys) zip after =
    let Fits : MemberView → Type 0 = λ a. last_place 0 a.session.marks ≤ place in
    let Q : List Mark → Type 0 = λ m. last_place 0 m ≤ place in
    All-cons Fits y ys (subst Q (sym zip.0) (All-head Fits x xs after)) (after_zip place xs ys zip.1 (All-tail Fits x xs after))

last_added : (place later from : ℕ) (marks : List Mark) (answers : List Answer) → place ≤ later → last_place from marks ≤ later → last_place from (marks ++ map (mark_at place) answers) ≤ later
last_added place later from [] [] low fits = fits
last_added place later from [] (answer ∷ answers) low fits = last_added place later place [] answers low low
last_added place later from (mark ∷ marks) answers low fits = last_added place later mark.place marks answers low fits

pub after_input : (exact : Bool) (known : ReplyDataView) (names : List (List ℕ)) (place s : ℕ) (requests : List RawCommand) (cutter : CommandCutterView) (old new : List MemberView)
    → Changes s (AnswersCut exact known names place requests cutter) old new → s < length old → (later : ℕ) → place ≤ later → IsAfterAll later old → IsAfterAll later new
after_input exact known names place s requests cutter old new changed within later low after =
    let next = changed.0 in
    let Fits : MemberView → Type 0 = λ a. last_place 0 a.session.marks ≤ later in
    let answers = changed.2 next in
    let Q : List Mark → Type 0 = λ m. last_place 0 m ≤ later in
    let P : List MemberView → Type 0 = λ l. IsAfterAll later l in
    let x = get_or old s next in
    subst P (sym changed.1) (All-set Fits old s next
    (subst Q (sym answers.puts.marks) (last_added place later 0 x.session.marks (take answers.count (answered known names x.session.policy requests)) low (after s next within))) after)

pub after_going_on : (s : ℕ) (cutter : CommandCutterView) (old new : List MemberView) → Changes s (λ a b. b ≡ with_cutter cutter a) old new
    → (later : ℕ) → IsAfterAll later old → IsAfterAll later new
after_going_on s cutter old new changed later after =
    let P : List MemberView → Type 0 = λ l. IsAfterAll later l in
    subst P (sym changed.1) (after_zip later old (set old s changed.0)
    (zip_set (λ a b. b.session.marks ≡ a.session.marks) (λ a. refl) old s changed.0 (λ free. ap (λ (a : MemberView). a.session.marks) (changed.2 free))) after)

-- a call of one session, which may refuse
pub changed_at : {X E : Type 0} (R : MemberView → MemberView → Type 0) (s : ℕ) (old : List MemberView) (was next : MemberView) (result : Result X E)
    → ((free : MemberView) → was ≡ get_or old s free) → OnOk result (R was next) → OnOk result (Changes s R old (set old s next))
changed_at R s old was next (Ok x) got becomes = (next, refl, λ free. let P : MemberView → Type 0 = λ a. R a next in subst P (got free) becomes)
changed_at R s old was next (Err e) got becomes = tt

pub after_close : (place s : ℕ) (why : Close) (old new : List MemberView) → Changes s (Closes place why) old new → (later : ℕ) → IsAfterAll later old → IsAfterAll later new
after_close place s why old new changed later after =
    let P : List MemberView → Type 0 = λ l. IsAfterAll later l in
    subst P (sym changed.1) (after_zip later old (set old s changed.0)
    (zip_set (λ a b. b.session.marks ≡ a.session.marks) (λ a. refl) old s changed.0 (λ free. ap (λ (a : MemberView). a.session.marks) (changed.2 free).becomes)) after)

pub after_admit : (place : ℕ) (name : OutletName) (cap most : ℕ) (old new : List MemberView) → new ≡ old ++ opened name cap most place ∷ []
    → (later : ℕ) → place ≤ later → IsAfterAll later old → IsAfterAll later new
after_admit place name cap most old new pushed later low after =
    let Fits : MemberView → Type 0 = λ a. last_place 0 a.session.marks ≤ later in
    let P : List MemberView → Type 0 = λ l. IsAfterAll later l in
    subst P (sym pushed) (All-push Fits old (opened name cap most place) after low)

shuts_marks : (place : ℕ) (why : Close) (a b : MemberView) → Shuts place why a b → b.session.marks ≡ a.session.marks
shuts_marks place why a b shuts = by a.session.closing shuts
  where
    by : (c : Option (ℕ × Close)) → ShutsBy c place why a b → b.session.marks ≡ a.session.marks
    by None closes = ap (λ (x : MemberView). x.session.marks) closes.becomes
    by (Some closing) same = ap (λ (x : MemberView). x.session.marks) same

pub after_shut : (place : ℕ) (why : Close) (old new : List MemberView) → AllZip (Shuts place why) old new → (later : ℕ) → IsAfterAll later old → IsAfterAll later new
after_shut place why old new zip later after =
    after_zip later old new (zip_weaker (Shuts place why) (λ a b. b.session.marks ≡ a.session.marks) (shuts_marks place why) old new zip) after

reports_marks : (exact : Bool) (lines : Selection) (first : ℕ) (reports : List Report) (a b : MemberView) → Spreads exact lines first reports a b → b.session.marks ≡ a.session.marks
reports_marks exact lines first reports a b spreads = by a.session.closing spreads.session
  where
    by : (c : Option (ℕ × Close)) → ReportsBy c exact lines first reports a.session b.session → b.session.marks ≡ a.session.marks
    by None reported = reported.stays.marks
    by (Some closing) unreported = ap (λ (s : SessionView). s.marks) unreported.same

pub after_spread : (exact : Bool) (lines : Selection) (first : ℕ) (reports : List Report) (old new : List MemberView) → AllZip (Spreads exact lines first reports) old new
    → (later : ℕ) → IsAfterAll later old → IsAfterAll later new
after_spread exact lines first reports old new zip later after =
    after_zip later old new (zip_weaker (Spreads exact lines first reports) (λ a b. b.session.marks ≡ a.session.marks) (reports_marks exact lines first reports) old new zip) after

renewed_first : (policy : Policy) (c : Option (ℕ × Close)) → last_place 0 (turned_marks c policy) ≤ 0
renewed_first policy None = omega arith
renewed_first policy (Some closing) = omega arith

pub after_turn : (old new : List MemberView) → new ≡ map renewed old → IsAfterAll 0 new
after_turn old new turned_is =
    let Fits : MemberView → Type 0 = λ a. last_place 0 a.session.marks ≤ 0 in
    let P : List MemberView → Type 0 = λ l. IsAfterAll 0 l in
    subst P (sym turned_is) (All-map Fits renewed old (λ k free within. let a = get_or old k free in renewed_first a.session.policy a.session.closing))

-- the first item of a session
pub opening_holds : (name : OutletName) (cap most place : ℕ) (lines : Selection) (history : List Report) → length history ≡ place
    → Holding lines history (opened name cap most place).session (answer_stretch place opening_policy opening_reply ∷ [])
opening_holds name cap most place lines history at =
    (gaining.answered lines place opening_policy opening_reply history (allowing most (fresh name cap [])) [] refl at
    (gaining.allowed lines most history (fresh name cap []) [] (gaining.fresh_agrees lines history name cap []))).holding

-- a session that has its marks
pub after_set : (place n : ℕ) (xs : List MemberView) (x next : MemberView) → IsAfterAll place xs → n < length xs → x ≡ get_or xs n x → next.session.marks ≡ x.session.marks
    → IsAfterAll place (set xs n next)
after_set place n xs x next after within got marks =
    let Fits : MemberView → Type 0 = λ a. last_place 0 a.session.marks ≤ place in
    let P : MemberView → Type 0 = Fits in
    let here : Fits x = subst P (sym got) (after n x within) in
    let Q : List Mark → Type 0 = λ m. last_place 0 m ≤ place in
    All-set Fits xs n next (subst Q (sym marks) here) after
