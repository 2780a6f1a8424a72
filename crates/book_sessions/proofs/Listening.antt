-- The numbers of the sessions that listen stay right.
use Rattle.std.proofs.Common.{◌≡◌, ◌≤◌, ◌+◌, ℕ, Bool, true, false, cond, not, ◌&&◌, List, [], ◌∷◌, ◌++◌, length, map, filter, get_or, set, Option, Some, None, is_some, refl, sym, ap, ◌∙◌, subst, arith}
use Rattle.std.specs.List.{AllZip}
use Rattle.std.proofs.lemmas.Bool.{false≢true}
use Rattle.gps_report.specs.declared.report.Report.{Report}
use Rattle.session_core.specs.declared.mark.Close.{Close}
use Rattle.book_batch.specs.Lines.{line_for}
use Rattle.book_sessions.specs.MemberView.{MemberView, is_open, listens, renewed}
use Rattle.book_sessions.specs.Roster.{AreListening, Changes, Closes, IsOpenAt, IsRoster, shut_at, shut_by}
use Rattle.book_sessions.specs.Spreading.{Reported, ReportsBy, Spreads}
use Rattle.book_sessions.specs.Walks.{numbers, Walks, passes_at}
use Rattle.book_sessions.proofs.Rosters.{LeavesMarks, numbers_map, numbers_zip, open_is, renewed_open, shuts_each, spread_same, turned_map}
use Rattle.book_sessions.proofs.Walking.{numbers_left, numbers_stay}
use Rattle.book_sessions.proofs.Zips.{zip_set, zip_weaker}

and_false : (b : Bool) → (b && false) ≡ false
and_false true = refl
and_false false = refl

closed_is_silent : (a : MemberView) → is_open a ≡ false → listens a ≡ false
closed_is_silent a is = ap (λ o. o && a.session.policy.enable) is

-- of the numbers of those that listened
still_listening : (listening now : List ℕ) (old new : List MemberView) → AreListening listening old → AllZip (λ a b. listens a ≡ false → listens b ≡ false) old new
    → now ≡ filter (passes_at listens new) listening → AreListening now new
still_listening listening now old new ones fewer left = left ∙ ap (filter (passes_at listens new)) ones ∙ numbers_left listens listens old new fewer

-- a session, which was open, was answered
pub listening_heard : (live now : List ℕ) (s : ℕ) (next : MemberView) (old new : List MemberView) → live ≡ numbers is_open 0 old → IsOpenAt s old → new ≡ set old s next
    → now ≡ filter (passes_at listens new) live → AreListening now new
listening_heard live now s next old new ones was_open becomes left =
    let Fewer : List MemberView → Type 0 = λ l. AllZip (λ a b. is_open a ≡ false → listens b ≡ false) old l in
    let fewer : Fewer (set old s next) = zip_set (λ a b. is_open a ≡ false → listens b ≡ false) closed_is_silent old s next
    (λ free is. absurd (false≢true (sym is ∙ open_is (get_or old s free) (was_open free)))) in
    left ∙ ap (filter (passes_at listens new)) ones ∙ numbers_left is_open listens old new (subst Fewer (sym becomes) fewer)

-- one was closed
pub listening_closed : (listening now : List ℕ) (s place : ℕ) (why : Close) (old new : List MemberView) → AreListening listening old → Changes s (Closes place why) old new
    → now ≡ filter (passes_at listens new) listening → AreListening now new
listening_closed listening now s place why old new ones changed left =
    let Fewer : List MemberView → Type 0 = λ l. AllZip (λ a b. listens a ≡ false → listens b ≡ false) old l in
    let fewer : Fewer (set old s changed.0) = zip_set (λ a b. listens a ≡ false → listens b ≡ false) (λ a is. is) old s changed.0
    (λ free is. ap listens (changed.2 free).becomes) in
    still_listening listening now old new ones (subst Fewer (sym changed.1) fewer) left

-- each open one was closed
shut_is_silent : (place : ℕ) (why : Close) (a : MemberView) → listens (shut_at place why a) ≡ false
shut_is_silent place why a = by a.session.closing refl
  where
    by : (c : Option (ℕ × Close)) → a.session.closing ≡ c → listens (shut_by a.session.closing place why a) ≡ false
    by None none = ap (λ c. listens (shut_by c place why a)) none
    by (Some closing) some = ap (λ c. listens (shut_by c place why a)) some ∙ closed_is_silent a (ap (λ c. not (is_some c)) some)

pub listening_shut : (live listening now : List ℕ) (place : ℕ) (why : Close) (old new : List MemberView) → live ≡ numbers is_open 0 old → AreListening listening old
    → Walks (λ a b. b ≡ shut_at place why a) live old new → now ≡ filter (passes_at listens new) listening → AreListening now new
listening_shut live listening now place why old new live_ones ones walks left =
    let P : List ℕ → Type 0 = λ l. Walks (λ a b. b ≡ shut_at place why a) l old new in
    let each = shuts_each place why old new (subst P live_ones walks) in
    still_listening listening now old new ones
    (zip_weaker (λ a b. b ≡ shut_at place why a) (λ a b. listens a ≡ false → listens b ≡ false) (λ a b is silent. ap listens is ∙ shut_is_silent place why a) old new each) left

-- reports came
spread_is_silent : (exact : Bool) (names : List (List ℕ)) (first : ℕ) (reports : List Report) (a b : MemberView) → Spreads exact (line_for names) first reports a b
    → listens a ≡ false → listens b ≡ false
spread_is_silent exact names first reports a b becomes silent = by a.session.closing refl
  where
    by : (c : Option (ℕ × Close)) → a.session.closing ≡ c → listens b ≡ false
    by None none =
        let R : Option (ℕ × Close) → Type 0 = λ c. ReportsBy c exact (line_for names) first reports a.session b.session in
        let session : Reported exact (line_for names) first reports a.session b.session = subst R none becomes.session in
        let off : a.session.policy.enable ≡ false = sym (ap (λ o. o && a.session.policy.enable) (open_is a none)) ∙ silent in
        let off_now : b.session.policy.enable ≡ false = ap (λ p. p.enable) session.stays.policy ∙ off in
        ap (λ e. is_open b && e) off_now ∙ and_false (is_open b)
    by (Some closing) some = ap listens (spread_same exact names first reports a b closing some becomes) ∙ silent

pub listening_spread : (exact : Bool) (names : List (List ℕ)) (first : ℕ) (reports : List Report) (listening now : List ℕ) (old new : List MemberView) → AreListening listening old
    → AllZip (Spreads exact (line_for names) first reports) old new → now ≡ filter (passes_at listens new) listening → AreListening now new
listening_spread exact names first reports listening now old new ones each left =
    still_listening listening now old new ones
    (zip_weaker (Spreads exact (line_for names) first reports) (λ a b. listens a ≡ false → listens b ≡ false) (spread_is_silent exact names first reports) old new each) left

-- a new one listens not yet
pub listening_admitted : (listening : List ℕ) (next : MemberView) (old old' old'' : List MemberView) → AreListening listening old → old' ≡ old → old'' ≡ old' ++ next ∷ [] → listens next ≡ false
    → AreListening listening old''
listening_admitted listening next old old' old'' ones same pushed silent =
    ones ∙ sym (ap (numbers listens 0) (pushed ∙ ap (λ l. l ++ next ∷ []) same) ∙ numbers_stay listens old next silent)

-- a turn, which leaves each policy
listens_still : (a : MemberView) → listens (renewed a) ≡ listens a
listens_still a = ap (λ o. o && a.session.policy.enable) (renewed_open a)

pub listening_turned : (live recent listening : List ℕ) (watched : ℕ) (old new : List MemberView) → IsRoster live recent watched old → AreListening listening old
    → Walks (λ a b. b ≡ renewed a) recent old new → AreListening listening new
listening_turned live recent listening watched old new roster ones walks =
    ones ∙ sym (ap (numbers listens 0) (turned_map live recent watched old new roster walks) ∙ numbers_map listens listens_still 0 old)

-- of one session the marks, the policy and the closing stayed
pub listening_left : (listening : List ℕ) (s : ℕ) (f : MemberView → MemberView) (next : MemberView) (old new : List MemberView) → LeavesMarks f → AreListening listening old
    → new ≡ set old s next → ((free : MemberView) → next ≡ f (get_or old s free)) → AreListening listening new
listening_left listening s f next old new leaves ones becomes now =
    let same : AllZip (λ a b. listens b ≡ listens a) old (set old s next) = zip_set (λ a b. listens b ≡ listens a) (λ a. refl) old s next (λ free. ap listens (now free) ∙ leaves.listening (get_or old s free)) in
    ones ∙ sym (ap (numbers listens 0) becomes ∙ numbers_zip listens 0 old (set old s next) same)

pub is_nil : (ns : List ℕ) → length ns ≡ 0 → ns ≡ []
is_nil [] none = refl
is_nil (n ∷ ns) none = absurd (omega (arith, none))

-- those that listen are among the open ones
fewer_numbers : (n : ℕ) (xs : List MemberView) → length (numbers listens n xs) ≤ length (numbers is_open n xs)
fewer_numbers n [] = omega arith
fewer_numbers n (x ∷ xs) = by (is_open x) x.session.policy.enable (fewer_numbers (n + 1) xs)
  where
    by : (o e : Bool) → length (numbers listens (n + 1) xs) ≤ length (numbers is_open (n + 1) xs)
        → length (cond (o && e) (n ∷ numbers listens (n + 1) xs) (numbers listens (n + 1) xs))
        ≤ length (cond o (n ∷ numbers is_open (n + 1) xs) (numbers is_open (n + 1) xs))
    by true true rest = omega (arith, rest)
    by true false rest = omega (arith, rest)
    by false e rest = rest

pub few_listen : (live recent listening : List ℕ) (watched : ℕ) (roster : List MemberView) → IsRoster live recent watched roster → AreListening listening roster → length listening ≤ 64
few_listen live recent listening watched roster held ones =
    omega (arith, held.few_live, ap length held.live_ones, ap length ones, fewer_numbers 0 roster)
