-- What a roster keeps beside its sessions stays right.
use Rattle.std.proofs.Common.{◌≡◌, ◌<◌, ⊎_elim, ℕ, ◌+◌, Bool, true, false, cond, not, ◌||◌, ◌&&◌, if◌then◌else◌, nat_eq, slice_index_or, List, [], ◌∷◌, ◌++◌, length, map, filter, count_by, get_or, set, Option, Some, None, is_some, refl, sym, ap, ◌∙◌, subst, length-append, arith}
use Rattle.std.specs.Int.{from_bool}
use Rattle.std.specs.List.{AllZip, list_any}
use Rattle.std.proofs.lemmas.Bool.{eq-eqb, or_from, or_parts, false≢true}
use Rattle.std.proofs.lemmas.List.{get_or-map, get_or_append_left, length-map}
use Rattle.std.proofs.lemmas.List.Sums.{sum_by-cons, sum_by-set, length-filter, count_by-le-length}
use Rattle.std.proofs.lemmas.List.Elements.{All-filter, All-push, All-same, All-weaker, AllZip-get_or, length_all_zip}
use Rattle.session_core.specs.declared.mark.Close.{Close}
use Rattle.session_core.specs.SessionView.{SessionView, fresh, turned_marks, turned_closing}
use Rattle.session_core.proofs.Gaining as gaining
use Rattle.gps_command.specs.Kept.{CommandCutterView}
use Rattle.gps_report.specs.declared.report.Report.{Report}
use Rattle.gps_report.specs.declared.policy.Policy.{Policy}
use Rattle.watch_policy.specs.Selection.{body_form, selected, watches}
use Rattle.book_batch.specs.Lines.{line_for, line_in}
use Rattle.book_sessions.specs.MemberView.{MemberView, closed, cutter_left, is_open, listens, renewed, with_cutter, with_kept}
use Rattle.book_sessions.specs.Roster.{AreListening, Closes, IsAtRest, IsOpenAt, IsRoster, Shuts, ShutsBy, MemberTurns, live_in, most_live, most_opened, shut_at, shut_by, was_watched}
use Rattle.book_sessions.specs.Spreading.{Due, ReportsBy, Spreads, TakesDue, Unreported, cutter_by, due, due_at}
use Rattle.book_sessions.specs.Walks.{numbers, Walks, passes_at}
use Rattle.book_sessions.proofs.Walking.{walk_zip, walk_map, numbers_count, numbers_push, numbers_left, passes_got, filter_misses}
use Rattle.book_sessions.proofs.Receiving.{closed_means, received, remained}
use Rattle.book_sessions.proofs.Zips.{zip_map, zip_set, zip_weaker}

pub open_is : (a : MemberView) → a.session.closing ≡ None → is_open a ≡ true
open_is a none = ap (λ c. not (is_some c)) none

rest_is_closed : (a : MemberView) → IsAtRest a → is_open a ≡ false
rest_is_closed a rest = ap (λ c. not (is_some c)) rest.closing.1

-- what a call may make of a session
pub record IsLater (a b : MemberView) : Type 0 where
  pub closed : is_open a ≡ false → is_open b ≡ false
  pub rest : IsAtRest a → IsAtRest b

later_same : (a : MemberView) → IsLater a a
later_same a = record { closed = λ is. is; rest = λ rest. rest }

later_of_open : (a b : MemberView) → a.session.closing ≡ None → IsLater a b
later_of_open a b none = record {
  closed = λ is. absurd (false≢true (sym is ∙ open_is a none));
  rest = λ rest. absurd (false≢true (sym (rest_is_closed a rest) ∙ open_is a none));
}

later_by : (a b : MemberView) → (is_open a ≡ false → b ≡ a) → IsLater a b
later_by a b same = record {
  closed = λ is. ap is_open (same is) ∙ is;
  rest = λ rest. let P : MemberView → Type 0 = λ x. IsAtRest x in subst P (sym (same (rest_is_closed a rest))) rest;
}

-- what a call makes of a session, if its marks, its policy and its closing stay
pub record LeavesMarks (f : MemberView → MemberView) : Type 0 where
  pub later : (a : MemberView) → IsLater a (f a)
  pub watched : (a : MemberView) → (f a).watched ≡ a.watched
  pub opens : (a : MemberView) → is_open (f a) ≡ is_open a
  pub listening : (a : MemberView) → listens (f a) ≡ listens a

pub kept_leaves : (kept : MemberView → List (List ℕ)) → LeavesMarks (λ a. with_kept (kept a) a)
kept_leaves kept = record {
  later = λ a. record { closed = λ is. is; rest = λ rest. record { marks = rest.marks; answered = rest.answered; closing = rest.closing } };
  watched = λ a. refl;
  opens = λ a. refl;
  listening = λ a. refl;
}

pub cutter_leaves : (cutter : CommandCutterView) → LeavesMarks (with_cutter cutter)
cutter_leaves cutter = record {
  later = λ a. record { closed = λ is. is; rest = λ rest. record { marks = rest.marks; answered = rest.answered; closing = rest.closing } };
  watched = λ a. refl;
  opens = λ a. refl;
  listening = λ a. refl;
}

pub count_zip : (xs ys : List MemberView) → AllZip (λ a b. b.watched ≡ a.watched) xs ys → count_by was_watched ys ≡ count_by was_watched xs
count_zip [] [] zip = refl
count_zip [] (y ∷ ys) zip = absurd zip
count_zip (x ∷ xs) [] zip = absurd zip
count_zip (x ∷ xs) (y ∷ ys) zip =
    let one : Bool → ℕ = λ b. cond b 1 0 in
    let f : MemberView → ℕ = λ a. cond (was_watched a) 1 0 in
    sum_by-cons f y ys ∙ ap (λ n. n + count_by was_watched ys) (ap one zip.0) ∙ ap (λ n. f x + n) (count_zip xs ys zip.1) ∙ sym (sum_by-cons f x xs)

-- the calls that neither admit nor turn
pub kept_roster : (live recent now_live : List ℕ) (watched now_watched : ℕ) (old new : List MemberView) → IsRoster live recent watched old → AllZip IsLater old new
    → now_live ≡ filter (passes_at is_open new) live → now_watched ≡ count_by was_watched new → IsRoster now_live recent now_watched new
kept_roster live recent now_live watched now_watched old new roster later left count =
    let same : length old ≡ length new = length_all_zip IsLater old new later in
    let fewer : AllZip (λ a b. is_open a ≡ false → is_open b ≡ false) old new =
    zip_weaker IsLater (λ a b. is_open a ≡ false → is_open b ≡ false) (λ a b h. h.closed) old new later in
    record {
      live_ones = left ∙ ap (filter (passes_at is_open new)) roster.live_ones ∙ numbers_left is_open is_open old new fewer;
      recent_ones = λ k free within missing.
          let inside : k < length old = omega (arith, same, within) in
          (AllZip-get_or IsLater old new k free free later inside).rest (roster.recent_ones k free inside missing);
      within = All-weaker (λ n. n < length old) (λ n. n < length new) (λ n h. omega (arith, same)) recent roster.within;
      watched_ones = count;
      few_live = omega (arith, ap length left, length-filter (passes_at is_open new) live, count_by-le-length (passes_at is_open new) live, roster.few_live);
      few_opened = omega (arith, same, roster.few_opened);
    }

-- one session, which was open, has changed
pub changed_roster : (live recent now_live : List ℕ) (watched now_watched s : ℕ) (next : MemberView) (old new : List MemberView) → IsRoster live recent watched old → IsOpenAt s old
    → new ≡ set old s next → now_live ≡ filter (passes_at is_open new) live → now_watched ≡ count_by was_watched new → IsRoster now_live recent now_watched new
changed_roster live recent now_live watched now_watched s next old new roster was_open becomes left count =
    let later : AllZip IsLater old (set old s next) = zip_set IsLater later_same old s next (λ free. later_of_open (get_or old s free) next (was_open free)) in
    let P : List MemberView → Type 0 = λ l. AllZip IsLater old l in
    kept_roster live recent now_live watched now_watched old new roster (subst P (sym becomes) later) left count

pub same_watched : (s : ℕ) (next : MemberView) (old new : List MemberView) → new ≡ set old s next → ((free : MemberView) → next.watched ≡ (get_or old s free).watched)
    → count_by was_watched old ≡ count_by was_watched new
same_watched s next old new becomes same =
    sym (ap (count_by was_watched) becomes ∙ count_zip old (set old s next) (zip_set (λ a b. b.watched ≡ a.watched) (λ a. refl) old s next same))

-- how many are watched after a change
pub more_watched : (s : ℕ) (next : MemberView) (more : Bool) (old new : List MemberView) → s < length old → new ≡ set old s next
    → ((free : MemberView) → next.watched ≡ ((get_or old s free).watched || more)) → ((free : MemberView) → more ≡ true → (get_or old s free).watched ≡ false)
    → count_by was_watched new ≡ count_by was_watched old + from_bool more
more_watched s next more old new within becomes now fresh =
    let f : MemberView → ℕ = λ a. cond a.watched 1 0 in
    let before = get_or old s next in
    let step : count_by was_watched (set old s next) + f before ≡ count_by was_watched old + f next = sum_by-set f old s next next within in
    let one : f next ≡ f before + from_bool more = ap (λ b. cond b 1 0) (now next) ∙ by more before.watched (fresh next) in
    let same : count_by was_watched new ≡ count_by was_watched (set old s next) = ap (count_by was_watched) becomes in
    omega (arith, same, step, one)
  where
    by : (m w : Bool) → (m ≡ true → w ≡ false) → cond (w || m) 1 0 ≡ cond w 1 0 + from_bool m
    by false false h = refl
    by false true h = refl
    by true false h = refl
    by true true h = absurd (false≢true (sym (h refl)))

pub numbers_zip : (test : MemberView → Bool) (n : ℕ) (xs ys : List MemberView) → AllZip (λ a b. test b ≡ test a) xs ys → numbers test n ys ≡ numbers test n xs
numbers_zip test n [] [] zip = refl
numbers_zip test n [] (y ∷ ys) zip = absurd zip
numbers_zip test n (x ∷ xs) [] zip = absurd zip
numbers_zip test n (x ∷ xs) (y ∷ ys) zip =
    ap (λ l. cond (test y) (n ∷ l) l) (numbers_zip test (n + 1) xs ys zip.1)
    ∙ ap (λ b. cond b (n ∷ numbers test (n + 1) xs) (numbers test (n + 1) xs)) zip.0

-- of one session the marks, the policy and the closing stayed
pub marks_left : (live recent : List ℕ) (watched s : ℕ) (f : MemberView → MemberView) (next : MemberView) (old new : List MemberView) → LeavesMarks f → IsRoster live recent watched old
    → new ≡ set old s next → ((free : MemberView) → next ≡ f (get_or old s free)) → IsRoster live recent watched new
marks_left live recent watched s f next old new leaves roster becomes now =
    let Q : List MemberView → Type 0 = λ l. AllZip IsLater old l in
    let R : List MemberView → Type 0 = λ l. AllZip (λ a b. b.watched ≡ a.watched) old l in
    let later : AllZip IsLater old (set old s next) = zip_set IsLater later_same old s next (λ free.
    let P : MemberView → Type 0 = λ b. IsLater (get_or old s free) b in subst P (sym (now free)) (leaves.later (get_or old s free))) in
    let same : AllZip (λ a b. b.watched ≡ a.watched) old (set old s next) = zip_set (λ a b. b.watched ≡ a.watched) (λ a. refl) old s next (λ free. ap (λ a. a.watched) (now free) ∙ leaves.watched (get_or old s free)) in
    let stays : AllZip (λ a b. is_open b ≡ is_open a) old (set old s next) = zip_set (λ a b. is_open b ≡ is_open a) (λ a. refl) old s next (λ free. ap is_open (now free) ∙ leaves.opens (get_or old s free)) in
    let length_is : length old ≡ length new = length_all_zip IsLater old new (subst Q (sym becomes) later) in
    record {
      live_ones = roster.live_ones ∙ sym (ap (numbers is_open 0) becomes ∙ numbers_zip is_open 0 old (set old s next) stays);
      recent_ones = λ k free within missing.
          let inside : k < length old = omega (arith, length_is, within) in
          (AllZip-get_or IsLater old new k free free (subst Q (sym becomes) later) inside).rest (roster.recent_ones k free inside missing);
      within = All-weaker (λ n. n < length old) (λ n. n < length new) (λ n h. omega (arith, length_is)) recent roster.within;
      watched_ones = roster.watched_ones ∙ sym (count_zip old new (subst R (sym becomes) same));
      few_live = roster.few_live;
      few_opened = omega (arith, length_is, roster.few_opened);
    }

-- a walk of a closing
module _ (place : ℕ) (why : Close) where
  shut_closed : (a : MemberView) → is_open a ≡ false → a ≡ shut_at place why a
  shut_closed a is = let found = closed_means a.session is in sym (ap (λ c. shut_by c place why a) found.1)

  pub closes_from : (old new : MemberView) → old.session.closing ≡ None → new ≡ closed place why old → Closes place why old new
  closes_from old new none now = record {
    becomes = now;
    gains = λ lines history stretches at holding.
        gaining.close_gains place why old.session new.session none (ap (λ a. a.session) now) lines history stretches at holding.agrees;
  }

  shuts_from : (a b : MemberView) → b ≡ shut_at place why a → Shuts place why a b
  shuts_from a b now = by a.session.closing refl
    where
      by : (c : Option (ℕ × Close)) → a.session.closing ≡ c → ShutsBy c place why a b
      by None none = closes_from a b none (now ∙ ap (λ c. shut_by c place why a) none)
      by (Some closing) some = now ∙ ap (λ c. shut_by c place why a) some

  pub shuts_each : (old new : List MemberView) → Walks (λ a b. b ≡ shut_at place why a) (numbers is_open 0 old) old new → AllZip (λ a b. b ≡ shut_at place why a) old new
  shuts_each old new walks = walk_zip is_open (λ a b. b ≡ shut_at place why a) shut_closed old new walks

  pub shut_zip : (live : List ℕ) (old new : List MemberView) → live ≡ numbers is_open 0 old → Walks (λ a b. b ≡ shut_at place why a) live old new → AllZip (Shuts place why) old new
  shut_zip live old new ones walks =
      let P : List ℕ → Type 0 = λ l. Walks (λ a b. b ≡ shut_at place why a) l old new in
      zip_weaker (λ a b. b ≡ shut_at place why a) (Shuts place why) shuts_from old new (shuts_each old new (subst P ones walks))

  pub shut_roster : (live recent now_live : List ℕ) (watched : ℕ) (old new : List MemberView) → IsRoster live recent watched old
      → Walks (λ a b. b ≡ shut_at place why a) live old new → now_live ≡ filter (passes_at is_open new) live → IsRoster now_live recent watched new
  shut_roster live recent now_live watched old new roster walks left =
      let P : List ℕ → Type 0 = λ l. Walks (λ a b. b ≡ shut_at place why a) l old new in
      let each = shuts_each old new (subst P roster.live_ones walks) in
      let later : AllZip IsLater old new = zip_weaker (λ a b. b ≡ shut_at place why a) IsLater
      (λ a b now. later_by a b (λ is. now ∙ sym (shut_closed a is))) old new each in
      let same : AllZip (λ a b. b.watched ≡ a.watched) old new = zip_weaker (λ a b. b ≡ shut_at place why a) (λ a b. b.watched ≡ a.watched)
      (λ a b now. ap (λ x. x.watched) now ∙ shut_watched a) old new each in
      kept_roster live recent now_live watched watched old new roster later left (roster.watched_ones ∙ sym (count_zip old new same))
    where
      shut_watched : (a : MemberView) → (shut_at place why a).watched ≡ a.watched
      shut_watched a = by a.session.closing
        where
          by : (c : Option (ℕ × Close)) → (shut_by c place why a).watched ≡ a.watched
          by None = refl
          by (Some closing) = refl

-- a walk of a batch
module _ (exact : Bool) (names : List (List ℕ)) (first : ℕ) (reports : List Report) where
  abbrev Becomes : MemberView → MemberView → Type 0
  Becomes a b = Spreads exact (line_for names) first reports a b

  pub spread_closed : (a : MemberView) → is_open a ≡ false → Becomes a a
  spread_closed a is = let found = closed_means a.session is in remained exact (line_for names) first reports found.0 a a found.1 refl

  silent_due : (policy : Policy) (place : ℕ) (rest : List Report) → policy.enable ≡ false → due (line_for names) policy place rest ≡ []
  silent_due policy place [] silent = refl
  silent_due policy place (report ∷ rest) silent =
      let form : selected policy names report ≡ None =
      ap (λ b. if b && watches policy.device (slice_index_or names report.device []) then body_form policy report.body else None) silent in
      ap (λ f. map (due_at place) (line_in names report f) ++ due (line_for names) policy (place + 1) rest) form ∙ silent_due policy (place + 1) rest silent

  -- nothing is due to a session that does not listen
  pub spread_silent : (a : MemberView) → listens a ≡ false → Becomes a a
  spread_silent a is = by a.session.closing refl
    where
      by : (c : Option (ℕ × Close)) → a.session.closing ≡ c → Becomes a a
      by None none =
          let off : a.session.policy.enable ≡ false = sym (ap (λ o. o && a.session.policy.enable) (open_is a none)) ∙ is in
          let P : List Due → Type 0 = λ l. TakesDue exact l a.session a.session in
          let takes = subst P (sym (silent_due a.session.policy first reports off)) refl in
          received exact names first reports a a a none takes refl (sym (ap (λ c. record a { cutter = cutter_left c a.cutter }) none))
      by (Some closing) some = remained exact (line_for names) first reports closing a a some refl

  pub spread_zip : (listening : List ℕ) (old new : List MemberView) → AreListening listening old → Walks Becomes listening old new → AllZip Becomes old new
  spread_zip listening old new ones walks =
      let P : List ℕ → Type 0 = λ l. Walks Becomes l old new in
      walk_zip listens Becomes spread_silent old new (subst P ones walks)

  -- if none listens
  pub spread_to_none : (listening : List ℕ) (old : List MemberView) → AreListening listening old → listening ≡ [] → AllZip Becomes old old
  spread_to_none listening old ones none =
      let P : List ℕ → Type 0 = λ l. Walks Becomes l old old in
      spread_zip listening old old ones (subst P (sym none) refl)

  -- a closed session stays as it is
  pub spread_same : (a b : MemberView) (closing : ℕ × Close) → a.session.closing ≡ Some closing → Becomes a b → b ≡ a
  spread_same a b closing is_closed becomes =
      let R : Option (ℕ × Close) → Type 0 = λ c. ReportsBy c exact (line_for names) first reports a.session b.session in
      let session : Unreported (line_for names) first reports a.session b.session = subst R is_closed becomes.session in
      let cutter : b.cutter ≡ a.cutter = becomes.cutter ∙ ap (λ c. cutter_by c b.session.closing a.cutter) is_closed in
      ap (λ (s : SessionView). record { session = s; cutter = b.cutter; watched = b.watched }) session.same
      ∙ ap (λ (k : CommandCutterView). record { session = a.session; cutter = k; watched = b.watched }) cutter
      ∙ ap (λ (w : Bool). record { session = a.session; cutter = a.cutter; watched = w }) becomes.watched

  spread_later : (a b : MemberView) → Becomes a b → IsLater a b
  spread_later a b becomes = later_by a b (λ is. let found = closed_means a.session is in spread_same a b found.0 found.1 becomes)

  spread_watched : (a b : MemberView) → Becomes a b → b.watched ≡ a.watched
  spread_watched a b becomes = becomes.watched

  pub spread_roster : (live recent now_live : List ℕ) (watched : ℕ) (old new : List MemberView) → IsRoster live recent watched old
      → AllZip Becomes old new → now_live ≡ filter (passes_at is_open new) live → IsRoster now_live recent watched new
  spread_roster live recent now_live watched old new roster each left =
      kept_roster live recent now_live watched watched old new roster (zip_weaker Becomes IsLater spread_later old new each) left
      (roster.watched_ones ∙ sym (count_zip old new (zip_weaker Becomes (λ a b. b.watched ≡ a.watched) spread_watched old new each)))

-- a turn
renewed_by : (a : MemberView) (c : Option (ℕ × Close))
    → record a { session = record a.session { marks = turned_marks (turned_closing c) a.session.policy; answered = false; closing = turned_closing (turned_closing c) } }
    ≡ record a { session = record a.session { marks = turned_marks c a.session.policy; answered = false; closing = turned_closing c } }
renewed_by a None = refl
renewed_by a (Some closing) = refl

renewed_twice : (a : MemberView) → renewed (renewed a) ≡ renewed a
renewed_twice a = renewed_by a a.session.closing

pub renewed_open : (a : MemberView) → is_open (renewed a) ≡ is_open a
renewed_open a = by a.session.closing
  where
    by : (c : Option (ℕ × Close)) → not (is_some (turned_closing c)) ≡ not (is_some c)
    by None = refl
    by (Some closing) = refl

rest_stays : (a : MemberView) → IsAtRest a → renewed a ≡ a
rest_stays a rest =
    let marks : turned_marks a.session.closing a.session.policy ≡ a.session.marks = ap (λ c. turned_marks c a.session.policy) rest.closing.1 ∙ sym rest.marks in
    let closing : turned_closing a.session.closing ≡ a.session.closing = ap turned_closing rest.closing.1 ∙ sym rest.closing.1 in
    ap (λ m. record a { session = record a.session { marks = m; answered = false; closing = turned_closing a.session.closing } }) marks
    ∙ ap (λ b. record a { session = record a.session { answered = b; closing = turned_closing a.session.closing } }) (sym rest.answered)
    ∙ ap (λ c. record a { session = record a.session { closing = c } }) closing

renewed_rests : (a : MemberView) → is_open a ≡ false → IsAtRest (renewed a)
renewed_rests a is =
    let found = closed_means a.session is in
    record {
      marks = ap (λ c. turned_marks c a.session.policy) found.1;
      answered = refl;
      closing = (found.0.1, ap turned_closing found.1);
    }

pub turned_map : (live recent : List ℕ) (watched : ℕ) (old new : List MemberView) → IsRoster live recent watched old → Walks (λ a b. b ≡ renewed a) recent old new → new ≡ map renewed old
turned_map live recent watched old new roster walks =
    walk_map renewed renewed_twice recent old new walks (λ k free within missing. rest_stays (get_or old k free) (roster.recent_ones k free within missing))

turns_from : (a : MemberView) → MemberTurns a (renewed a)
turns_from a = record { becomes = refl; holding = λ lines. gaining.turned_holds lines a.session }

pub turned_zip : (live recent : List ℕ) (watched : ℕ) (old new : List MemberView) → IsRoster live recent watched old → Walks (λ a b. b ≡ renewed a) recent old new → AllZip MemberTurns old new
turned_zip live recent watched old new roster walks =
    let P : List MemberView → Type 0 = λ l. AllZip MemberTurns old l in
    subst P (sym (turned_map live recent watched old new roster walks)) (zip_map MemberTurns renewed turns_from old)

pub numbers_map : (test : MemberView → Bool) → ((a : MemberView) → test (renewed a) ≡ test a) → (n : ℕ) (xs : List MemberView)
    → numbers test n (map renewed xs) ≡ numbers test n xs
numbers_map test still n [] = refl
numbers_map test still n (x ∷ xs) =
    ap (λ l. cond (test (renewed x)) (n ∷ l) l) (numbers_map test still (n + 1) xs)
    ∙ ap (λ b. cond b (n ∷ numbers test (n + 1) xs) (numbers test (n + 1) xs)) (still x)

pub turned_roster : (live recent now_recent : List ℕ) (watched : ℕ) (old new : List MemberView) → IsRoster live recent watched old
    → Walks (λ a b. b ≡ renewed a) recent old new → now_recent ≡ filter (passes_at is_open new) recent → IsRoster live now_recent watched new
turned_roster live recent now_recent watched old new roster walks left =
    let all : new ≡ map renewed old = turned_map live recent watched old new roster walks in
    let same : length new ≡ length old = ap length all ∙ length-map old renewed in
    let counted : AllZip (λ a b. b.watched ≡ a.watched) old (map renewed old) = zip_map (λ a b. b.watched ≡ a.watched) renewed (λ a. refl) old in
    record {
      live_ones = roster.live_ones ∙ sym (ap (numbers is_open 0) all ∙ numbers_map is_open renewed_open 0 old);
      recent_ones = λ k free within missing.
          let inside : k < length old = omega (arith, same, within) in
          let here : get_or new k free ≡ renewed (get_or old k free) = ap (λ l. get_or l k free) all ∙ get_or-map renewed old k free free inside in
          let P : List ℕ → Type 0 = λ l. list_any (nat_eq k) l ≡ false in
          let was_closed : is_open (get_or old k free) ≡ false = ⊎_elim
          (λ absent. rest_is_closed (get_or old k free) (roster.recent_ones k free inside absent))
          (λ fails. sym (renewed_open (get_or old k free)) ∙ ap is_open (sym here) ∙ sym (passes_got is_open new k free within) ∙ fails)
          (filter_misses (passes_at is_open new) recent k (subst P left missing)) in
          let Q : MemberView → Type 0 = λ a. IsAtRest a in
          subst Q (sym here) (renewed_rests (get_or old k free) was_closed);
      within =
          let Below : ℕ → Type 0 = λ n. n < length new in
          All-same Below now_recent (filter (passes_at is_open new) recent) left
          (All-filter (passes_at is_open new) Below recent (All-weaker (λ n. n < length old) Below (λ n h. omega (arith, same)) recent roster.within));
      watched_ones = roster.watched_ones ∙ sym (ap (count_by was_watched) all ∙ count_zip old (map renewed old) counted);
      few_live = roster.few_live;
      few_opened = omega (arith, same, roster.few_opened);
    }

any_push : (k : ℕ) (ns : List ℕ) (n : ℕ) → list_any (nat_eq k) (ns ++ n ∷ []) ≡ false → (list_any (nat_eq k) ns ≡ false) × (nat_eq k n ≡ false)
any_push k [] n missing = (refl, (or_parts (nat_eq k n) false missing).0)
any_push k (m ∷ ns) n missing =
    let parts = or_parts (nat_eq k m) (list_any (nat_eq k) (ns ++ n ∷ [])) missing in
    let rest = any_push k ns n parts.1 in
    (or_from (nat_eq k m) (list_any (nat_eq k) ns) parts.0 rest.0, rest.1)

count_push : (xs : List MemberView) (y : MemberView) → y.watched ≡ false → count_by was_watched (xs ++ y ∷ []) ≡ count_by was_watched xs
count_push [] y unwatched =
    let f : MemberView → ℕ = λ a. cond a.watched 1 0 in
    sum_by-cons f y [] ∙ ap (λ b. cond b 1 0 + count_by was_watched []) unwatched
count_push (x ∷ xs) y unwatched =
    let f : MemberView → ℕ = λ a. cond a.watched 1 0 in
    sum_by-cons f x (xs ++ y ∷ []) ∙ ap (λ n. f x + n) (count_push xs y unwatched) ∙ sym (sum_by-cons f x xs)

-- a new session, which is open and not watched
pub admitted_roster : (live recent : List ℕ) (watched n : ℕ) (next : MemberView) (old : List MemberView) → IsRoster live recent watched old → n ≡ length old
    → next.session.closing ≡ None → next.watched ≡ false → length live < most_live → length old < most_opened
    → IsRoster (live ++ n ∷ []) (recent ++ n ∷ []) watched (old ++ next ∷ [])
admitted_roster live recent watched n next old roster number none unwatched few_live few_opened =
    let more : length (old ++ next ∷ []) ≡ length old + 1 = omega (arith, length-append old (next ∷ [])) in
    record {
      live_ones = ap (λ l. l ++ n ∷ []) roster.live_ones ∙ ap (λ k. numbers is_open 0 old ++ k ∷ []) number ∙ sym (numbers_push is_open old next (open_is next none));
      recent_ones = λ k free within missing.
          let parts = any_push k recent n missing in
          let other : k ≡ n → ⊥ = λ same. false≢true (sym parts.1 ∙ eq-eqb k n same) in
          let inside : k < length old = omega (arith, other, number, more, within) in
          let P : MemberView → Type 0 = λ a. IsAtRest a in
          subst P (sym (get_or_append_left old (next ∷ []) free k inside)) (roster.recent_ones k free inside parts.0);
      within =
          let Below : ℕ → Type 0 = λ m. m < length (old ++ next ∷ []) in
          All-push Below recent n (All-weaker (λ m. m < length old) Below (λ m h. omega (arith, more)) recent roster.within) (omega (arith, number, more));
      watched_ones = roster.watched_ones ∙ sym (count_push old next unwatched);
      few_live = omega (arith, few_live, length-append live (n ∷ []));
      few_opened = omega (arith, few_opened, more);
    }

-- the same after room was made
pub admitted_step : (live live' live'' recent recent' recent'' : List ℕ) (watched n : ℕ) (next : MemberView) (old old' old'' : List MemberView) → IsRoster live recent watched old
    → old' ≡ old → live' ≡ live → recent' ≡ recent → old'' ≡ old' ++ next ∷ [] → live'' ≡ live' ++ n ∷ [] → recent'' ≡ recent' ++ n ∷ []
    → n ≡ length old → next.session.closing ≡ None → next.watched ≡ false → live_in old < most_live → length old < most_opened → IsRoster live'' recent'' watched old''
admitted_step live live' live'' recent recent' recent'' watched n next old old' old'' roster olds lives recents pushed live_pushed recent_pushed number none unwatched few_live few_opened =
    let P : List MemberView → Type 0 = λ l. IsRoster live'' recent'' watched l in
    let Q : List ℕ → Type 0 = λ l. IsRoster l recent'' watched (old ++ next ∷ []) in
    let R : List ℕ → Type 0 = λ l. IsRoster (live ++ n ∷ []) l watched (old ++ next ∷ []) in
    let few : length live < most_live = omega (arith, ap length roster.live_ones, numbers_count is_open old, few_live) in
    subst P (sym (pushed ∙ ap (λ l. l ++ next ∷ []) olds)) (subst Q (sym (live_pushed ∙ ap (λ l. l ++ n ∷ []) lives)) (subst R (sym (recent_pushed ∙ ap (λ l. l ++ n ∷ []) recents))
    (admitted_roster live recent watched n next old roster number none unwatched few few_opened)))
