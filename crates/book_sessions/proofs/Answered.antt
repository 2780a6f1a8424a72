-- What the answers to requests make of a session.
use Rattle.std.proofs.Common.{◌≡◌, ◌<◌, ◌≤◌, ⊎_elim, ℕ, zero, suc, ◌+◌, ◌-◌, ◌^◌, Bool, true, false, ◌||◌, ◌&&◌, not, nat_le, List, [], ◌∷◌, ◌++◌, length, map, take, Option, None, refl, sym, ap, ◌∙◌, subst, length-append, append_assoc, append-nil, cond, ◌==◌, arith}
use Rattle.std.specs.List.{list_any}
use Rattle.std.proofs.lemmas.Bool.{cases_lt, ne_eqb, leb-true, leb-false, le-leb, lt-leb}
use Rattle.gps_command.specs.declared.request.RawCommand.{RawCommand}
use Rattle.gps_command.specs.Kept.{CommandCutterView}
use Rattle.gps_report.specs.declared.policy.Policy.{Policy}
use Rattle.gps_report.specs.declared.report.Report.{Report}
use Rattle.book_replies.specs.declared.answering.Answer.{Answer}
use Rattle.book_replies.specs.ReplyDataView.{ReplyDataView}
use Rattle.book_replies.specs.Replies.{answered}
use Rattle.book_replies.proofs.Joined.{one_for_each}
use Rattle.session_core.specs.declared.mark.Close.{Close}
use Rattle.session_core.specs.declared.mark.Close.TheVariants.{TooManyRequests, Overrun}
use Rattle.session_core.specs.declared.mark.Mark.{Mark}
use Rattle.session_core.specs.declared.outlet.Push.{Push}
use Rattle.session_core.specs.declared.outlet.Push.TheVariants.{Done, Full}
use Rattle.session_core.specs.Pushing.{MatchPush}
use Rattle.session_core.specs.SessionView.{SessionView, closed_at, last_place, last_policy, one_more}
use Rattle.session_core.specs.Stretches.{Stretch}
use Rattle.session_core.specs.Holding.{Selection, Holding, SessionGains}
use Rattle.session_core.proofs.Gaining as gaining
use Rattle.book_sessions.proofs.Receiving.{gains_on}
use Rattle.book_sessions.specs.MemberView.{MemberView, cutter_left, rested, with_cutter}
use Rattle.book_sessions.specs.Answering.{AnswersCut, PutsAnswers, Causes, Either, Inputs, IsCut, MayAnswer, Puts, Stops, enables, raised, ended, mark_at, put, stretch_at}

-- the place of the last mark is that of the mark that was added
pub last_place_push : (from : ℕ) (marks : List Mark) (mark : Mark) → last_place from (marks ++ mark ∷ []) ≡ mark.place
last_place_push from [] mark = refl
last_place_push from (other ∷ marks) mark = last_place_push other.place marks mark

module _ (exact : Bool) (place : ℕ) (start cur : MemberView) (all rest : List Answer) (answer : Answer)
    (so_far : (new : MemberView) → PutsAnswers exact place cur (answer ∷ rest) new → PutsAnswers exact place start all new) where
  by_test : (new : MemberView) (b : Bool) → nat_le cur.session.most_requests cur.session.requests ≡ b
      → Either b (new ≡ ended place TooManyRequests cur)
      ((push : Push) × MayAnswer exact cur.session push × MatchPush push (PutsAnswers exact place (put place answer cur) rest new) (new ≡ ended place Overrun cur))
      → PutsAnswers exact place start all new
  by_test new b is step =
      let P : Bool → Type 0 = λ t. Either t (new ≡ ended place TooManyRequests cur)
      ((push : Push) × MayAnswer exact cur.session push × MatchPush push (PutsAnswers exact place (put place answer cur) rest new) (new ≡ ended place Overrun cur)) in
      so_far new (subst P (sym is) step)

  pub put_too_many : (new : MemberView) → cur.session.most_requests ≤ cur.session.requests → new ≡ ended place TooManyRequests cur → PutsAnswers exact place start all new
  put_too_many new many now = by_test new true (le-leb cur.session.most_requests cur.session.requests many) now

  pub put_full : (new : MemberView) → cur.session.requests < cur.session.most_requests → MayAnswer exact cur.session Full → new ≡ ended place Overrun cur → PutsAnswers exact place start all new
  put_full new few may now = by_test new false (lt-leb cur.session.most_requests cur.session.requests few) (Full, may, now)

  pub put_done : (next : MemberView) → cur.session.requests < cur.session.most_requests → MayAnswer exact cur.session Done → next ≡ put place answer cur
      → (new : MemberView) → PutsAnswers exact place next rest new → PutsAnswers exact place start all new
  put_done next few may now new more =
      let P : MemberView → Type 0 = λ a. PutsAnswers exact place a rest new in
      by_test new false (lt-leb cur.session.most_requests cur.session.requests few) (Done, may, subst P now more)

or_none : (a : Bool) → a ≡ (a || false)
or_none true = refl
or_none false = refl

or_step : (a e m : Bool) → ((a || (e || false)) || m) ≡ (a || (e || m))
or_step true e m = refl
or_step false true m = refl
or_step false false m = refl

module _ (exact : Bool) (place : ℕ) where
  -- nothing was put
  still_put : (old : MemberView) (new : SessionView) → new.kept ≡ old.session.kept → new.marks ≡ old.session.marks → new.requests ≡ old.session.requests
      → new.items ≡ old.session.items → new.name ≡ old.session.name → new.cap ≡ old.session.cap → new.most_requests ≡ old.session.most_requests → new.policy ≡ old.session.policy
      → ((lines : Selection) (history : List Report) (stretches : List Stretch) → length history ≡ place → Holding lines history old.session stretches
      → SessionGains lines history history old.session new stretches stretches [])
      → Puts place old (record old { session = new }) []
  still_put old new kept marks requests items name cap most policy gains = record {
    policy = policy;
    kept = kept ∙ sym (append-nil old.session.kept);
    marks = marks ∙ sym (append-nil old.session.marks);
    watched = or_none old.watched;
    requests = requests ∙ (let e : old.session.requests ≡ old.session.requests + 0 = omega arith in e);
    items = items;
    name = name;
    cap = cap;
    most_requests = most;
    gains = λ lines history stretches at holding.
        let P : List Stretch → Type 0 = λ t. SessionGains lines history history old.session new stretches t [] in
        subst P (sym (append-nil stretches)) (gains lines history stretches at holding);
  }

  pub none_put : (old : MemberView) → Puts place old old []
  none_put old = still_put old old.session refl refl refl refl refl refl refl refl (λ lines history stretches at holding.
      record { kept = sym (append-nil old.session.kept); items = sym (append-nil _); holding = holding })

  end_put : (why : Close) (old : MemberView) → old.session.closing ≡ None → Puts place old (ended place why old) []
  end_put why old is_open = still_put old (closed_at place why old.session) refl refl refl refl refl refl refl refl (λ lines history stretches at holding.
      gaining.close_gains place why old.session (closed_at place why old.session) is_open refl lines history stretches at holding.agrees)

  pub one_put : (answer : Answer) (old : MemberView) → old.session.most_requests < 2 ^ 32 → old.session.closing ≡ None → 0 < length old.session.marks
      → old.session.requests < old.session.most_requests
      → Puts place old (put place answer old) (answer ∷ [])
  one_put answer old low is_open marked few =
      let some : (length old.session.marks == 0) ≡ false = ne_eqb (length old.session.marks) 0 (λ none. absurd (omega (arith, none, marked))) in
      let more : one_more (2 ^ 32 - 1) old.session.requests ≡ old.session.requests + 1 = omega (arith, few, low) in
      record {
        kept = refl;
        marks = refl;
        policy = refl;
        watched = ap (λ b. old.watched || b) (or_none answer.policy.enable);
        requests = ap (λ b. cond b old.session.requests (one_more (2 ^ 32 - 1) old.session.requests)) some ∙ more;
        items = refl;
        name = refl;
        cap = refl;
        most_requests = refl;
        gains = λ lines history stretches at holding. gaining.answered lines place answer.policy answer.reply history old.session stretches is_open at holding.agrees;
      }

  put_then : (answer : Answer) (more : List Answer) (old mid new : MemberView) → Puts place old mid (answer ∷ []) → Puts place mid new more → Puts place old new (answer ∷ more)
  put_then answer more old mid new one rest = record {
    kept = rest.kept ∙ ap (λ l. l ++ map (λ a. a.reply) more) one.kept ∙ append_assoc old.session.kept (answer.reply ∷ []) (map (λ a. a.reply) more);
    marks = rest.marks ∙ ap (λ l. l ++ map (mark_at place) more) one.marks ∙ append_assoc old.session.marks (mark_at place answer ∷ []) (map (mark_at place) more);
    watched = rest.watched ∙ ap (λ b. b || list_any enables more) one.watched ∙ or_step old.watched answer.policy.enable (list_any enables more);
    policy = rest.policy ∙ ap (λ p. last_policy p (map (mark_at place) more)) one.policy;
    requests = omega (arith, rest.requests, one.requests);
    items = rest.items ∙ ap (λ i. raised i (length more)) one.items;
    name = rest.name ∙ one.name;
    cap = rest.cap ∙ one.cap;
    most_requests = rest.most_requests ∙ one.most_requests;
    gains = λ lines history stretches at holding.
        let first = one.gains lines history stretches at holding in
        let later = stretches ++ stretch_at place answer ∷ [] in
        let then = rest.gains lines history later at first.holding in
        let P : List Stretch → Type 0 = λ t. SessionGains lines history history old.session new.session stretches t (answer.reply ∷ map (λ a. a.reply) more) in
        subst P (append_assoc stretches (stretch_at place answer ∷ []) (map (stretch_at place) more))
        (gains_on lines history history history old.session mid.session new.session stretches later (later ++ map (stretch_at place) more) (answer.reply ∷ []) (map (λ a. a.reply) more) first then);
  }

  abbrev Room : MemberView → ℕ → Type 0
  Room new count = 0 < count → (new.session.requests ≤ new.session.most_requests) × (exact ≡ true → length new.session.kept ≤ new.session.cap)

  -- what was put, and why no more was
  pub record Ends (old : MemberView) (answers : List Answer) (new : MemberView) : Type 0 where
    pub count : ℕ
    pub few : count ≤ length answers
    pub puts : Puts place old new (take count answers)
    pub stops : Stops place (length answers - count) new.session new.session.closing
    pub room : Room new count
    pub cutter : new.cutter ≡ old.cutter

  ends_none : (old new : MemberView) → old.session.closing ≡ None → new ≡ old → Ends old [] new
  ends_none old new is_open same =
      let P : MemberView → Type 0 = λ a. Ends old [] a in
      let Q : Option (ℕ × Close) → Type 0 = λ c. Stops place 0 old.session c in
      subst P (sym same) (record { count = 0; few = omega arith; puts = none_put old; stops = subst Q (sym is_open) refl; room = λ some. absurd (omega (arith, some)); cutter = refl })

  ends_closed : (why : Close) (answer : Answer) (rest : List Answer) (old new : MemberView) → old.session.closing ≡ None → Causes (closed_at place why old.session) why
      → new ≡ ended place why old → Ends old (answer ∷ rest) new
  ends_closed why answer rest old new is_open cause now =
      let P : MemberView → Type 0 = λ a. Ends old (answer ∷ rest) a in
      let left : 0 < length (answer ∷ rest) - 0 = omega arith in
      subst P (sym now) (record { count = 0; few = omega arith; puts = end_put why old is_open; stops = (left, refl, cause); room = λ some. absurd (omega (arith, some)); cutter = refl })

  room_by : (answer : Answer) (rest : List Answer) (old mid new : MemberView) (count : ℕ) → old.session.requests < old.session.most_requests → MayAnswer exact old.session Done
      → Puts place old new (answer ∷ take count rest) → Room new count → Room new (suc count)
  room_by answer rest old mid new zero few may puts room some =
      let kept : length new.session.kept ≡ length old.session.kept + 1 = ap length puts.kept ∙ (let e : length (old.session.kept ++ answer.reply ∷ []) ≡ length old.session.kept + 1 = omega (arith, length-append old.session.kept (answer.reply ∷ [])) in e) in (
        omega (arith, puts.requests, puts.most_requests, few),
        λ sure. ⊎_elim
            (λ (fits : length old.session.kept < old.session.cap). omega (arith, kept, puts.cap))
            (λ (full : old.session.cap ≤ length old.session.kept). let never : Done ≡ Full = (may.exactly sure).1 full in absurd cc)
            (cases_lt (length old.session.kept) old.session.cap),
      )
  room_by answer rest old mid new (suc count) few may puts room some = room (omega arith)

  ends_step : (answer : Answer) (rest : List Answer) (old new : MemberView) → old.session.most_requests < 2 ^ 32 → old.session.closing ≡ None → 0 < length old.session.marks
      → ((mid : MemberView) → mid.session.most_requests < 2 ^ 32 → mid.session.closing ≡ None → 0 < length mid.session.marks → PutsAnswers exact place mid rest new → Ends mid rest new)
      → (b : Bool) → nat_le old.session.most_requests old.session.requests ≡ b
      → Either b (new ≡ ended place TooManyRequests old)
      ((push : Push) × MayAnswer exact old.session push × MatchPush push (PutsAnswers exact place (put place answer old) rest new) (new ≡ ended place Overrun old))
      → Ends old (answer ∷ rest) new
  ends_step answer rest old new low is_open marked later true is now =
      ends_closed TooManyRequests answer rest old new is_open (leb-true old.session.most_requests old.session.requests is) now
  ends_step answer rest old new low is_open marked later false is step = by_push step.0 step.1 step.2
    where
      by_push : (push : Push) → MayAnswer exact old.session push → MatchPush push (PutsAnswers exact place (put place answer old) rest new) (new ≡ ended place Overrun old)
          → Ends old (answer ∷ rest) new
      by_push Done may steps =
          let mid = put place answer old in
          let few : old.session.requests < old.session.most_requests = leb-false old.session.most_requests old.session.requests is in
          let some : 0 < length mid.session.marks = omega (arith, length-append old.session.marks (mark_at place answer ∷ [])) in
          let ends = later mid low is_open some steps in
          let puts : Puts place old new (answer ∷ take ends.count rest) = put_then answer (take ends.count rest) old mid new (one_put answer old low is_open marked few) ends.puts in
          let left : length rest - ends.count ≡ length (answer ∷ rest) - suc ends.count = omega arith in
          let P : ℕ → Type 0 = λ n. Stops place n new.session new.session.closing in
          record {
            count = suc ends.count;
            few = omega (arith, ends.few);
            puts = puts;
            stops = subst P left ends.stops;
            room = room_by answer rest old mid new ends.count few may puts ends.room;
            cutter = ends.cutter;
          }
      by_push Full may now = ends_closed Overrun answer rest old new is_open (leb-false old.session.most_requests old.session.requests is, may.full refl) now

  pub answers_end : (answers : List Answer) (old new : MemberView) → old.session.most_requests < 2 ^ 32 → old.session.closing ≡ None → 0 < length old.session.marks → PutsAnswers exact place old answers new → Ends old answers new
  answers_end [] old new low is_open marked same = ends_none old new is_open same
  answers_end (answer ∷ rest) old new low is_open marked steps =
      ends_step answer rest old new low is_open marked (λ mid low' still some steps'. answers_end rest mid new low' still some steps') (nat_le old.session.most_requests old.session.requests) refl steps

-- Requests that were cut: the cutter and the room were put in place, the answers put, and a closed session gave up its input.
pub answers_done : (exact : Bool) (known : ReplyDataView) (names : List (List ℕ)) (place : ℕ) (requests : List RawCommand) (cutter : CommandCutterView) (spare : ℕ)
    (old next new : MemberView) → old.session.most_requests < 2 ^ 32 → old.session.closing ≡ None → 0 < length old.session.marks
    → PutsAnswers exact place (record old { session = record old.session { spare = spare }; cutter = cutter }) (answered known names old.session.policy requests) next
    → length (answered known names old.session.policy requests) ≡ length requests
    → new ≡ rested next → AnswersCut exact known names place requests cutter old new
answers_done exact known names place requests cutter spare old next new low is_open marked steps each now =
    let mid : MemberView = record old { session = record old.session { spare = spare }; cutter = cutter } in
    let ends = answers_end exact place (answered known names old.session.policy requests) mid next low is_open marked steps in
    let puts = ends.puts in
    let P : MemberView → Type 0 = λ a. AnswersCut exact known names place requests cutter old a in
    let S : ℕ → Type 0 = λ n. Stops place (n - ends.count) next.session next.session.closing in
    subst P (sym now) (record {
      goes_on = λ still. ap (λ c. cutter_left c next.cutter) still ∙ ends.cutter;
      count = ends.count;
      few = omega (arith, ends.few, each);
      puts = record {
        kept = puts.kept;
        marks = puts.marks;
        policy = puts.policy;
        watched = puts.watched;
        requests = puts.requests;
        items = puts.items;
        name = puts.name;
        cap = puts.cap;
        most_requests = puts.most_requests;
        gains = λ lines history stretches at holding.
            let gained = puts.gains lines history stretches at (gaining.roomier lines history old.session spare stretches holding) in
            record { kept = gained.kept; items = gained.items; holding = gained.holding };
      };
      stops = subst S each ends.stops;
      room = ends.room;
    })

-- the same over what the calls of `input` gave
pub answers_put : (exact : Bool) (known : ReplyDataView) (names : List (List ℕ)) (place : ℕ) (requests asked : List RawCommand) (cutter cut : CommandCutterView) (spare : ℕ)
    (policy : Policy) (replies : List Answer) (roomy : SessionView) (old next new : MemberView) → roomy.most_requests < 2 ^ 32 → old.session.closing ≡ None
    → 0 < length old.session.marks → roomy ≡ record old.session { spare = spare } → cut ≡ cutter → policy ≡ old.session.policy → asked ≡ requests → replies ≡ answered known names policy asked
    → PutsAnswers exact place (record { session = roomy; cutter = cut; watched = old.watched }) replies next
    → new ≡ rested next → AnswersCut exact known names place requests cutter old new
answers_put exact known names place requests asked cutter cut spare policy replies roomy old next new low is_open marked room cuts policy_is asks replied steps now =
    let low' : old.session.most_requests < 2 ^ 32 = subst (λ (s : SessionView). s.most_requests < 2 ^ 32) room low in
    let mid : MemberView = record old { session = record old.session { spare = spare }; cutter = cutter } in
    let all : replies ≡ answered known names old.session.policy requests = replied ∙ ap (λ p. answered known names p asked) policy_is ∙ ap (answered known names old.session.policy) asks in
    let P : MemberView → Type 0 = λ a. PutsAnswers exact place a replies next in
    let Q : List Answer → Type 0 = λ l. PutsAnswers exact place mid l next in
    let same : record { session = roomy; cutter = cut; watched = old.watched } ≡ mid =
    ap (λ (s : SessionView). record { session = s; cutter = cut; watched = old.watched }) room ∙ ap (λ (k : CommandCutterView). record old { session = record old.session { spare = spare }; cutter = k }) cuts in
    answers_done exact known names place requests cutter spare old next new low' is_open marked (subst Q all (subst P same steps)) (one_for_each known names old.session.policy requests) now

-- a piece of input is heard: what is known, in full, gives the same answers
pub heard : (exact : Bool) (known full : ReplyDataView) (names : List (List ℕ)) (place : ℕ) (piece : List ℕ) (requests : List RawCommand) (cutter : CommandCutterView) (old new : MemberView)
    → IsCut piece old requests cutter → answered known names old.session.policy requests ≡ answered full names old.session.policy requests
    → AnswersCut exact known names place requests cutter old new → Inputs exact full names place piece old new
heard exact known full names place piece requests cutter old new cut same answers =
    let P : List Answer → Type 0 = λ l. Puts place old new (take answers.count l) in
    record {
      requests = requests;
      gains = λ bytes stands. (cut bytes stands).0;
      cutter = λ bytes stands still. answers.goes_on still ∙ (cut bytes stands).1;
      count = answers.count;
      few = answers.few;
      puts = subst P same answers.puts;
      stops = answers.stops;
      room = answers.room;
    }

-- one that ends no request
pub heard_on : (exact : Bool) (full : ReplyDataView) (names : List (List ℕ)) (place : ℕ) (piece : List ℕ) (requests : List RawCommand) (cutter : CommandCutterView) (old new : MemberView)
    → IsCut piece old requests cutter → requests ≡ [] → old.session.closing ≡ None → new ≡ with_cutter cutter old → Inputs exact full names place piece old new
unfolding answered
heard_on exact full names place piece requests cutter old new cut none is_open now =
    let P : MemberView → Type 0 = λ a. Inputs exact full names place piece old a in
    let C : List RawCommand → Type 0 = λ r. IsCut piece old r cutter in
    let S : Option (ℕ × Close) → Type 0 = λ c. Stops place 0 old.session c in
    let cuts = subst C none cut in
    let puts = none_put exact place old in
    subst P (sym now) (record {
      requests = [];
      gains = λ bytes stands. (cuts bytes stands).0;
      cutter = λ bytes stands still. (cuts bytes stands).1;
      count = 0;
      few = omega arith;
      puts = record {
        kept = puts.kept;
        marks = puts.marks;
        policy = puts.policy;
        watched = puts.watched;
        requests = puts.requests;
        items = puts.items;
        name = puts.name;
        cap = puts.cap;
        most_requests = puts.most_requests;
        gains = puts.gains;
      };
      stops = subst S (sym is_open) refl;
      room = λ some. absurd (omega (arith, some));
    })

-- whether it is watched for the first time
pub watched_now : (old new : MemberView) (added : Bool) (more : Bool) → new.watched ≡ (old.watched || added) → more ≡ (not old.watched && new.watched) → new.watched ≡ (old.watched || more)
watched_now old new added more now is = now ∙ by old.watched added ∙ ap (λ b. old.watched || b) (ap (λ b. not old.watched && b) (sym now) ∙ sym is)
  where
    by : (o a : Bool) → (o || a) ≡ (o || (not o && (o || a)))
    by true a = refl
    by false a = refl
