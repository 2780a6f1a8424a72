-- How a session goes on fitting the log: entries came, its client was heard, it was closed; or nothing happened to it.
use Rattle.std.proofs.Common.{◌≡◌, ◌<◌, ◌≤◌, ℕ, zero, suc, ◌+◌, ◌-◌, Bool, true, false, ◌||◌, List, [], ◌∷◌, ◌++◌, length, length-append, length-take, take, get_or, set, Option, Some, None, refl, sym, ap, ◌∙◌, subst, inl, inr, ◌⊎◌, ⊎_elim, append-nil, append_assoc, arith, get_or-set_same}
use Rattle.std.specs.Prelude.{slice_get, slice_index_or, slice_set, option_and_then, is_some}
use Rattle.std.proofs.lemmas.List.Concat.{flat_map-append}
use Rattle.std.proofs.lemmas.Option.{slice_get-get_or}
use Rattle.book_log.specs.Entries.{Entry}
use Rattle.book_log.specs.History.{history}
use Rattle.book_log.specs.Standing.{StandsFor}
use Rattle.book_replies.specs.declared.answering.Answer.{Answer}
use Rattle.book_replies.specs.Replies.{answered}
use Rattle.book_sessions.specs.Answering.{Causes, Inputs, Stops}
use Rattle.book_sessions.specs.MemberView.{MemberView, opened}
use Rattle.book_sessions.specs.Roster.{Changes, Closes, IsOpenAt}
use Rattle.gps_command.specs.Kept as input
use Rattle.gps_command.specs.Requests.{requests}
use Rattle.gps_lane.specs.Ends.{Taking}
use Rattle.report_book.specs.BookView.{BookView}
use Rattle.report_book.specs.Knowing.{known_in}
use Rattle.report_book.specs.Moves.{HangsUp, AnswersRequests, SameButSessions}
use Rattle.report_book.specs.Standing.{BookHolds}
use Rattle.gps_lane.specs.Carried.{input_bytes, input_part}
use Rattle.gps_lane.specs.declared.piece.Ending.{Ending}
use Rattle.gps_lane.specs.declared.piece.Ending.TheVariants.{End, Failed, NoMemory as EndingNoMemory}
use Rattle.gps_lane.specs.declared.piece.Piece.{Piece}
use Rattle.gps_lane.specs.declared.piece.Piece.TheVariants.{Input, Last}
use Rattle.session_core.specs.declared.mark.Close.{Close}
use Rattle.session_core.specs.declared.mark.Close.TheVariants.{HungUp, ReadFault, DaemonEnd, TooManyRequests, Overrun, NoMemory}
use Rattle.session_core.specs.Naming.{OutletName}
use Rattle.session_core.specs.SessionView.{SessionView}
use Rattle.session_runs.specs.Accounts.{Account, CarriesOn, put_of}
use Rattle.session_runs.specs.Following.{answered_run, closed_run, closing_after, closing_at, run_after}
use Rattle.session_runs.specs.Runs.{SessionRun, IsRunOf, closed_from}
use Rattle.session_runs.proofs.Accounting.{closed_hears, closings_account, inputs_extend, others_keep}
use Rattle.session_runs.proofs.Books.{place_is}
use Rattle.session_runs.proofs.Ordered.{in_order}
use Rattle.session_runs.proofs.Sending.{requests_more}
use Rattle.book_log.proofs.ReadingLaws.{last_of-append}
use Rattle.hub_promise.specs.Given.{ending_in, ending_of, why_of}
use Rattle.hub_promise.specs.DaemonHub.{AllStop, ClosesFor, ClosedOutOfMemory, HeardOut, MayClose, MayBeOutOfMemory, SessionFits}
use Rattle.hub_promise.specs.Steps.{Abides, ClosesBy, SessionStep, with_got}

-- the last piece tells it
told_last : (pieces : List Piece) (ending : Ending) → ending_of (pieces ++ Last ending ∷ []) ≡ Some ending
told_last pieces ending = last_of-append ending_in pieces (Last ending ∷ [])

still_heard : (ending : Ending) (x y : Taking Piece) (s : SessionView) (more : List Piece) → y.got ≡ x.got ++ more → (is_some (ending_of x.got) ≡ true → more ≡ [])
    → HeardOut ending x s → HeardOut ending y s
still_heard ending x y s more gets untold heard =
    let told : is_some (ending_of x.got) ≡ true = ap (λ l. is_some (ending_of l)) heard.told ∙ ap is_some (told_last heard.before ending) in
    let same : y.got ≡ x.got = gets ∙ ap (λ l. x.got ++ l) (untold told) ∙ append-nil x.got in
    record {
      before = heard.before;
      told = same ∙ heard.told;
      answered = heard.answered ∙ ap (λ l. length (requests (input_bytes l))) (sym same);
    }

more_requests : (x y : Taking Piece) (more : List Piece) → y.got ≡ x.got ++ more → (n : ℕ) → n < length (requests (input_bytes x.got)) → n < length (requests (input_bytes y.got))
more_requests x y more gets n lt =
    let bytes : input_bytes y.got ≡ input_bytes x.got ++ input_bytes more = ap input_bytes gets ∙ flat_map-append input_part x.got more in
    let longer = requests_more (input_bytes x.got) (input_bytes more) in
    let count : length (requests (input_bytes y.got)) ≡ length (requests (input_bytes x.got)) + length longer.0 =
    ap (λ b. length (requests b)) bytes ∙ ap length longer.1 ∙ length-append (requests (input_bytes x.got)) longer.0 in
    omega (arith, count, lt)

still_short : (x y : Taking Piece) (s : SessionView) (more : List Piece) → y.got ≡ x.got ++ more → ClosedOutOfMemory x s → ClosedOutOfMemory y s
still_short x y s more gets short = record {
  before = short.before;
  piece = short.piece;
  later = short.later ++ more;
  got = gets ∙ ap (λ l. l ++ more) short.got ∙ append_assoc short.before (short.piece ∷ short.later) more;
  lacks = short.lacks;
  answered = short.answered;
}

-- the piece that was got last could not be taken
pub cut_short : (x : Taking Piece) (piece : Piece) (shown : SessionView) → MayBeOutOfMemory piece → shown.requests ≡ length (requests (input_bytes x.got)) → ClosedOutOfMemory (with_got piece x) shown
cut_short x piece shown lacks answered = record { before = x.got; piece = piece; later = []; got = refl; lacks = lacks; answered = answered }

-- more was got of a lane, and nothing after the piece that tells how its source ended
pub cause_on : (c : Option (ℕ × Close)) (count : ℕ) (log : List Entry) (x y : Taking Piece) (s : SessionView) (more : List Piece) → y.got ≡ x.got ++ more
    → (is_some (ending_of x.got) ≡ true → more ≡ []) → ClosesFor count log x s c → ClosesFor count log y s c
cause_on None count log x y s more gets untold cause = tt
cause_on (Some (place, HungUp)) count log x y s more gets untold cause = still_heard End x y s more gets untold cause
cause_on (Some (place, ReadFault)) count log x y s more gets untold cause = still_heard Failed x y s more gets untold cause
cause_on (Some (place, DaemonEnd)) count log x y s more gets untold cause = cause
cause_on (Some (place, TooManyRequests)) count log x y s more gets untold cause = (cause.0, more_requests x y more gets s.most_requests cause.1)
cause_on (Some (place, Overrun)) count log x y s more gets untold cause = cause
cause_on (Some (place, NoMemory)) count log x y s more gets untold cause = still_short x y s more gets cause

-- entries came, of a device that had not stopped
may_on : (why : Close) (count other place : ℕ) (log longer : List Entry) (x : Taking Piece) (old new : SessionView) → (AllStop count log → ⊥)
    → new.requests ≡ old.requests → new.most_requests ≡ old.most_requests → new.cap ≡ old.cap → new.kept ≡ old.kept → MayClose count log x old place why → MayClose other longer x new place why
may_on HungUp count other place log longer x old new running requests most cap kept may = record { before = may.before; told = may.told; answered = requests ∙ may.answered }
may_on ReadFault count other place log longer x old new running requests most cap kept may = record { before = may.before; told = may.told; answered = requests ∙ may.answered }
may_on DaemonEnd count other place log longer x old new running requests most cap kept may = absurd (running may.0)
may_on TooManyRequests count other place log longer x old new running requests most cap kept may = (requests ∙ may.0 ∙ sym most, omega (arith, most, may.1))
may_on Overrun count other place log longer x old new running requests most cap kept may =
    subst (λ n. n ≤ length new.kept) (sym cap) (subst (λ (l : List (List ℕ)). old.cap ≤ length l) (sym kept) may)
may_on NoMemory count other place log longer x old new running requests most cap kept may = record {
  before = may.before;
  piece = may.piece;
  later = may.later;
  got = may.got;
  lacks = may.lacks;
  answered = requests ∙ may.answered;
}

over_on : (c : Option (ℕ × Close)) (count other : ℕ) (log longer : List Entry) (x : Taking Piece) (old new : SessionView) → (AllStop count log → ⊥)
    → new.requests ≡ old.requests → new.most_requests ≡ old.most_requests → new.cap ≡ old.cap → new.kept ≡ old.kept → ClosesFor count log x old c → ClosesFor other longer x new c
over_on None count other log longer x old new running requests most cap kept was = tt
over_on (Some closing) count other log longer x old new running requests most cap kept was =
    may_on closing.1 count other closing.0 log longer x old new running requests most cap kept was

closes_on : (c run : Option (ℕ × Close)) (base count other : ℕ) (log longer : List Entry) (x : Taking Piece) (old new : SessionView) → (AllStop count log → ⊥)
    → new.requests ≡ old.requests → new.most_requests ≡ old.most_requests → new.cap ≡ old.cap → ClosesBy c old new → ClosesFor count log x old run → ClosesFor other longer x new (closing_after base c new.closing run)
closes_on None run base count other log longer x old new running requests most cap closes was =
    ⊎_elim (λ (e : new.closing ≡ None). subst (λ (o : Option (ℕ × Close)). ClosesFor other longer x new (closed_from base o)) (sym e) tt)
    (λ (w : (place : ℕ) × (new.closing ≡ Some (place, Overrun)) × (new.cap ≤ length new.kept)).
    subst (λ (o : Option (ℕ × Close)). ClosesFor other longer x new (closed_from base o)) (sym w.1) w.2)
    closes
closes_on (Some closing) run base count other log longer x old new running requests most cap closes was =
    over_on run count other log longer x old new running requests most cap closes.2 was

pub session_onward : (old new : BookView) (before onward entries : List Entry) (a b : MemberView) (x : Taking Piece) → (AllStop (length old.names) (before ++ old.log.log) → ⊥)
    → CarriesOn old before new onward a b → Abides a b → SessionFits old.names before old.log.log a x → SessionFits new.names onward new.log.log b x
session_onward old new before onward entries a b x running carries abides f =
    record {
      run = run_after (length (history onward)) a.session b.session f.run;
      account = carries f.run [] (input_bytes x.got) f.account;
      cause = closes_on a.session.closing f.run.closing (length (history onward)) (length old.names) (length new.names) (before ++ old.log.log) (onward ++ new.log.log) x
          a.session b.session running abides.requests abides.most_requests abides.cap abides.closes f.cause;
    }

-- if only another session changed
pub session_beside : (old new : BookView) (before : List Entry) (a : MemberView) (x : Taking Piece) → new.names ≡ old.names → new.log ≡ old.log
    → SessionFits old.names before old.log.log a x → SessionFits new.names before new.log.log a x
session_beside old new before a x names log f =
    let N : List (List ℕ) → Type 0 = λ n. SessionFits n before new.log.log a x in
    subst N (sym names) (subst (λ (l : List Entry). SessionFits old.names before l a x) (sym (ap (λ l. l.log) log)) f)

input_more : (pieces : List Piece) (piece : Piece) → input_bytes (pieces ++ piece ∷ []) ≡ input_bytes pieces ++ input_part piece
input_more pieces piece = flat_map-append input_part pieces (piece ∷ []) ∙ ap (λ l. input_bytes pieces ++ l) (append-nil (input_part piece))

set_same : (xs : List MemberView) (s : ℕ) (x y : MemberView) → s < length xs → slice_set xs s x ≡ slice_set xs s y → x ≡ y
set_same xs s x y lt e = sym (get_or-set_same xs s x x lt) ∙ ap (λ l. get_or l s x) e ∙ get_or-set_same xs s y x lt

stops_for : (c : Option (ℕ × Close)) (count place whole left : ℕ) (log : List Entry) (x : Taking Piece) (s : SessionView) → s.requests ≤ s.most_requests
    → (0 < left → s.requests < length (requests (input_bytes x.got))) → Stops place left s c → ClosesFor count log x s (closing_at whole c)
stops_for None count place whole left log x s few more stops = tt
stops_for (Some closing) count place whole left log x s few more stops = by_cause closing.1 stops.2
  where
    by_cause : (why : Close) → Causes s why → MayClose count log x s whole why
    by_cause HungUp causes = absurd causes
    by_cause ReadFault causes = absurd causes
    by_cause DaemonEnd causes = absurd causes
    by_cause TooManyRequests causes = let one = more stops.0 in (omega (arith, few, causes), omega (arith, one, causes))
    by_cause Overrun causes = causes.1
    by_cause NoMemory causes = absurd causes

-- An open session has answered each request that it was sent.
all_answered : (names : List (List ℕ)) (before log : List Entry) (a : MemberView) (x : Taking Piece) (r : SessionRun) → a.session.closing ≡ None
    → Account names before log a r [] (input_bytes x.got) → a.session.requests ≡ length (requests (input_bytes x.got))
all_answered names before log a x r is_open account = omega (arith, account.sent.count, account.sent.whole is_open)

-- an open one is not closed
not_closed : (c : Option (ℕ × Close)) {X : Type 0} → c ≡ None → is_some c ≡ true → X
not_closed None e is = absurd (cc)
not_closed (Some closing) e is = absurd (cc)

or_first : (a b c : Bool) → c ≡ (a || b) → a ≡ true → c ≡ true
or_first true b c e is = e
or_first false b c e is = absurd (cc)

-- if a piece holds more requests than were answered
heard_more : (exact : Bool) (names : List (List ℕ)) (log : List Entry) (place : ℕ) (piece : List ℕ) (x : Taking Piece) (a b : MemberView)
    → (inputs : Inputs exact (known_in (length names) log) names place piece a b) → input.StandsFor a.cutter (input_bytes x.got)
    → a.session.requests ≡ length (requests (input_bytes x.got)) → 0 < length inputs.requests - inputs.count
    → b.session.requests < length (requests (input_bytes (with_got (Input piece) x).got))
heard_more exact names log place piece x a b inputs stands was left =
    let answers : List Answer = answered (known_in (length names) log) names a.session.policy inputs.requests in
    let size : length (requests (input_bytes (with_got (Input piece) x).got)) ≡ length (requests (input_bytes x.got)) + length inputs.requests =
    ap (λ b. length (requests b)) (input_more x.got (Input piece)) ∙ ap length (inputs.gains (input_bytes x.got) stands) ∙ length-append (requests (input_bytes x.got)) inputs.requests in
    let put : b.session.requests ≡ a.session.requests + length (take inputs.count answers) = inputs.puts.requests in
    omega (arith, size, put, length-take inputs.count answers, was, left)

pub nobody : MemberView
nobody = opened OutletName.alone 0 0 0

-- its client was heard
pub heard_step : (exact : Bool) (old new : BookView) (s : ℕ) (piece : List ℕ) (x : Taking Piece) → BookHolds old → s < length old.sessions → IsOpenAt s old.sessions
    → AnswersRequests exact s piece old new → SessionStep s old new x (with_got (Input piece) x)
heard_step exact old new s piece x held lt is_open hears =
    let one = hears.session held.log.some.0 held.log.some.1 in
    let was = slice_index_or old.sessions s nobody in
    let puts = (one.2 nobody).puts in
    record {
      same = hears.same;
      was = was;
      there = slice_get-get_or old.sessions s nobody lt;
      next = one.0;
      sets = one.1;
      name = puts.name;
      cap = puts.cap;
      watched = or_first _ _ _ puts.watched;
      stays_closed = not_closed was.session.closing (is_open nobody);
      lane = refl;
      fits = λ before stands f.
          let other = hears.session before stands in
          let same : other.0 ≡ one.0 = set_same old.sessions s other.0 one.0 lt (sym other.1 ∙ one.1) in
          let inputs = subst (λ (b : MemberView). Inputs exact (known_in (length old.names) (before ++ old.log.log)) old.names old.log.length piece was b) same (other.2 nobody) in
          let account = inputs_extend exact old.names before old.log.log old.log.length piece was one.0 f.run [] (input_bytes x.got) (place_is old before held stands) (is_open nobody) inputs f.account in
          let run = answered_run (before ++ old.log.log) (put_of exact old.names (before ++ old.log.log) old.log.length piece was one.0 inputs) one.0.session.closing f.run in
          let all = all_answered old.names before old.log.log was x f.run (is_open nobody) f.account in
          record {
            run = run;
            account = subst (λ (b : List ℕ). Account old.names before old.log.log one.0 run [] b) (sym (input_more x.got (Input piece))) account;
            cause = stops_for one.0.session.closing (length old.names) old.log.length (length (history (before ++ old.log.log))) (length inputs.requests - inputs.count) (before ++ old.log.log)
                (with_got (Input piece) x) one.0.session account.sent.few
                (heard_more exact old.names (before ++ old.log.log) old.log.length piece x was one.0 inputs (f.account.sent.cutter (is_open nobody)) all) inputs.stops;
          };
    }

-- it was closed at the last piece of its lane, or if the book refused a piece
pub hung_step : (old new : BookView) (s : ℕ) (why : Close) (piece : Piece) (x : Taking Piece) → BookHolds old → s < length old.sessions → IsOpenAt s old.sessions
    → ((count place : ℕ) (log : List Entry) (shown : SessionView) → shown.requests ≡ length (requests (input_bytes x.got)) → MayClose count log (with_got piece x) shown place why)
    → HangsUp s why old new → SessionStep s old new x (with_got piece x)
hung_step old new s why piece x held lt is_open may hangs =
    let one = hangs.session in
    let was = slice_index_or old.sessions s nobody in
    let closes = one.2 nobody in
    let becomes = closes.becomes in
    record {
      same = hangs.same;
      was = was;
      there = slice_get-get_or old.sessions s nobody lt;
      next = one.0;
      sets = one.1;
      name = ap (λ (a : MemberView). a.session.name) becomes;
      cap = ap (λ (a : MemberView). a.session.cap) becomes;
      watched = λ watched. ap (λ (a : MemberView). a.watched) becomes ∙ watched;
      stays_closed = not_closed was.session.closing (is_open nobody);
      lane = refl;
      fits = λ before stands f.
          let is_closed : is_some one.0.session.closing ≡ true = ap (λ (a : MemberView). is_some a.session.closing) becomes in
          let account = closings_account old.names before old.log.log old.log.length why was one.0 f.run [] (input_bytes x.got) (place_is old before held stands) (is_open nobody) closes f.account in
          let run = closed_run (before ++ old.log.log) why f.run in
          record {
            run = run;
            account = subst (λ (b : List ℕ). Account old.names before old.log.log one.0 run [] b) (sym (input_more x.got piece)) (closed_hears old.names before old.log.log one.0 run [] (input_bytes x.got) (input_part piece) is_closed account);
            cause = may (length old.names) (length (history (before ++ old.log.log))) (before ++ old.log.log) one.0.session
                (ap (λ (a : MemberView). a.session.requests) becomes ∙ all_answered old.names before old.log.log was x f.run (is_open nobody) f.account);
          };
    }

set_here : (xs : List MemberView) (s : ℕ) (a : MemberView) → xs ≡ slice_set xs s (get_or xs s a)
set_here [] s a = refl
set_here (x ∷ xs) zero a = refl
set_here (x ∷ xs) (suc s) a = ap (λ l. x ∷ l) (set_here xs s a)

-- the run of an open session is not closed
open_cause : (names : List (List ℕ)) (before log : List Entry) (x : Taking Piece) (s : SessionView) (r : SessionRun) → s.closing ≡ None → IsRunOf names before log s r
    → ClosesFor (length names) (before ++ log) x s r.closing
open_cause names before log x s r is_open run =
    let none : r.closing ≡ None = not_some r.closing ((in_order names before log s r run).closed ∙ ap is_some is_open) in
    subst (ClosesFor (length names) (before ++ log) x s) (sym none) tt
  where
    not_some : (c : Option (ℕ × Close)) → is_some c ≡ false → c ≡ None
    not_some None e = refl
    not_some (Some closing) e = absurd (cc)

-- a piece that its lane does not carry does nothing
pub useless_step : (book : BookView) (s : ℕ) (piece : Piece) (x : Taking Piece) → s < length book.sessions → IsOpenAt s book.sessions → input_part piece ≡ []
    → SessionStep s book book x (with_got piece x)
useless_step book s piece x lt is_open none =
    let here = slice_index_or book.sessions s nobody in
    record {
      same = record { names = refl; requests = refl; log = refl; units = refl };
      was = here;
      there = slice_get-get_or book.sessions s nobody lt;
      next = here;
      sets = set_here book.sessions s nobody;
      name = refl;
      cap = refl;
      watched = λ watched. watched;
      stays_closed = λ closed. closed;
      lane = refl;
      fits = λ before stands f. record {
        run = f.run;
        account = subst (λ (b : List ℕ). Account book.names before book.log.log here f.run [] b)
            (sym (input_more x.got piece ∙ ap (λ l. input_bytes x.got ++ l) none ∙ append-nil (input_bytes x.got))) f.account;
        cause = open_cause book.names before book.log.log (with_got piece x) here.session f.run (is_open nobody) f.account.run;
      };
    }

-- nothing came of it
pub still_step : (book : BookView) (s : ℕ) (x : Taking Piece) → s < length book.sessions → SessionStep s book book x x
still_step book s x lt =
    let here = slice_index_or book.sessions s nobody in
    record {
      same = record { names = refl; requests = refl; log = refl; units = refl };
      was = here;
      there = slice_get-get_or book.sessions s nobody lt;
      next = here;
      sets = set_here book.sessions s nobody;
      name = refl;
      cap = refl;
      watched = λ watched. watched;
      stays_closed = λ closed. closed;
      lane = refl;
      fits = λ before stands f. f;
    }

heard_out : (ending : Ending) (x : Taking Piece) (shown : SessionView) → shown.requests ≡ length (requests (input_bytes x.got)) → HeardOut ending (with_got (Last ending) x) shown
heard_out ending x shown answered = record {
  before = x.got;
  told = refl;
  answered = answered ∙ ap (λ b. length (requests b)) (sym (input_more x.got (Last ending) ∙ append-nil (input_bytes x.got)));
}

-- what the last piece of its lane says of its closing
pub may_end : (ending : Ending) (x : Taking Piece) (count place : ℕ) (log : List Entry) (shown : SessionView) → shown.requests ≡ length (requests (input_bytes x.got))
    → MayClose count log (with_got (Last ending) x) shown place (why_of ending)
may_end End x count place log shown answered = heard_out End x shown answered
may_end Failed x count place log shown answered = heard_out Failed x shown answered
may_end EndingNoMemory x count place log shown answered = cut_short x (Last EndingNoMemory) shown tt answered
