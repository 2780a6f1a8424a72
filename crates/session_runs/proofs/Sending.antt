-- What a client sent, through the calls.
use Rattle.std.proofs.Common.{◌≡◌, ◌≤◌, ◌<◌, ℕ, zero, suc, ◌+◌, ◌-◌, Bool, true, false, ◌||◌, List, [], ◌∷◌, ◌++◌, length, map, take, Option, Some, None, is_some, refl, sym, ap, ◌∙◌, subst, le_refl, append-nil, append_assoc, take_all, fold, arith}
use Rattle.std.specs.List.{AllZip, list_any}
use Rattle.std.proofs.Math.Seq.{take-length}
use Rattle.std.proofs.lemmas.List.{length-append, length-map}
use Rattle.std.proofs.lemmas.List.Folds.{list_any-append}
use Rattle.gps_command.specs.declared.request.RawCommand.{RawCommand}
use Rattle.gps_command.specs.Kept as input
use Rattle.gps_command.specs.Policies.{policy_with}
use Rattle.gps_command.specs.Requests.{requests, requests_from}
use Rattle.gps_command.specs.Steps.{ends_at}
use Rattle.gps_command.proofs.Growths.{grown}
use Rattle.gps_command.proofs.Pieces.{stands_for_none}
use Rattle.gps_report.specs.declared.policy.Policy.{Policy}
use Rattle.session_core.specs.declared.mark.Close.{Close}
use Rattle.session_core.specs.SessionView.{SessionView, last_policy}
use Rattle.book_batch.specs.Lines.{line_for}
use Rattle.book_log.specs.Entries.{Entry}
use Rattle.book_log.specs.History.{history}
use Rattle.book_replies.specs.declared.answering.Answer.{Answer}
use Rattle.book_replies.specs.ReplyDataView.{ReplyDataView}
use Rattle.book_replies.specs.Replies.{answered}
use Rattle.book_replies.proofs.Joined.{one_for_each}
use Rattle.book_sessions.specs.Answering.{Stops, enables, mark_at, stretch_at}
use Rattle.book_sessions.specs.MemberView.{MemberView, closed, cutter_left, renewed}
use Rattle.book_sessions.specs.Roster.{ShutsBy}
use Rattle.book_sessions.specs.Spreading.{ReportsBy, Spreads, cutter_by}
use Rattle.report_book.specs.BookView.{BookView, turned_if}
use Rattle.report_book.specs.Knowing.{known_in}
use Rattle.report_book.specs.Moves.{BookAdds}
use Rattle.session_runs.specs.Asking.{Asked, HearsNothing, is_enabled, policy_of}
use Rattle.session_runs.specs.AskingLaws.{ClosingsAreNotHeard, EntriesAreNotHeard, NothingSent, SentInVain, SentMore, SentOnward, ShutsAreNotHeard, TakingIsNotHeard}
use Rattle.session_runs.proofs.Answering.{answers_now, asked_joined, asked_longer, asked_waiting, policy_of_more}
use Rattle.session_runs.proofs.Zipping.{zip_unmapped, zip_weaker}

-- the requests of longer input go on from those of the shorter
pub requests_more : (bytes piece : List ℕ) → (more : List RawCommand) × (requests (bytes ++ piece) ≡ requests bytes ++ more)
requests_more bytes [] = ([], ap (requests_from 0) (append-nil bytes) ∙ sym (append-nil (requests bytes)))
requests_more bytes (c ∷ piece) =
    let rest = requests_more (bytes ++ c ∷ []) piece in
    let one : List RawCommand = ends_at (input.kept_from 0 bytes).stand (input.kept_from 0 bytes).held c in
    let first : requests (bytes ++ c ∷ []) ≡ requests bytes ++ one = (grown 0 bytes c (omega arith)).ended in (
      one ++ rest.0,
      ap (requests_from 0) (sym (append_assoc bytes (c ∷ []) piece)) ∙ rest.1 ∙ ap (λ l. l ++ rest.0) first ∙ append_assoc (requests bytes) one rest.0,
    )

pub nothing_sent : NothingSent
unfolding requests_from
nothing_sent names log name cap most place = record {
  asked = (
    length log,
    record { after = omega arith; within = le_refl (length log); place = sym (ap (λ l. length (history l)) (take-length log)) },
    (refl, refl),
    tt,
  );
  count = refl;
  few = omega arith;
  whole = λ none. refl;
  policy = λ none. refl;
  cutter = λ none. stands_for_none;
  watched = refl;
}

pub sent_onward : SentOnward
sent_onward names log entries old new stretches bytes nothing sent = record {
  asked = asked_longer names log entries stretches (requests bytes) sent.asked;
  count = sent.count ∙ ap (λ n. 1 + n) (sym nothing.requests);
  few = omega (arith, nothing.requests, nothing.most_requests, sent.few);
  whole = λ none. sent.whole (nothing.still none).0;
  policy = λ none. nothing.policy ∙ sent.policy (nothing.still none).0;
  cutter = λ none. (nothing.still none).1 ∙ sent.cutter (nothing.still none).0;
  watched = nothing.watched ∙ sent.watched;
}

never_none : {X : Type 0} (o : Option X) → is_some o ≡ true → o ≡ None → ⊥
never_none None some none = absurd (cc)
never_none (Some x) some none = absurd (cc)

pub sent_in_vain : SentInVain
sent_in_vain names log a stretches bytes piece over sent =
    let more = requests_more bytes piece in
    let P : List RawCommand → Type 0 = λ l. Asked names log stretches l in
    record {
      asked = subst P (sym more.1) (asked_waiting names log stretches (requests bytes) more.0 sent.asked);
      count = sent.count;
      few = sent.few;
      whole = λ none. absurd (never_none a.session.closing over none);
      policy = λ none. absurd (never_none a.session.closing over none);
      cutter = λ none. absurd (never_none a.session.closing over none);
      watched = sent.watched;
    }

-- ---- a piece that is heard

enabled_of : (place : ℕ) (answers : List Answer) → list_any is_enabled (map (stretch_at place) answers) ≡ list_any enables answers
enabled_of place [] = refl
enabled_of place (answer ∷ answers) = ap (λ b. answer.policy.enable || b) (enabled_of place answers)

policy_marked : (known : ReplyDataView) (names : List (List ℕ)) (place : ℕ) (policy : Policy) (asked : List RawCommand)
    → last_policy policy (map (mark_at place) (answered known names policy asked)) ≡ fold policy_with policy asked
unfolding answered
policy_marked known names place policy [] = refl
policy_marked known names place policy (request ∷ asked) = policy_marked known names place (policy_with policy request) asked

none_left : (place left : ℕ) (s : SessionView) (c : Option (ℕ × Close)) → c ≡ None → Stops place left s c → left ≡ 0
none_left place left s None none stops = stops
none_left place left s (Some closing) none stops = absurd (cc)

few_more : (count : ℕ) (all : List Answer) (old new : SessionView) → new.most_requests ≡ old.most_requests → (0 < count → new.requests ≤ new.most_requests)
    → new.requests ≡ old.requests + length (take count all) → old.requests ≤ old.most_requests → new.requests ≤ new.most_requests
few_more zero all old new same room is low = let none : length (take 0 all) ≡ 0 = refl in omega (arith, same, is, none, low)
few_more (suc n) all old new same room is low = room (omega arith)

pub sent_more : SentMore
sent_more exact names log place piece old new stretches bytes heard is sent =
    let known : ReplyDataView = known_in (length names) log in
    let more : List RawCommand = heard.requests in
    let all : List Answer = answered known names old.session.policy more in
    let put : List Answer = take heard.count all in
    let whole : ℕ = length (history log) in
    let standing = sent.cutter is in
    let gains : requests (bytes ++ piece) ≡ requests bytes ++ more = heard.gains bytes standing in
    let policy : old.session.policy ≡ policy_of (requests bytes) = sent.policy is in
    let long : length stretches ≡ 1 + length (requests bytes) = sent.whole is in
    let each : length all ≡ length more = one_for_each known names old.session.policy more in
    let P : List RawCommand → Type 0 = λ l. Asked names log (stretches ++ map (stretch_at whole) put) l in
    let count_is : new.session.closing ≡ None → heard.count ≡ length more =
    λ none. omega (arith, heard.few, none_left place (length more - heard.count) new.session new.session.closing none heard.stops) in
    let size : length (stretches ++ map (stretch_at whole) put) ≡ length stretches + length put =
    length-append stretches (map (stretch_at whole) put) ∙ ap (λ n. length stretches + n) (length-map put (stretch_at whole)) in
    let counted : length stretches ≡ 1 + old.session.requests = sent.count in
    let answers : new.session.requests ≡ old.session.requests + length put = heard.puts.requests in
    record {
      asked = subst P (sym gains)
          (asked_joined names log stretches (map (stretch_at whole) put) (requests bytes) more long sent.asked
          (λ last within. answers_now names log (requests bytes) more last whole heard.count old.session.policy within refl policy));
      count = omega (arith, size, counted, answers);
      few = few_more heard.count all old.session new.session heard.puts.most_requests (λ some. (heard.room some).0) answers sent.few;
      whole = λ none.
          let count : heard.count ≡ length more = count_is none in
          let sum : length (requests (bytes ++ piece)) ≡ length (requests bytes) + length more = ap length gains ∙ length-append (requests bytes) more in
          let some : length put ≡ length more = ap length (take_all heard.count all (omega (arith, each, count))) ∙ each in
          omega (arith, size, sum, some, long);
      policy = λ none.
          let count : heard.count ≡ length more = count_is none in
          heard.puts.policy
          ∙ ap (λ l. last_policy old.session.policy (map (mark_at place) l)) (take_all heard.count all (omega (arith, each, count)))
          ∙ policy_marked known names place old.session.policy more
          ∙ ap (λ p. fold policy_with p more) policy
          ∙ sym (policy_of_more (requests bytes) more)
          ∙ ap policy_of (sym gains);
      cutter = λ none. heard.cutter bytes standing none;
      watched =
          heard.puts.watched
          ∙ ap (λ b. b || list_any enables put) sent.watched
          ∙ ap (λ b. list_any is_enabled stretches || b) (sym (enabled_of whole put))
          ∙ sym (list_any-append is_enabled stretches (map (stretch_at whole) put));
    }

-- ---- what is not heard

spread_by : (c : Option (ℕ × Close)) (exact : Bool) (names : List (List ℕ)) (first : ℕ) (old new : MemberView) (reports : List Rattle.gps_report.specs.declared.report.Report.Report)
    → old.session.closing ≡ c → ReportsBy c exact (line_for names) first reports old.session new.session → new.cutter ≡ cutter_by c new.session.closing old.cutter
    → new.watched ≡ old.watched → HearsNothing old new
spread_by None exact names first old new reports is reported cutter watched = record {
  policy = reported.stays.policy;
  requests = reported.stays.requests;
  most_requests = reported.stays.most_requests;
  watched = watched;
  still = λ none. (is, cutter ∙ ap (λ c. cutter_left c old.cutter) none);
}
spread_by (Some closing) exact names first old new reports is same cutter watched = record {
  policy = ap (λ (s : SessionView). s.policy) same.same;
  requests = ap (λ (s : SessionView). s.requests) same.same;
  most_requests = ap (λ (s : SessionView). s.most_requests) same.same;
  watched = watched;
  still = λ none. (sym (ap (λ (s : SessionView). s.closing) same.same) ∙ none, cutter);
}

spread_unheard : (exact : Bool) (names : List (List ℕ)) (first : ℕ) (reports : List Rattle.gps_report.specs.declared.report.Report.Report) (old new : MemberView)
    → Spreads exact (line_for names) first reports old new → HearsNothing old new
spread_unheard exact names first reports old new spreads =
    spread_by old.session.closing exact names first old new reports refl spreads.session spreads.cutter spreads.watched

open_before : (c : Option (ℕ × Close)) → Rattle.session_core.specs.SessionView.turned_closing c ≡ None → c ≡ None
open_before None none = refl
open_before (Some closing) none = absurd (cc)

renewed_unheard : (old new : MemberView) → HearsNothing (renewed old) new → HearsNothing old new
renewed_unheard old new nothing = record {
  policy = nothing.policy;
  requests = nothing.requests;
  most_requests = nothing.most_requests;
  watched = nothing.watched;
  still = λ none. (open_before old.session.closing (nothing.still none).0, (nothing.still none).1);
}

added_unheard : (turns exact : Bool) (old new : BookView) (entries : List Entry) (reports : List Rattle.gps_report.specs.declared.report.Report.Report)
    → BookAdds exact (turned_if turns old) new entries reports → AllZip HearsNothing old.sessions new.sessions
added_unheard true exact old new entries reports adds =
    zip_weaker (λ (a b : MemberView). Spreads exact (line_for old.names) 0 reports (renewed a) b) HearsNothing
    (λ a b spreads. renewed_unheard a b (spread_unheard exact old.names 0 reports (renewed a) b spreads))
    old.sessions new.sessions (zip_unmapped (Spreads exact (line_for old.names) 0 reports) renewed old.sessions new.sessions adds.sessions)
added_unheard false exact old new entries reports adds =
    zip_weaker (Spreads exact (line_for old.names) old.log.length reports) HearsNothing (spread_unheard exact old.names old.log.length reports) old.sessions new.sessions adds.sessions

pub entries_unheard : EntriesAreNotHeard
entries_unheard exact turns old new entries moves = added_unheard turns exact old new entries moves.0 moves.1

pub closings_unheard : ClosingsAreNotHeard
closings_unheard place why old new closes =
    let P : MemberView → Type 0 = λ a. HearsNothing old a in
    let none_of : (closed place why old).session.closing ≡ None → ⊥ = λ none. absurd (cc) in
    subst P (sym closes.becomes) (record { policy = refl; requests = refl; most_requests = refl; watched = refl; still = λ none. absurd (none_of none) })

pub taking_unheard : TakingIsNotHeard
taking_unheard kept a = record { policy = refl; requests = refl; most_requests = refl; watched = refl; still = λ none. (none, refl) }

pub same_unheard : (a : MemberView) → HearsNothing a a
same_unheard a = record { policy = refl; requests = refl; most_requests = refl; watched = refl; still = λ none. (none, refl) }

shut_by_unheard : (c : Option (ℕ × Close)) (place : ℕ) (why : Close) (old new : MemberView) → ShutsBy c place why old new → HearsNothing old new
shut_by_unheard None place why old new shuts = closings_unheard place why old new shuts
shut_by_unheard (Some closing) place why old new shuts =
    let P : MemberView → Type 0 = λ a. HearsNothing old a in
    subst P (sym shuts) (record { policy = refl; requests = refl; most_requests = refl; watched = refl; still = λ none. (none, refl) })

pub shuts_unheard : ShutsAreNotHeard
shuts_unheard place why old new shuts = shut_by_unheard old.session.closing place why old new shuts
