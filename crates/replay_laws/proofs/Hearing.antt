-- How a session of a script hears its input: what it was sent is answered, whatever else comes.
use Rattle.std.proofs.Common.{◌≡◌, ℕ, ◌+◌, ◌<◌, ◌≤◌, min, Bool, true, false, not, cond, List, [], ◌∷◌, ◌++◌, length, map, take, drop, fold, Option, Some, None, is_some, refl, sym, ap, ◌∙◌, subst, arith, take_all, nat_le}
use Rattle.std.proofs.Math.Seq.{drop-append_seam}
use Rattle.std.proofs.lemmas.Bool.Decides.{nat_tests}
use Rattle.std.proofs.lemmas.List.{length-append, length-map, length-take}
use Rattle.gps_command.specs.Policies.{policy_with}
use Rattle.gps_command.specs.Requests.{requests, requests_from}
use Rattle.gps_command.specs.declared.request.RawCommand.{RawCommand}
use Rattle.gps_report.specs.declared.policy.Policy.{Policy}
use Rattle.gps_report.specs.declared.report.Report.{Report}
use Rattle.session_core.specs.declared.mark.Close.{Close}
use Rattle.session_core.specs.Naming.{alone}
use Rattle.session_core.specs.SessionView.{opening_policy, usual_requests}
use Rattle.session_core.specs.Stretches.{Stretch, last_watched}
use Rattle.book_log.specs.Entries.{Entry}
use Rattle.book_log.specs.History.{history}
use Rattle.book_replies.specs.declared.answering.Answer.{Answer}
use Rattle.book_replies.specs.Replies.{answered}
use Rattle.book_replies.specs.ReplyDataView.{ReplyDataView}
use Rattle.book_replies.proofs.Joined.{one_for_each}
use Rattle.book_sessions.specs.Answering.{stretch_at}
use Rattle.book_sessions.specs.Spreading.{Due}
use Rattle.report_book.specs.Knowing.{known_in}
use Rattle.session_runs.specs.Asking.{Asked, policy_of as asked_policy}
use Rattle.session_runs.specs.Following.{opened_run, shut_run}
use Rattle.session_runs.specs.Runs.{SessionRun}
use Rattle.session_runs.proofs.Answering.{answers_now, asked_joined, asked_longer, policy_of_more}
use Rattle.session_runs.proofs.Sending.{nothing_sent, requests_more}
use Rattle.replay_player.specs.Clients.{Client, answerable, answers_to, is_open, lines_due, new_requests, overrun_by, policy_of, refusal, room_of, served, told}

-- what its stretches say of the input
pub record Hears (names : List (List ℕ)) (log : List Entry) (bytes : List ℕ) (r : SessionRun) : Type 0 where
  pub asked : Asked names log r.stretches (requests bytes)
  pub few : length r.stretches ≤ 1 + usual_requests
  pub some : 1 ≤ length r.stretches
  pub whole : r.closing ≡ None → length r.stretches ≡ 1 + length (requests bytes)
  pub policy : r.closing ≡ None → last_watched opening_policy r.stretches ≡ asked_policy (requests bytes)

-- a new session
pub hears_nothing : (names : List (List ℕ)) (log : List Entry) → Hears names log [] (opened_run log)
unfolding requests_from
hears_nothing names log =
    record {
      asked = (nothing_sent names log alone 0 0 0).asked;
      few = omega arith;
      some = omega arith;
      whole = λ none. refl;
      policy = λ none. refl;
    }

-- reports come
still_none : (was : Option (ℕ × Close)) (dues : List Due) → overrun_by was dues ≡ None → was ≡ None
still_none None dues is = refl
still_none (Some closing) dues is = absurd (cc)

pub hears_reports : (names : List (List ℕ)) (log entries : List Entry) (reports : List Report) (bytes : List ℕ) (c : Client) → Hears names log bytes c.run
    → Hears names (log ++ entries) bytes (told names log reports c).run
unfolding told
hears_reports names log entries reports bytes c is =
    let dues : List Due = drop (room_of names log c) (lines_due names log reports c) in
    record {
      asked = asked_longer names log entries c.run.stretches (requests bytes) is.asked;
      few = is.few;
      some = is.some;
      whole = λ none. is.whole (still_none c.run.closing dues none);
      policy = λ none. is.policy (still_none c.run.closing dues none);
    }

-- it is closed
pub hears_closing : (names : List (List ℕ)) (log : List Entry) (bytes : List ℕ) (why : Close) (r : SessionRun) → Hears names log bytes r
    → Hears names log bytes (shut_run log why r.closing r)
hears_closing names log bytes why r is = by_closing r.closing
  where
    by_closing : (was : Option (ℕ × Close)) → Hears names log bytes (shut_run log why was r)
    by_closing None = record { asked = is.asked; few = is.few; some = is.some; whole = λ none. absurd (cc); policy = λ none. absurd (cc) }
    by_closing (Some closing) = is

-- a piece of input comes
pub within_of : (a b : ℕ) → nat_le a b ≡ true → a ≤ b
within_of a b test = grind (arith, nat_tests)

pub above : (a b : ℕ) → nat_le a b ≡ false → b < a
above a b test = grind (arith, nat_tests)

policy_joined : (policy : Policy) (stretches more : List Stretch) → last_watched policy (stretches ++ more) ≡ last_watched (last_watched policy stretches) more
policy_joined policy [] more = refl
policy_joined policy (stretch ∷ stretches) more = policy_joined stretch.policy stretches more

policy_answered : (known : ReplyDataView) (names : List (List ℕ)) (place : ℕ) (policy : Policy) (asked : List RawCommand)
    → last_watched policy (map (stretch_at place) (answered known names policy asked)) ≡ fold policy_with policy asked
unfolding answered
policy_answered known names place policy [] = refl
policy_answered known names place policy (request ∷ asked) = policy_answered known names place (policy_with policy request) asked

pub none_of : (was : Option (ℕ × Close)) → not (is_some was) ≡ true → was ≡ None
none_of None free = refl
none_of (Some closing) free = absurd (cc)

no_more : (b : Bool) (at : ℕ × Close) → cond b None (Some at) ≡ None → b ≡ true
no_more true at none = refl
no_more false at none = absurd (cc)

-- how a piece of input adds to what an open session was sent
pub record Piece (names : List (List ℕ)) (log : List Entry) (bytes piece : List ℕ) (c : Client) : Type 0 where
  pub more : List RawCommand
  pub requests_are : requests (bytes ++ piece) ≡ requests bytes ++ more
  pub answers_are : answers_to names log piece c ≡ answered (known_in (length names) log) names (policy_of c) more
  pub each : length (answers_to names log piece c) ≡ length more

pub piece_of : (names : List (List ℕ)) (log : List Entry) (bytes piece : List ℕ) (c : Client) → c.heard ≡ bytes → Piece names log bytes piece c
piece_of names log bytes piece c sent =
    let gains = requests_more bytes piece in
    let known : ReplyDataView = known_in (length names) log in
    let asks : new_requests c.heard piece ≡ gains.0 =
    ap (λ (b : List ℕ). new_requests b piece) sent
    ∙ ap (λ (l : List RawCommand). drop (length (requests bytes)) l) gains.1
    ∙ drop-append_seam (requests bytes) gains.0 in
    let are : answers_to names log piece c ≡ answered known names (policy_of c) gains.0 = ap (answered known names (policy_of c)) asks in
    record {
      more = gains.0;
      requests_are = gains.1;
      answers_are = are;
      each = ap (λ (l : List Answer). length l) are ∙ one_for_each known names (policy_of c) gains.0;
    }

pub hears_more : (names : List (List ℕ)) (log : List Entry) (bytes piece : List ℕ) (c : Client) → is_open c ≡ true → c.heard ≡ bytes → Hears names log bytes c.run
    → Hears names log (bytes ++ piece) (served names log piece c).run
unfolding served
hears_more names log bytes piece c free sent is =
    let p : Piece names log bytes piece c = piece_of names log bytes piece c sent in
    let open_now : c.run.closing ≡ None = none_of c.run.closing free in
    let known : ReplyDataView = known_in (length names) log in
    let place : ℕ = length (history log) in
    let count : ℕ = answerable names log c in
    let answers : List Answer = answers_to names log piece c in
    let stretches : List Stretch = c.run.stretches in
    let long : length stretches ≡ 1 + length (requests bytes) = is.whole open_now in
    let policy : policy_of c ≡ asked_policy (requests bytes) = is.policy open_now in
    let size : length (stretches ++ map (stretch_at place) (take count answers)) ≡ length stretches + length (take count answers) =
    length-append stretches (map (stretch_at place) (take count answers)) ∙ ap (λ (n : ℕ). length stretches + n) (length-map (take count answers) (stretch_at place)) in
    let part : length (take count answers) ≡ min count (length answers) = length-take count answers in
    record {
      asked =
          subst (λ (l : List Answer). Asked names log (stretches ++ map (stretch_at place) (take count l)) (requests (bytes ++ piece))) (sym p.answers_are)
          (subst (λ (l : List RawCommand). Asked names log (stretches ++ map (stretch_at place) (take count (answered known names (policy_of c) p.more))) l) (sym p.requests_are)
          (asked_joined names log stretches (map (stretch_at place) (take count (answered known names (policy_of c) p.more))) (requests bytes) p.more long is.asked
          (λ last within. answers_now names log (requests bytes) p.more last place count (policy_of c) within refl policy)));
      few = omega (arith, size, part, is.few, is.some);
      some = omega (arith, size, is.some);
      whole = λ none.
          (let all : nat_le (length answers) count ≡ true = no_more (nat_le (length answers) count) (place, refusal names log c) none in
          let under : length answers ≤ count = within_of (length answers) count all in
          let sum : length (requests (bytes ++ piece)) ≡ length (requests bytes) + length p.more =
          ap (λ (l : List RawCommand). length l) p.requests_are ∙ length-append (requests bytes) p.more in
          omega (arith, size, part, under, sum, long, p.each));
      policy = λ none.
          (let all : nat_le (length answers) count ≡ true = no_more (nat_le (length answers) count) (place, refusal names log c) none in
          let under : length answers ≤ count = within_of (length answers) count all in
          policy_joined opening_policy stretches (map (stretch_at place) (take count answers))
          ∙ ap (λ (l : List Answer). last_watched (policy_of c) (map (stretch_at place) l)) (take_all count answers under ∙ p.answers_are)
          ∙ policy_answered known names place (policy_of c) p.more
          ∙ ap (λ (q : Policy). fold policy_with q p.more) policy
          ∙ sym (policy_of_more (requests bytes) p.more)
          ∙ ap asked_policy (sym p.requests_are));
    }
