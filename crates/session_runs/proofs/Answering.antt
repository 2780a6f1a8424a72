-- Stretches that answer requests, in order.
use Rattle.std.proofs.Common.{◌≡◌, ◌≤◌, ◌<◌, ℕ, zero, suc, ◌+◌, List, [], ◌∷◌, ◌++◌, length, map, take, get_or, Some, sym, ap, ◌∙◌, subst, le_refl, append-nil, append_assoc, fold, arith}
use Rattle.std.proofs.Math.Seq.{take-length}
use Rattle.std.proofs.lemmas.List.{length-append, take-append-le}
use Rattle.std.proofs.lemmas.List.Sums.{fold-append}
use Rattle.gps_command.specs.declared.request.RawCommand.{RawCommand}
use Rattle.gps_command.specs.Policies.{policy_with}
use Rattle.gps_report.specs.declared.policy.Policy.{Policy}
use Rattle.session_core.specs.SessionView.{opening_policy}
use Rattle.session_core.specs.Stretches.{Stretch}
use Rattle.book_log.specs.Entries.{Entry}
use Rattle.book_log.specs.History.{history}
use Rattle.book_replies.specs.Replies.{answered, reply}
use Rattle.book_sessions.specs.Answering.{stretch_at}
use Rattle.report_book.specs.Knowing.{known_in}
use Rattle.session_runs.specs.Asking.{AnswersFirst, Asked, BeginsAt, IsAnswer, policy_of}
use Rattle.session_runs.specs.AskingLaws.{StretchesHaveTheirPolicies}

-- ---- policies

pub policy_of_more : (done : List RawCommand) (more : List RawCommand) → policy_of (done ++ more) ≡ fold policy_with (policy_of done) more
policy_of_more done more =
    ap (fold policy_with opening_policy) (take-length (done ++ more))
    ∙ fold-append policy_with opening_policy done more
    ∙ ap (λ l. fold policy_with (fold policy_with opening_policy l) more) (sym (take-length done))

-- ---- over a longer log

begins_longer : (log more : List Entry) (from moment : ℕ) (stretch : Stretch) → BeginsAt log from moment stretch → BeginsAt (log ++ more) from moment stretch
begins_longer log more from moment stretch begins = record {
  after = begins.after;
  within = omega (arith, length-append log more, begins.within);
  place = begins.place ∙ sym (ap (λ l. length (history l)) (take-append-le moment log more begins.within));
}

answer_longer : (names : List (List ℕ)) (log more : List Entry) (moment : ℕ) (done : List RawCommand) (request : RawCommand) (stretch : Stretch) → moment ≤ length log
    → IsAnswer names log moment done request stretch → IsAnswer names (log ++ more) moment done request stretch
answer_longer names log more moment done request stretch within answer = record {
  policy = answer.policy;
  reply = answer.reply ∙ sym (ap (λ l. Some (reply (known_in (length names) l) names stretch.policy request)) (take-append-le moment log more within));
}

answers_longer : (names : List (List ℕ)) (log more : List Entry) (done : List RawCommand) (from : ℕ) (stretches : List Stretch) (asked : List RawCommand)
    → AnswersFirst names log done from stretches asked → AnswersFirst names (log ++ more) done from stretches asked
answers_longer names log more done from [] asked answers = tt
answers_longer names log more done from (stretch ∷ stretches) [] answers = answers
answers_longer names log more done from (stretch ∷ stretches) (request ∷ asked) answers =
    let moment : ℕ = answers.0 in (
      moment,
      begins_longer log more from moment stretch answers.1,
      answer_longer names log more moment done request stretch answers.1.within answers.2,
      answers_longer names log more (done ++ request ∷ []) moment stretches asked answers.3,
    )

pub asked_longer : (names : List (List ℕ)) (log more : List Entry) (stretches : List Stretch) (asked : List RawCommand)
    → Asked names log stretches asked → Asked names (log ++ more) stretches asked
asked_longer names log more [] asked is = is
asked_longer names log more (opening ∷ stretches) asked is =
    (is.0, begins_longer log more 0 is.0 opening is.1, is.2, answers_longer names log more [] is.0 stretches asked is.3)

-- ---- with further requests

answers_waiting : (names : List (List ℕ)) (log : List Entry) (done : List RawCommand) (from : ℕ) (stretches : List Stretch) (asked more : List RawCommand)
    → AnswersFirst names log done from stretches asked → AnswersFirst names log done from stretches (asked ++ more)
answers_waiting names log done from [] asked more answers = tt
answers_waiting names log done from (stretch ∷ stretches) [] more answers = absurd answers
answers_waiting names log done from (stretch ∷ stretches) (request ∷ asked) more answers =
    (answers.0, answers.1, answers.2, answers_waiting names log (done ++ request ∷ []) answers.0 stretches asked more answers.3)

-- that have no answer
pub asked_waiting : (names : List (List ℕ)) (log : List Entry) (stretches : List Stretch) (asked more : List RawCommand)
    → Asked names log stretches asked → Asked names log stretches (asked ++ more)
asked_waiting names log [] asked more is = is
asked_waiting names log (opening ∷ stretches) asked more is = (is.0, is.1, is.2, answers_waiting names log [] is.0 stretches asked more is.3)

-- some of these are answered next
answers_joined : (names : List (List ℕ)) (log : List Entry) (done : List RawCommand) (from : ℕ) (stretches added : List Stretch) (asked more : List RawCommand)
    → from ≤ length log → length stretches ≡ length asked → AnswersFirst names log done from stretches asked
    → ((last : ℕ) → last ≤ length log → AnswersFirst names log (done ++ asked) last added more)
    → AnswersFirst names log done from (stretches ++ added) (asked ++ more)
answers_joined names log done from [] added [] more before long answers next =
    let P : List RawCommand → Type 0 = λ l. AnswersFirst names log l from added more in subst P (append-nil done) (next from before)
answers_joined names log done from [] added (request ∷ asked) more before long answers next = absurd (omega (arith, long))
answers_joined names log done from (stretch ∷ stretches) added [] more before long answers next = absurd answers
answers_joined names log done from (stretch ∷ stretches) added (request ∷ asked) more before long answers next = (
  answers.0,
  answers.1,
  answers.2,
  answers_joined names log (done ++ request ∷ []) answers.0 stretches added asked more answers.1.within (omega (arith, long)) answers.3
      (λ last within.
      let P : List RawCommand → Type 0 = λ l. AnswersFirst names log l last added more in
      subst P (sym (append_assoc done (request ∷ []) asked)) (next last within)),
)

pub asked_joined : (names : List (List ℕ)) (log : List Entry) (stretches added : List Stretch) (asked more : List RawCommand)
    → length stretches ≡ 1 + length asked → Asked names log stretches asked
    → ((last : ℕ) → last ≤ length log → AnswersFirst names log asked last added more)
    → Asked names log (stretches ++ added) (asked ++ more)
asked_joined names log [] added asked more long is next = absurd is
asked_joined names log (opening ∷ stretches) added asked more long is next =
    (is.0, is.1, is.2, answers_joined names log [] is.0 stretches added asked more is.1.within (omega (arith, long)) is.3 next)

-- answered at the end of the log
pub answers_now : (names : List (List ℕ)) (log : List Entry) (done asked : List RawCommand) (from place count : ℕ) (policy : Policy)
    → from ≤ length log → place ≡ length (history log) → policy ≡ policy_of done
    → AnswersFirst names log done from (map (stretch_at place) (take count (answered (known_in (length names) log) names policy asked))) asked
unfolding answered
answers_now names log done [] from place zero policy before at is = tt
answers_now names log done [] from place (suc count) policy before at is = tt
answers_now names log done (request ∷ asked) from place zero policy before at is = tt
answers_now names log done (request ∷ asked) from place (suc count) policy before at is =
    let moment : ℕ = length log in
    let next : Policy = policy_with policy request in
    let next_is : next ≡ policy_of (done ++ request ∷ []) =
    ap (λ p. policy_with p request) is ∙ sym (policy_of_more done (request ∷ [])) in (
      moment,
      record { after = before; within = le_refl moment; place = at ∙ sym (ap (λ l. length (history l)) (take-length log)) },
      record {
        policy = next_is;
        reply = sym (ap (λ l. Some (reply (known_in (length names) l) names next request)) (take-length log));
      },
      answers_now names log (done ++ request ∷ []) asked moment place count next (le_refl moment) at next_is,
    )

-- ---- the policy of each

policy_there : (names : List (List ℕ)) (log : List Entry) (done : List RawCommand) (from : ℕ) (stretches : List Stretch) (asked : List RawCommand) (k : ℕ) (other : Stretch)
    → AnswersFirst names log done from stretches asked → k < length stretches → (get_or stretches k other).policy ≡ policy_of (done ++ take (suc k) asked)
policy_there names log done from [] asked k other answers there = absurd (omega (arith, there))
policy_there names log done from (stretch ∷ stretches) [] k other answers there = absurd answers
policy_there names log done from (stretch ∷ stretches) (request ∷ asked) zero other answers there = answers.2.policy
policy_there names log done from (stretch ∷ stretches) (request ∷ asked) (suc k) other answers there =
    policy_there names log (done ++ request ∷ []) answers.0 stretches asked k other answers.3 (omega (arith, there))
    ∙ ap policy_of (append_assoc done (request ∷ []) (take (suc k) asked))

pub policies_there : StretchesHaveTheirPolicies
policies_there names log [] asked k other is there = absurd is
policies_there names log (opening ∷ stretches) asked zero other is there = is.2.0
policies_there names log (opening ∷ stretches) asked (suc k) other is there =
    policy_there names log [] is.0 stretches asked k other is.3 (omega (arith, there))
    ∙ ap (fold policy_with opening_policy) (take-length (take (suc k) asked))
