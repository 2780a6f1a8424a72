-- The answers to joined requests, and the policy of each.
use Rattle.std.proofs.Common.{◌≡◌, ◌<◌, ◌+◌, ℕ, zero, suc, List, [], ◌∷◌, ◌++◌, length, take, fold, slice_index_or, ap, sym, ◌∙◌, refl, arith}
use Rattle.std.proofs.Math.Numerals.{suc-eq-add-one}
use Rattle.std.proofs.Math.Seq.{take-append-add, take-length}
use Rattle.std.proofs.lemmas.List.Sums.{fold-append}
use Rattle.gps_command.specs.Policies.{policy_at, policy_with}
use Rattle.gps_command.specs.declared.request.RawCommand.{RawCommand}
use Rattle.gps_report.specs.declared.policy.Policy.{Policy}
use Rattle.watch_policy.specs.Policies.{opening_policy}
use Rattle.book_replies.specs.ReplyDataView.{ReplyDataView}
use Rattle.book_replies.specs.Laws.{AnswersJoin, HasPolicyAfter, OneForEach}
use Rattle.book_replies.specs.Replies.{answer_of, answered}
use Rattle.book_replies.specs.declared.answering.Answer.{Answer}

pub one_for_each : OneForEach
unfolding answered
one_for_each known names policy [] = refl
one_for_each known names policy (request ∷ requests) = ap suc (one_for_each known names (policy_with policy request) requests)

pub goes_on : AnswersJoin
unfolding answered
goes_on known names policy [] then = refl
goes_on known names policy (request ∷ first) then =
    ap (λ rest. answer_of known names policy request ∷ rest) (goes_on known names (policy_with policy request) first then)

-- the policy of the k-th answer is the first after its request and all before it
policy_of : (known : ReplyDataView) (names : List (List ℕ)) (policy : Policy) (requests : List RawCommand) (k : ℕ) (other : Answer)
    → k < length requests
    → (slice_index_or (answered known names policy requests) k other).policy ≡ fold policy_with policy (take (suc k) requests)
unfolding answered
policy_of known names policy [] k other within = absurd (omega arith)
policy_of known names policy (request ∷ requests) zero other within = refl
policy_of known names policy (request ∷ requests) (suc k) other within =
    policy_of known names (policy_with policy request) requests k other (omega arith)

-- all of the first requests, and k of the others
joined : (before requests : List RawCommand) (k : ℕ)
    → policy_at (length before + k) (before ++ requests) ≡ fold policy_with (policy_at (length before) before) (take k requests)
joined before requests k =
    ap (fold policy_with opening_policy) (take-append-add before requests k)
    ∙ fold-append policy_with opening_policy before (take k requests)
    ∙ ap (λ xs. fold policy_with (fold policy_with opening_policy xs) (take k requests)) (sym (take-length before))

pub has_policy_after : HasPolicyAfter
has_policy_after known names before requests k other within =
    policy_of known names (policy_at (length before) before) requests k other within
    ∙ ap (λ n. fold policy_with (policy_at (length before) before) (take n requests)) (suc-eq-add-one k)
    ∙ sym (joined before requests (k + 1))
