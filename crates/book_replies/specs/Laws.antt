-- Laws of answers: they go on over joined requests, and their policies are those after the first requests.
use Rattle.std.specs.Prelude.{ℕ, ◌+◌, ◌<◌, ◌≡◌, ◌++◌, List, length, fold, slice_index_or}
use Rattle.gps_command.specs.Policies.{policy_at, policy_with}
use Rattle.gps_command.specs.declared.request.RawCommand.{RawCommand}
use Rattle.gps_report.specs.declared.policy.Policy.{Policy}
use Rattle.book_replies.specs.ReplyDataView.{ReplyDataView}
use Rattle.book_replies.specs.Replies.{answered}
use Rattle.book_replies.specs.declared.answering.Answer.{Answer}

-- one answer for each request
abbrev pub OneForEach : Type 0
OneForEach = (known : ReplyDataView) (names : List (List ℕ)) (policy : Policy) (requests : List RawCommand)
    → length (answered known names policy requests) ≡ length requests

abbrev pub AnswersJoin : Type 0
AnswersJoin = (known : ReplyDataView) (names : List (List ℕ)) (policy : Policy) (first then : List RawCommand)
    → answered known names policy (first ++ then)
    ≡ answered known names policy first ++ answered known names (fold policy_with policy first) then

-- after some requests, the answer to the k-th one after them has the policy after all of these
abbrev pub HasPolicyAfter : Type 0
HasPolicyAfter = (known : ReplyDataView) (names : List (List ℕ)) (before requests : List RawCommand) (k : ℕ) (other : Answer)
    → k < length requests
    → (slice_index_or (answered known names (policy_at (length before) before) requests) k other).policy
    ≡ policy_at (length before + (k + 1)) (before ++ requests)
