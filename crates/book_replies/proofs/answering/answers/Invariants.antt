-- What was answered and what the requests that are left will be answered are the answers to all.
use Rattle.std.proofs.Common.{◌≡◌, ◌++◌, drop}
use Rattle.book_replies.specs.Replies.{answered}
use Rattle.book_replies.proofs.answering.answers.Given as goal

abbrev pub invariant-requests : goal.invariant-requests
invariant-requests l =
    l.out.items ++ answered l.known l.names l.current (drop l.request-index l.requests)
    ≡ answered l.known l.names l.fn.policy l.requests
