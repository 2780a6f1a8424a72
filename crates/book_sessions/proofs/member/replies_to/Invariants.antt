-- The replies so far and the answers that are left are all answers.
use Rattle.std.proofs.Common.{◌≡◌, ◌++◌}
use Rattle.std.specs.Vec.Iter.{into_iter_items}
use Rattle.book_replies.specs.Replies.{answered}
use Rattle.book_sessions.proofs.member.replies_to.Given as goal

abbrev pub invariant-answers : goal.invariant-answers
invariant-answers l = l.out.items ++ into_iter_items l.answer-iterator ≡ answered l.known l.names l.policy l.requests
