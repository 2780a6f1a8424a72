use Rattle.std.proofs.Common.{◌≡◌, None, not, ◌&&◌, take, max, sym, ap, ◌∙◌, subst}
use Rattle.std.specs.List.{list_any}
use Rattle.book_replies.specs.Replies.{answered}
use Rattle.book_sessions.specs.MemberView.{MemberView}
use Rattle.book_sessions.specs.Answering.{AnswersCut, enables}
use Rattle.book_sessions.specs.Allowing.{MayReply}
use Rattle.book_sessions.proofs.Allowing.{replies_allowed}
use Rattle.book_sessions.proofs.Answered.{answers_put, watched_now}
use Rattle.book_sessions.proofs.member.Member.input.Goals as goal

pub put_all-requires-clause-may : goal.put_all-requires-clause-may
put_all-requires-clause-may g c =
    let P : MemberView → Type 0 = λ a. MayReply g.O.Outlet.may c.args.known.now c.args.names.now c.args.cut.requests.items a.session in
    replies_allowed g.O.Outlet.may c.args.known.now c.args.names.now c.args.cut.requests.items c.as_slice.result.now c.policy.result.now c.in_ok-replies.replies.items
    (max c.self.inside.session.spare c.in_ok-count.count) c.self.inside.session c.reserve.new.self
    c.in_ok-reserve.ensures.ok c.policy.ensures c.as_slice.ensures.value c.in_ok-replies.ensures (subst P (sym c.self.view_is) c.requires.may)

pub returns-clause-answers : goal.returns-clause-answers
returns-clause-answers g c =
    let old : MemberView = record { session = c.self.inside.session; cutter = c.self.inside.cutter; watched = c.self.inside.watched } in
    let P : MemberView → Type 0 = λ a. a.session.closing ≡ None in
    let Q : MemberView → Type 0 = λ a. AnswersCut g.O.Outlet.exact c.args.known.now c.args.names.now c.args.place c.args.cut.requests.items c.args.cut.cutter a c.rest.new.self in
    let none : old.session.closing ≡ None = subst P (sym c.self.view_is) c.requires.open in
    subst Q c.self.view_is
    (answers_put g.O.Outlet.exact c.args.known.now c.args.names.now c.args.place c.args.cut.requests.items c.as_slice.result.now c.args.cut.cutter _
    (max c.self.inside.session.spare c.in_ok-count.count) c.policy.result.now c.in_ok-replies.replies.items c.reserve.new.self old c.put_all.new.self c.rest.new.self c.put_all.ensures.few none (c.self.invariant none)
    c.in_ok-reserve.ensures.ok c.put-requests.ensures.cutter c.policy.ensures c.as_slice.ensures.value c.in_ok-replies.ensures c.put_all.ensures.puts c.rest.ensures)

pub returns-clause-watched : goal.returns-clause-watched
returns-clause-watched g c =
    let inputs : AnswersCut g.O.Outlet.exact c.args.known.now c.args.names.now c.args.place c.args.cut.requests.items c.args.cut.cutter c.args.self.now c.rest.new.self = returns-clause-answers g c in
    let before = ap (λ (a : MemberView). a.watched) c.self.view_is in
    let now = ap (λ (a : MemberView). a.watched) c.self-2.view_is in
    let is : c.is_new.result ≡ (not c.args.self.now.watched && c.rest.new.self.watched) =
    c.is_new.ensures ∙ ap (λ b. not b && c.self-2.inside.watched) before ∙ ap (λ b. not c.args.self.now.watched && b) now in
    watched_now c.args.self.now c.rest.new.self (list_any enables (take inputs.count (answered c.args.known.now c.args.names.now c.args.self.now.session.policy c.args.cut.requests.items))) c.is_new.result
    inputs.puts.watched is
