use Rattle.std.proofs.Common.{◌≡◌, ◌<◌, ◌^◌, List, None, ap, arith, length, rules, subst, sym, ◌∙◌}
use Rattle.std.specs.Vec.Iter.{into_iter_items}
use Rattle.book_replies.specs.declared.answering.Answer.{Answer}
use Rattle.session_core.specs.declared.mark.Close.TheVariants.{Overrun}
use Rattle.session_core.specs.declared.outlet.Push.{Push}
use Rattle.session_core.specs.declared.outlet.Push.TheVariants.{Done}
use Rattle.session_core.specs.Allowing.{AllowsAll}
use Rattle.session_core.specs.Pushing.{MatchPush}
use Rattle.session_core.specs.SessionView.{last_place}
use Rattle.book_sessions.specs.Allowing.{replies_left}
use Rattle.book_sessions.specs.Answering.{MayAnswer, PutsAnswers, ended, mark_at, put}
use Rattle.book_sessions.specs.MemberView.{MemberView}
use Rattle.book_sessions.proofs.Allowing.{allowed_reply, replies_later}
use Rattle.book_sessions.proofs.Answered.{last_place_push, put_done}
use Rattle.book_sessions.proofs.member.Member.put_all.Goals as goal

pub reply-requires-clause-may : goal.reply-requires-clause-may
reply-requires-clause-may g c =
    let cur = c.replies.self in
    let most = c.most_requests-most_requests.result in
    let under : cur.session.requests < most = search rules in
    let few : cur.session.requests < cur.session.most_requests = omega (arith, under, c.replies.invariant.most) in
    let P : List Answer → Type 0 = λ l. AllowsAll g.O.Outlet.may cur.session (replies_left cur.session l) in
    allowed_reply g.O.Outlet.may cur c.in-Some.reply (into_iter_items c.next.new.self) few (subst P c.in-Some.ensures.steps.0 c.replies.invariant.allowed)

pub replies-preserved : goal.replies-preserved
replies-preserved g c =
    let exact = g.O.Outlet.exact in
    let place = c.args.place in
    let cur = c.replies.self in
    let next = c.reply-in-replies.new.self in
    let answer = c.in-Some.reply in
    let rest = into_iter_items c.next.new.self in
    let steps = c.in-Some.ensures.steps.0 in
    let most = c.most_requests-most_requests.result in
    let under : cur.session.requests < most = search rules in
    let few : cur.session.requests < cur.session.most_requests = omega (arith, under, c.replies.invariant.most) in
    let fits : most < 2 ^ 32 = search rules in
    let low : cur.session.most_requests < 2 ^ 32 = omega (arith, fits, c.replies.invariant.most) in
    let done : c.reply-in-replies.result ≡ Done = search rules in
    let M : Push → Type 0 = λ p. MatchPush p (next ≡ put place answer cur) (next ≡ ended place Overrun cur) in
    let A : Push → Type 0 = λ p. MayAnswer exact cur.session p in
    let K : MemberView → Type 0 = λ a. a.session.closing ≡ None → 0 < length a.session.marks in
    let marked = (subst K c.self-in-replies.view_is c.self-in-replies.invariant) c.replies.invariant.is_open in
    let now : next ≡ put place answer cur = subst M done c.reply-in-replies.ensures.now in
    let P : List Answer → Type 0 = λ l. AllowsAll g.O.Outlet.may cur.session (replies_left cur.session l) in
    let Q : MemberView → List Answer → Type 0 = λ new l. PutsAnswers exact place cur l new in
    record {
      so_far = put_done exact place c.args.self.now cur c.args.replies.items rest answer (λ new more. c.replies.invariant.so_far new (subst (Q new) (sym steps) more))
          next few (subst A done c.reply-in-replies.ensures.may) now;
      most = c.replies.invariant.most ∙ sym (ap (λ (a : MemberView). a.session.most_requests) now);
      is_open = ap (λ (a : MemberView). a.session.closing) now ∙ c.replies.invariant.is_open;
      room = (let spare = ap (λ (a : MemberView). a.session.spare) now in let room = c.replies.invariant.room in let long = ap length steps in omega (arith, spare, room, long));
      allowed = replies_later g.O.Outlet.may place cur next answer rest low c.replies.invariant.is_open marked few now (subst P steps c.replies.invariant.allowed);
      after = (let last = ap (λ (a : MemberView). last_place 0 a.session.marks) now ∙ last_place_push 0 cur.session.marks (mark_at place answer) in omega (arith, last));
    }
