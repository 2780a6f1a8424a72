use Rattle.std.proofs.Common.{◌∙◌, subst, sym}
use Rattle.std.proofs.lemmas.List.{get_or_default}
use Rattle.book_sessions.specs.Allowing.{MayReply}
use Rattle.book_sessions.specs.MemberView.{MemberView}
use Rattle.book_sessions.specs.Answering.{AnswersCut}
use Rattle.book_sessions.proofs.Places.{changed_at}
use Rattle.book_sessions.proofs.walk.input_at.Goals as goal

pub input-requires-clause-may : goal.input-requires-clause-may
input-requires-clause-may g c =
    let P : MemberView → Type 0 = λ a. MayReply g.O.Outlet.may c.args.known.now c.args.names.now c.args.cut.requests.items a.session in
    subst P (sym c.index_mut-member.ensures.value) (c.requires.may c.index_mut-member.result.now)

pub returns-clause-answers : goal.returns-clause-answers
returns-clause-answers g c =
    let items = c.args.members.now.items in
    let x = c.index_mut-member.result.now in
    changed_at (AnswersCut g.O.Outlet.exact c.args.known.now c.args.names.now c.args.place c.args.cut.requests.items c.args.cut.cutter) c.args.s items x c.input.new.self c.input.result
    (λ free. c.index_mut-member.ensures.value ∙ get_or_default items c.args.s x free c.requires.exists) c.input.ensures.answers
