use Rattle.std.proofs.Common.{◌≡◌, ◌<◌, ◌∙◌, List, arith, get_or, length, set, sym, ap, subst}
use Rattle.std.proofs.lemmas.List.{get_or-set_same, set-get_or}
use Rattle.book_sessions.specs.MemberView.{MemberView}
use Rattle.book_sessions.specs.Roster.{AreListening, IsRoster}
use Rattle.book_sessions.proofs.Looking.{IfNone-weaker}
use Rattle.book_sessions.proofs.roster.Roster.settle.Goals as goal

pub settle-requires : goal.settle-requires
settle-requires g c =
    let one = c.index_mut-member.result.now in
    let P : List MemberView → Type 0 = λ l. g.O.TwoEnded.belongs (g.O.TwoEnded.far_name c.args.far.now) (get_or l c.args.s one).session.name in
    let Q : MemberView → Type 0 = λ a. g.O.TwoEnded.belongs (g.O.TwoEnded.far_name c.args.far.now) a.session.name in
    subst Q (sym c.index_mut-member.ensures.value) (subst P (sym c.self.view_is) (c.requires.belongs one))

pub invariant_of-self : goal.invariant_of-self
invariant_of-self g c =
    let old = c.self.inside.members.items in
    let one = c.index_mut-member.result.now in
    let same : set old c.args.s c.settle.new.self ≡ old = ap (set old c.args.s) (c.settle.ensures.same ∙ c.index_mut-member.ensures.value) ∙ set-get_or old c.args.s one in
    let P : List MemberView → Type 0 = λ l. IsRoster c.self.inside.live.items c.self.inside.recent.items c.self.inside.watched l × AreListening c.self.inside.listening.items l in
    subst P (sym same) c.self.invariant

pub returns-clause-same : goal.returns-clause-same
returns-clause-same g c =
    let old = c.self.inside.members.items in
    ap (set old c.args.s) (c.settle.ensures.same ∙ c.index_mut-member.ensures.value) ∙ set-get_or old c.args.s c.index_mut-member.result.now ∙ c.self.view_is

pub returns-clause-all : goal.returns-clause-all
returns-clause-all g c =
    let old = c.self.inside.members.items in
    let within : c.args.s < length old = omega (arith, ap length c.self.view_is, c.requires.exists) in
    IfNone-weaker c.settle.result (λ all free. all ∙ sym (ap (λ (a : MemberView). a.session.kept) (get_or-set_same old c.args.s c.settle.new.self free within))) c.settle.ensures.all
