use Rattle.std.proofs.Common.{◌≡◌, ◌<◌, length, set, drop, refl, ap, ◌∙◌, subst, arith}
use Rattle.std.proofs.lemmas.List.{get_or_default}
use Rattle.book_sessions.specs.MemberView.{MemberView, with_kept}
use Rattle.book_sessions.proofs.Listening.{listening_left}
use Rattle.book_sessions.proofs.Rosters.{kept_leaves, marks_left}
use Rattle.book_sessions.proofs.«roster».«Roster+PlainOutlet».«take».Goals as goal

pub invariant_of-self : goal.invariant_of-self
invariant_of-self c =
    let items = c.self.inside.members.items in
    let x = c.index_mut-member.result.now in
    let within : c.args.s < length items = omega (arith, ap length c.self.view_is, c.requires) in
    let P : MemberView → Type 0 = λ a. c.take.new.self ≡ with_kept (drop 1 a.session.kept) a in
    let f : MemberView → MemberView = λ a. with_kept (drop 1 a.session.kept) a in
    let leaves = kept_leaves (λ a. drop 1 a.session.kept) in
    let now = λ (free : MemberView). subst P (c.index_mut-member.ensures.value ∙ get_or_default items c.args.s x free within) c.take.ensures.now in (
      marks_left c.self.inside.live.items c.self.inside.recent.items c.self.inside.watched c.args.s f c.take.new.self items (set items c.args.s c.take.new.self)
          leaves c.self.invariant.0 refl now,
      listening_left c.self.inside.listening.items c.args.s f c.take.new.self items (set items c.args.s c.take.new.self) leaves c.self.invariant.1 refl now,
    )
