use Rattle.std.proofs.Common.{◌≡◌, List, sym, subst}
use Rattle.book_sessions.specs.MemberView.{MemberView, with_cutter}
use Rattle.book_sessions.specs.Roster.{IsAfterAll, Changes}
use Rattle.book_sessions.proofs.Listening.{listening_left}
use Rattle.book_sessions.proofs.Places.{after_going_on}
use Rattle.book_sessions.proofs.Rosters.{cutter_leaves, marks_left}
use Rattle.book_sessions.proofs.roster.Roster.go_on.Goals as goal

pub invariant_of-self : goal.invariant_of-self
invariant_of-self g c =
    let changed = c.go_on_at.ensures in
    let leaves = cutter_leaves c.args.cut.cutter in (
      marks_left c.self.inside.live.items c.self.inside.recent.items c.self.inside.watched c.args.s (with_cutter c.args.cut.cutter) changed.0 c.self.inside.members.items c.go_on_at.new.members.items
          leaves c.self.invariant.0 changed.1 changed.2,
      listening_left c.self.inside.listening.items c.args.s (with_cutter c.args.cut.cutter) changed.0 c.self.inside.members.items c.go_on_at.new.members.items leaves c.self.invariant.1 changed.1 changed.2,
    )

pub returns-clause-goes_on : goal.returns-clause-goes_on
returns-clause-goes_on g c =
    let P : List MemberView → Type 0 = λ l. Changes c.args.s (λ a b. b ≡ with_cutter c.args.cut.cutter a) l c.go_on_at.new.members.items in
    subst P c.self.view_is c.go_on_at.ensures

pub returns-clause-after : goal.returns-clause-after
returns-clause-after g c = λ later after.
    let P : List MemberView → Type 0 = λ l. IsAfterAll later l in
    after_going_on c.args.s c.args.cut.cutter c.self.inside.members.items c.go_on_at.new.members.items c.go_on_at.ensures later (subst P (sym c.self.view_is) after)
