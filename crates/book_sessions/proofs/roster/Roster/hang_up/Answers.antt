use Rattle.std.proofs.Common.{List, sym, ap, ◌∙◌, subst}
use Rattle.book_sessions.specs.MemberView.{MemberView}
use Rattle.book_sessions.specs.Roster.{IsAfterAll, IsOpenAt, IsAfter, Changes, Closes}
use Rattle.book_sessions.proofs.Listening.{listening_closed}
use Rattle.book_sessions.proofs.Places.{after_close}
use Rattle.book_sessions.proofs.Rosters.{changed_roster, same_watched}
use Rattle.book_sessions.proofs.roster.Roster.hang_up.Goals as goal

pub invariant_of-self : goal.invariant_of-self
invariant_of-self g c =
    let changed = c.close_at.ensures in
    let old = c.self.inside.members.items in
    let new = c.close_at.new.members.items in
    let P : List MemberView → Type 0 = λ l. IsOpenAt c.args.s l in (
      changed_roster c.self.inside.live.items c.self.inside.recent.items c.keep_open.new.numbers.items c.self.inside.watched c.self.inside.watched c.args.s changed.0 old new
          c.self.invariant.0 (subst P (sym c.self.view_is) c.requires.open) changed.1 c.keep_open.ensures
          (c.self.invariant.0.watched_ones ∙ same_watched c.args.s changed.0 old new changed.1 (λ free. ap (λ a. a.watched) (changed.2 free).becomes)),
      listening_closed c.self.inside.listening.items c.keep_listening.new.numbers.items c.args.s c.args.place c.args.why old new c.self.invariant.1 changed c.keep_listening.ensures,
    )

pub returns-clause-after : goal.returns-clause-after
returns-clause-after g c = λ later after.
    let P : List MemberView → Type 0 = λ l. IsAfterAll later l in
    after_close c.args.place c.args.s c.args.why c.self.inside.members.items c.close_at.new.members.items c.close_at.ensures later (subst P (sym c.self.view_is) after)

pub close_at-requires-clause-open : goal.close_at-requires-clause-open
close_at-requires-clause-open g c = let P : List MemberView → Type 0 = λ l. IsOpenAt c.args.s l in subst P (sym c.self.view_is) c.requires.open

pub close_at-requires-clause-after : goal.close_at-requires-clause-after
close_at-requires-clause-after g c = let P : List MemberView → Type 0 = λ l. IsAfter c.args.place c.args.s l in subst P (sym c.self.view_is) c.requires.after

pub returns-clause-closes : goal.returns-clause-closes
returns-clause-closes g c = let P : List MemberView → Type 0 = λ l. Changes c.args.s (Closes c.args.place c.args.why) l c.close_at.new.members.items in subst P c.self.view_is c.close_at.ensures
