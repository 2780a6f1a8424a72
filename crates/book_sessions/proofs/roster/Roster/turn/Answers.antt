use Rattle.std.proofs.Common.{◌≡◌, List, map, subst}
use Rattle.std.specs.List.{AllZip}
use Rattle.book_sessions.specs.MemberView.{MemberView, renewed}
use Rattle.book_sessions.specs.Roster.{MemberTurns}
use Rattle.book_sessions.proofs.Listening.{listening_turned}
use Rattle.book_sessions.proofs.Places.{after_turn}
use Rattle.book_sessions.proofs.Rosters.{turned_map, turned_roster, turned_zip}
use Rattle.book_sessions.proofs.roster.Roster.turn.Goals as goal

pub invariant_of-self : goal.invariant_of-self
invariant_of-self g c = (
  turned_roster c.self.inside.live.items c.self.inside.recent.items c.keep_open.new.numbers.items c.self.inside.watched c.self.inside.members.items c.turn_each.new.members.items
      c.self.invariant.0 c.turn_each.ensures c.keep_open.ensures,
  listening_turned c.self.inside.live.items c.self.inside.recent.items c.self.inside.listening.items c.self.inside.watched c.self.inside.members.items c.turn_each.new.members.items
      c.self.invariant.0 c.self.invariant.1 c.turn_each.ensures,
)

pub returns-clause-after : goal.returns-clause-after
returns-clause-after g c =
    let old = c.self.inside.members.items in
    let new = c.turn_each.new.members.items in
    after_turn old new (turned_map c.self.inside.live.items c.self.inside.recent.items c.self.inside.watched old new c.self.invariant.0 c.turn_each.ensures)

pub returns-clause-turned : goal.returns-clause-turned
returns-clause-turned g c =
    let P : List MemberView → Type 0 = λ l. c.turn_each.new.members.items ≡ map renewed l in
    subst P c.self.view_is (turned_map c.self.inside.live.items c.self.inside.recent.items c.self.inside.watched c.self.inside.members.items c.turn_each.new.members.items c.self.invariant.0 c.turn_each.ensures)

pub returns-clause-each : goal.returns-clause-each
returns-clause-each g c =
    let P : List MemberView → Type 0 = λ l. AllZip MemberTurns l c.turn_each.new.members.items in
    subst P c.self.view_is (turned_zip c.self.inside.live.items c.self.inside.recent.items c.self.inside.watched c.self.inside.members.items c.turn_each.new.members.items c.self.invariant.0 c.turn_each.ensures)
