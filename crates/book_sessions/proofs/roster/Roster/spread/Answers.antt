use Rattle.book_sessions.proofs.Walking.{numbers_within, numbers_count}
use Rattle.std.proofs.Common.{◌≡◌, List, arith, length, subst, sym, ℕ, ◌<◌, ap}
use Rattle.std.specs.List.{AllZip, All}
use Rattle.std.specs.Vec.{vec_len}
use Rattle.std.proofs.lemmas.Bool.{eqb-true}
use Rattle.book_batch.specs.Lines.{line_for}
use Rattle.session_core.specs.Allowing.{MayReport}
use Rattle.book_sessions.specs.Allowing.{MayReportEach}
use Rattle.book_sessions.specs.MemberView.{MemberView, listens}
use Rattle.book_sessions.specs.Spreading.{Spreads}
use Rattle.book_sessions.specs.Roster.{IsAfterAll, listening_in}
use Rattle.book_sessions.proofs.Allowing.{walk_over}
use Rattle.book_sessions.proofs.Listening.{is_nil, listening_spread}
use Rattle.book_sessions.proofs.Places.{after_spread}
use Rattle.book_sessions.proofs.Rosters.{spread_roster, spread_to_none, spread_zip}
use Rattle.book_sessions.proofs.roster.Roster.spread.Goals as goal

pub receive_each-requires-clause-may : goal.receive_each-requires-clause-may
receive_each-requires-clause-may g c =
    let P : List MemberView → Type 0 = λ l. MayReportEach g.O.Outlet.may (line_for c.args.names.now) c.args.batch.reports l in
    walk_over (λ (a : MemberView). MayReport g.O.Outlet.may (line_for c.args.names.now) c.args.batch.reports a.session) listens c.self.inside.listening.items c.self.inside.members.items
    c.self.invariant.1 (subst P (sym c.self.view_is) c.requires.may)

pub invariant_of-self : goal.invariant_of-self
invariant_of-self g c =
    let zip = spread_zip g.O.Outlet.exact c.args.names.now c.args.first c.args.batch.reports c.self.inside.listening.items c.self.inside.members.items c.receive_each.new.members.items
    c.self.invariant.1 c.receive_each.ensures in (
      spread_roster g.O.Outlet.exact c.args.names.now c.args.first c.args.batch.reports c.self.inside.live.items c.self.inside.recent.items c.keep_open.new.numbers.items c.self.inside.watched
          c.self.inside.members.items c.receive_each.new.members.items c.self.invariant.0 zip c.keep_open.ensures,
      listening_spread g.O.Outlet.exact c.args.names.now c.args.first c.args.batch.reports c.self.inside.listening.items c.keep_listening.new.numbers.items
          c.self.inside.members.items c.receive_each.new.members.items c.self.invariant.1 zip c.keep_listening.ensures,
    )

pub returns-clause-spreads : goal.returns-clause-spreads
returns-clause-spreads g c =
    let P : List MemberView → Type 0 = λ l. AllZip (Spreads g.O.Outlet.exact (line_for c.args.names.now) c.args.first c.args.batch.reports) l c.receive_each.new.members.items in
    subst P c.self.view_is (spread_zip g.O.Outlet.exact c.args.names.now c.args.first c.args.batch.reports c.self.inside.listening.items c.self.inside.members.items c.receive_each.new.members.items
    c.self.invariant.1 c.receive_each.ensures)

pub returns-clause-after : goal.returns-clause-after
returns-clause-after g c = λ later after.
    let P : List MemberView → Type 0 = λ l. IsAfterAll later l in
    let zip = spread_zip g.O.Outlet.exact c.args.names.now c.args.first c.args.batch.reports c.self.inside.listening.items c.self.inside.members.items c.receive_each.new.members.items
    c.self.invariant.1 c.receive_each.ensures in
    after_spread g.O.Outlet.exact (line_for c.args.names.now) c.args.first c.args.batch.reports c.self.inside.members.items c.receive_each.new.members.items zip later (subst P (sym c.self.view_is) after)

pub returns-then-is_empty-clause-spreads : goal.returns-then-is_empty-clause-spreads
returns-then-is_empty-clause-spreads g c =
    let P : List MemberView → Type 0 = λ l. AllZip (Spreads g.O.Outlet.exact (line_for c.args.names.now) c.args.first c.args.batch.reports) l l in
    let zero : vec_len c.self.inside.listening ≡ 0 = eqb-true (vec_len c.self.inside.listening) 0 (sym c.if-is_empty.ensures) in
    let none : length c.self.inside.listening.items ≡ 0 = omega (arith, zero) in
    subst P c.self.view_is (spread_to_none g.O.Outlet.exact c.args.names.now c.args.first c.args.batch.reports c.self.inside.listening.items c.self.inside.members.items
    c.self.invariant.1 (is_nil c.self.inside.listening.items none))

pub receive_each-requires-clause-within : goal.receive_each-requires-clause-within
receive_each-requires-clause-within g c =
    let P : List ℕ → Type 0 = λ l. All (λ n. n < length c.self.inside.members.items) l in
    subst P (sym c.self.invariant.1) (numbers_within listens c.self.inside.members.items)

pub receive_each-requires-clause-shares : goal.receive_each-requires-clause-shares
receive_each-requires-clause-shares g c =
    omega (arith, ap length c.self.invariant.1, numbers_count listens c.self.inside.members.items, ap listening_in c.self.view_is, c.requires.shares)

pub receive_each-requires-clause-after : goal.receive_each-requires-clause-after
receive_each-requires-clause-after g c = let P : List MemberView → Type 0 = λ l. IsAfterAll c.args.first l in subst P (sym c.self.view_is) c.requires.after
