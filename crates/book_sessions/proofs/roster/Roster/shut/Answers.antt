use Rattle.book_sessions.proofs.Walking.{numbers_within}
use Rattle.std.proofs.Common.{List, subst, sym, ℕ, ◌<◌, length}
use Rattle.std.specs.List.{AllZip, All}
use Rattle.session_core.specs.declared.mark.Close.TheVariants.{DaemonEnd}
use Rattle.book_sessions.specs.MemberView.{MemberView, is_open}
use Rattle.book_sessions.specs.Roster.{IsAfterAll, Shuts}
use Rattle.book_sessions.proofs.Listening.{listening_shut}
use Rattle.book_sessions.proofs.Places.{after_shut}
use Rattle.book_sessions.proofs.Rosters.{shut_roster, shut_zip}
use Rattle.book_sessions.proofs.roster.Roster.shut.Goals as goal

pub invariant_of-self : goal.invariant_of-self
invariant_of-self g c = (
  shut_roster c.args.place DaemonEnd c.self.inside.live.items c.self.inside.recent.items c.keep_open.new.numbers.items c.self.inside.watched c.self.inside.members.items c.close_each.new.members.items
      c.self.invariant.0 c.close_each.ensures c.keep_open.ensures,
  listening_shut c.self.inside.live.items c.self.inside.listening.items c.keep_listening.new.numbers.items c.args.place DaemonEnd c.self.inside.members.items c.close_each.new.members.items
      c.self.invariant.0.live_ones c.self.invariant.1 c.close_each.ensures c.keep_listening.ensures,
)

pub returns-clause-shuts : goal.returns-clause-shuts
returns-clause-shuts g c =
    let P : List MemberView → Type 0 = λ l. AllZip (Shuts c.args.place DaemonEnd) l c.close_each.new.members.items in
    subst P c.self.view_is (shut_zip c.args.place DaemonEnd c.self.inside.live.items c.self.inside.members.items c.close_each.new.members.items c.self.invariant.0.live_ones c.close_each.ensures)

pub returns-clause-after : goal.returns-clause-after
returns-clause-after g c = λ later after.
    let P : List MemberView → Type 0 = λ l. IsAfterAll later l in
    let zip = shut_zip c.args.place DaemonEnd c.self.inside.live.items c.self.inside.members.items c.close_each.new.members.items c.self.invariant.0.live_ones c.close_each.ensures in
    after_shut c.args.place DaemonEnd c.self.inside.members.items c.close_each.new.members.items zip later (subst P (sym c.self.view_is) after)

pub close_each-requires-clause-within : goal.close_each-requires-clause-within
close_each-requires-clause-within g c =
    let P : List ℕ → Type 0 = λ l. All (λ n. n < length c.self.inside.members.items) l in
    subst P (sym c.self.invariant.0.live_ones) (numbers_within is_open c.self.inside.members.items)

pub close_each-requires-clause-after : goal.close_each-requires-clause-after
close_each-requires-clause-after g c = let P : List MemberView → Type 0 = λ l. IsAfterAll c.args.place l in subst P (sym c.self.view_is) c.requires
