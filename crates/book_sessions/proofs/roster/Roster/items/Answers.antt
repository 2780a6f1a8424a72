use Rattle.std.proofs.Common.{option_map, ap, Some}
use Rattle.book_sessions.specs.MemberView.{MemberView}
use Rattle.book_sessions.proofs.Looking.{absent, found}
use Rattle.book_sessions.proofs.roster.Roster.items.Goals as goal

pub returns-in-Some : goal.returns-in-Some
returns-in-Some g c =
    let h = c.in-Some.ensures.lookup in
    found (option_map (λ (a : MemberView). a.session.items)) _ _ _ c.args.s c.in-Some.member.now _ c.deref.ensures.value c.self.view_is h.3.0 h.1 (ap Some c.items.ensures)

pub returns-in-None : goal.returns-in-None
returns-in-None g c = absent (option_map (λ (a : MemberView). a.session.items)) _ _ _ c.args.s c.deref.ensures.value c.self.view_is c.in-None.ensures.lookup.3
