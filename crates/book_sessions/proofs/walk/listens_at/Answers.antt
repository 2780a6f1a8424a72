use Rattle.std.proofs.Common.{refl}
use Rattle.book_sessions.specs.MemberView.{listens}
use Rattle.book_sessions.specs.Walks.{passes_some}
use Rattle.book_sessions.proofs.Looking.{absent, found}
use Rattle.book_sessions.proofs.walk.listens_at.Goals as goal

pub returns-in-Some : goal.returns-in-Some
returns-in-Some g c =
    let h = c.in-Some.ensures.lookup in
    found (passes_some listens) _ _ _ c.args.n c.in-Some.member.now _ c.deref.ensures.value refl h.3.0 h.1 c.listens.ensures

pub returns-in-None : goal.returns-in-None
returns-in-None g c = absent (passes_some listens) _ _ _ c.args.n c.deref.ensures.value refl c.in-None.ensures.lookup.3
