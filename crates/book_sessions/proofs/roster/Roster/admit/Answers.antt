use Rattle.std.proofs.Common.{◌≡◌, length, sym, ap, ◌∙◌, arith, List, subst, [], ◌∷◌, ◌++◌}
use Rattle.book_sessions.specs.MemberView.{MemberView, listens, opened}
use Rattle.book_sessions.specs.Roster.{IsAfterAll, live_in}
use Rattle.book_sessions.proofs.Listening.{listening_admitted}
use Rattle.book_sessions.proofs.Places.{after_admit}
use Rattle.book_sessions.proofs.Rosters.{admitted_step}
use Rattle.book_sessions.proofs.roster.Roster.admit.Goals as goal

pub invariant_of-self-in-Ok : goal.invariant_of-self-in-Ok
invariant_of-self-in-Ok g c =
    let old = c.self.inside.members.items in
    let live : live_in old ≡ c.live-live.result = ap live_in c.self.view_is ∙ sym c.live-live.ensures.live in
    let count : c.opened-opened.result ≡ length old = c.opened-opened.ensures.opened ∙ ap length (sym c.self.view_is) in (
      admitted_step c.self.inside.live.items c.make_room.new.live.items c.push_reserved-in-Ok.new.self.items c.self.inside.recent.items c.make_room.new.recent.items c.push_reserved-in-Ok-2.new.self.items
          c.self.inside.watched c.opened-opened.result c.in-Ok.member old c.make_room.new.members.items c.push_reserved.new.self.items c.self.invariant.0
          c.make_room.ensures.members c.make_room.ensures.live c.make_room.ensures.recent c.push_reserved.ensures.items c.push_reserved-in-Ok.ensures.items c.push_reserved-in-Ok-2.ensures.items
          count (ap (λ (a : MemberView). a.session.closing) c.in-Ok.ensures.opened) (ap (λ (a : MemberView). a.watched) c.in-Ok.ensures.opened)
          (omega (arith, live, c.if-live-ge-MOST_LIVE.false)) (omega (arith, count, c.if-opened-ge-MOST_OPENED.false)),
      listening_admitted c.self.inside.listening.items c.in-Ok.member old c.make_room.new.members.items c.push_reserved.new.self.items c.self.invariant.1
          c.make_room.ensures.members c.push_reserved.ensures.items (ap listens c.in-Ok.ensures.opened),
    )

pub returns-in-Ok-clause-after : goal.returns-in-Ok-clause-after
returns-in-Ok-clause-after g c = λ later low after.
    let P : List MemberView → Type 0 = λ l. IsAfterAll later l in
    let old = c.self.inside.members.items in
    let pushed : c.push_reserved.new.self.items ≡ old ++ opened (g.O.Outlet.name c.args.outlet) (g.O.Outlet.cap c.args.outlet) c.args.most_requests c.args.place ∷ [] =
    c.push_reserved.ensures.items ∙ ap (λ l. l ++ c.in-Ok.member ∷ []) c.make_room.ensures.members ∙ ap (λ (a : MemberView). old ++ a ∷ []) c.in-Ok.ensures.opened in
    after_admit c.args.place (g.O.Outlet.name c.args.outlet) (g.O.Outlet.cap c.args.outlet) c.args.most_requests old c.push_reserved.new.self.items pushed later low (subst P (sym c.self.view_is) after)

pub returns-then-is_err-clause-after : goal.returns-then-is_err-clause-after
returns-then-is_err-clause-after g c = λ later low after. let P : List MemberView → Type 0 = λ l. IsAfterAll later l in subst P (sym (c.make_room.ensures.members ∙ c.self.view_is)) after

pub returns-in-Err-clause-after : goal.returns-in-Err-clause-after
returns-in-Err-clause-after g c = λ later low after. let P : List MemberView → Type 0 = λ l. IsAfterAll later l in subst P (sym (c.make_room.ensures.members ∙ c.self.view_is)) after
