use Rattle.std.proofs.Common.{◌≡◌, true, false, None, refl, sym, ap, ◌∙◌, subst}
use Rattle.session_core.specs.Allowing.{MayReport}
use Rattle.book_batch.specs.Lines.{line_for}
use Rattle.book_sessions.specs.MemberView.{MemberView, is_open}
use Rattle.book_sessions.specs.Spreading.{Spreads, due}
use Rattle.book_sessions.proofs.Receiving.{live_means, received, still_marked, takes_stay}
use Rattle.book_sessions.proofs.Rosters.{spread_closed}
use Rattle.book_sessions.proofs.member.Member.receive.Goals as goal

pub report_all-requires-clause-may : goal.report_all-requires-clause-may
report_all-requires-clause-may g c =
    let P : MemberView → Type 0 = λ a. a.session.closing ≡ None in
    let M : MemberView → Type 0 = λ a. MayReport g.O.Outlet.may (line_for c.args.names.now) c.args.reports.now a.session in
    let none = subst P (sym c.self.view_is) (live_means c.args.self.now.session (let e : is_open c.args.self.now ≡ true = cc in e)) in
    (subst M (sym c.self.view_is) c.requires.may) none

pub invariant_of-self : goal.invariant_of-self
invariant_of-self g c =
    let P : MemberView → Type 0 = λ a. a.session.closing ≡ None in
    let none = subst P (sym c.self.view_is) (live_means c.args.self.now.session (let e : is_open c.args.self.now ≡ true = cc in e)) in
    λ still. still_marked g.O.Outlet.exact (due (line_for c.args.names.now) c.self.inside.session.policy c.args.first c.args.reports.now) c.self.inside.session c.report_all.new.session
    c.report_all.ensures (c.self.invariant none)

pub returns-then-is_open : goal.returns-then-is_open
returns-then-is_open g c =
    let old : MemberView = record { session = c.self.inside.session; cutter = c.self.inside.cutter; watched = c.self.inside.watched } in
    let mid : MemberView = record { session = c.report_all.new.session; cutter = c.self.inside.cutter; watched = c.self.inside.watched } in
    let P : MemberView → Type 0 = λ a. a.session.closing ≡ None in
    let Q : MemberView → Type 0 = λ a. Spreads g.O.Outlet.exact (line_for c.args.names.now) c.args.first c.args.reports.now a c.rest.new.self in
    let none : old.session.closing ≡ None = subst P (sym c.self.view_is) (live_means c.args.self.now.session (let e : is_open c.args.self.now ≡ true = cc in e)) in
    let stays = takes_stay g.O.Outlet.exact (due (line_for c.args.names.now) c.self.inside.session.policy c.args.first c.args.reports.now) c.self.inside.session c.report_all.new.session
    c.report_all.ensures in
    record {
      spreads = subst Q c.self.view_is
          (received g.O.Outlet.exact c.args.names.now c.args.first c.args.reports.now old mid c.rest.new.self none c.report_all.ensures refl c.rest.ensures);
      marks = ap (λ (a : MemberView). a.session.marks) c.rest.ensures ∙ stays.marks ∙ ap (λ (a : MemberView). a.session.marks) c.self.view_is;
    }

pub returns-else-is_open : goal.returns-else-is_open
returns-else-is_open g c = record {
  spreads = spread_closed g.O.Outlet.exact c.args.names.now c.args.first c.args.reports.now c.args.self.now (let e : is_open c.args.self.now ≡ false = cc in e);
  marks = refl;
}
