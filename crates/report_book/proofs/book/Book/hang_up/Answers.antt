use Rattle.std.proofs.Common.{◌<◌, length, sym, ap, subst}
use Rattle.book_sessions.specs.MemberView.{MemberView}
use Rattle.book_sessions.specs.Roster.{Closes}
use Rattle.report_book.specs.BookView.{BookView}
use Rattle.report_book.proofs.Calls.{after_at, closed_holds, is_session, one_changed}
use Rattle.report_book.proofs.book.Book.hang_up.Goals as goal

pub hang_up-requires-clause-after : goal.hang_up-requires-clause-after
hang_up-requires-clause-after g c =
    let N : BookView → Type 0 = λ b. c.args.s < length b.sessions in
    let there = subst N (sym c.self.view_is) (is_session c.args.self.now c.args.s c.in_ok-check_session.field-0 c.in_ok-check_session.ensures) in
    after_at (record { names = c.self.inside.names; most_requests = c.self.inside.most_requests; log = c.self.inside.log; sessions = c.self.inside.roster; units = c.self.inside.units.units }) c.args.s c.place-place.result c.self.invariant there c.place-place.ensures.place

pub invariant_of-self : goal.invariant_of-self
invariant_of-self g c =
    let N : BookView → Type 0 = λ b. c.args.s < length b.sessions in
    let there = subst N (sym c.self.view_is) (is_session c.args.self.now c.args.s c.in_ok-check_session.field-0 c.in_ok-check_session.ensures) in
    one_changed (Closes c.place-place.result c.args.why) (record { names = c.self.inside.names; most_requests = c.self.inside.most_requests; log = c.self.inside.log; sessions = c.self.inside.roster; units = c.self.inside.units.units }) c.args.s c.place-place.result c.hang_up.new.self
    (closed_holds c.args.why c.self.inside.names c.place-place.result) (λ old next closes. ap (λ (a : MemberView). a.session.most_requests) closes.becomes) c.self.invariant there c.place-place.ensures.place c.hang_up.ensures.closes
