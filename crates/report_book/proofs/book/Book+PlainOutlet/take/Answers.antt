use Rattle.std.proofs.Common.{◌≡◌, ◌<◌, length, drop, refl, sym, ap, subst}
use Rattle.book_sessions.specs.MemberView.{MemberView, with_kept}
use Rattle.report_book.specs.BookView.{BookView}
use Rattle.report_book.proofs.Calls.{is_there, one_changed, taken_holds}
use Rattle.report_book.proofs.book.Book+PlainOutlet.take.Goals as goal

pub invariant_of-self : goal.invariant_of-self
invariant_of-self c =
    let N : BookView → Type 0 = λ b. c.args.s < length b.sessions in
    let there = subst N (sym c.self.view_is) (is_there c.args.self.now c.args.s c.in_ok-check_exists.field-0 c.in_ok-check_exists.ensures) in
    one_changed (λ (a b : MemberView). b ≡ with_kept (drop 1 a.session.kept) a) (record { names = c.self.inside.names; most_requests = c.self.inside.most_requests; log = c.self.inside.log; sessions = c.self.inside.roster; units = c.self.inside.units.units }) c.args.s c.self.inside.log.length c.take-item.new.self
    (taken_holds c.self.inside.names c.self.inside.log.length) (λ old next is. ap (λ (a : MemberView). a.session.most_requests) is) c.self.invariant there refl c.take-item.ensures.now
