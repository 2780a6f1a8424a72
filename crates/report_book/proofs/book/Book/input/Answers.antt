use Rattle.std.proofs.Common.{◌≡◌, ◌<◌, None, false, ℕ, List, length, refl, rules, sym, subst}
use Rattle.std.specs.List.{list_any}
use Rattle.gps_command.specs.declared.request.RawCommand.{RawCommand}
use Rattle.book_replies.specs.Polling.{is_poll}
use Rattle.book_sessions.specs.Answering.{AnswersCut}
use Rattle.book_sessions.specs.Roster.{Changes, IsOpenAt}
use Rattle.report_book.specs.Allowing.{MayInput}
use Rattle.report_book.specs.Moves.{AnswersRequests}
use Rattle.report_book.specs.Refusals.{session_fault}
use Rattle.report_book.specs.BookView.{BookView}
use Rattle.report_book.proofs.Allowing.{replies_known}
use Rattle.report_book.proofs.Changing.{passes}
use Rattle.report_book.proofs.Calls.{after_at, hears_on, hears_requests, is_open_at, is_session, nothing}
use Rattle.report_book.proofs.book.Book.input.Goals as goal

pub known-requires-clause-holds : goal.known-requires-clause-holds
known-requires-clause-holds g c = c.self.invariant.log

pub input-requires-clause-open : goal.input-requires-clause-open
input-requires-clause-open g c =
    let O : BookView → Type 0 = λ b. IsOpenAt c.args.s b.sessions in
    subst O (sym c.self.view_is) (is_open_at c.args.self.now c.args.s c.in_ok-check_session.field-0 c.in_ok-check_session.ensures)

pub input-requires-clause-after : goal.input-requires-clause-after
input-requires-clause-after g c =
    let N : BookView → Type 0 = λ b. c.args.s < length b.sessions in
    let there = subst N (sym c.self.view_is) (is_session c.args.self.now c.args.s c.in_ok-check_session.field-0 c.in_ok-check_session.ensures) in
    after_at (record { names = c.self.inside.names; most_requests = c.self.inside.most_requests; log = c.self.inside.log; sessions = c.self.inside.roster; units = c.self.inside.units.units }) c.args.s c.place-place.result c.self.invariant there c.place-place.ensures.place

pub input-requires-clause-may : goal.input-requires-clause-may
input-requires-clause-may g c =
    let b : BookView = record { names = c.self.inside.names; most_requests = c.self.inside.most_requests; log = c.self.inside.log; sessions = c.self.inside.roster; units = c.self.inside.units.units } in
    let R : List RawCommand → Type 0 = λ r. c.may_poll-polls.result ≡ false → list_any is_poll r ≡ false in
    let F : BookView → Type 0 = λ x. session_fault x c.args.s ≡ None in
    let M : BookView → Type 0 = λ x. MayInput g.O.Outlet.may c.args.s c.args.piece.now x in
    replies_known g.O.Outlet.may c.may_poll-polls.result b c.args.s c.args.piece.now c.in_ok-known.known c.in_ok-cut.cut.requests.items c.in_ok-cut.cut.cutter c.self.invariant
    (subst R c.as_slice.ensures.value c.may_poll-polls.ensures) c.in_ok-known.ensures.known c.in_ok-cut.ensures
    (subst F (sym c.self.view_is) (passes (session_fault c.args.self.now c.args.s) c.in_ok-check_session.field-0 c.in_ok-check_session.ensures))
    (subst M (sym c.self.view_is) c.requires.may)

pub invariant_of-self : goal.invariant_of-self
invariant_of-self g c =
    let N : BookView → Type 0 = λ b. c.args.s < length b.sessions in
    let O : BookView → Type 0 = λ b. IsOpenAt c.args.s b.sessions in
    let there = subst N (sym c.self.view_is) (is_session c.args.self.now c.args.s c.in_ok-check_session.field-0 c.in_ok-check_session.ensures) in
    let is_open = subst O (sym c.self.view_is) (is_open_at c.args.self.now c.args.s c.in_ok-check_session.field-0 c.in_ok-check_session.ensures) in
    let few : length c.in_ok-cut.cut.requests.items ≡ 0 = search rules in
    let none = nothing c.in_ok-cut.cut.requests.items few in
    (hears_on g.O.Outlet.exact (record { names = c.self.inside.names; most_requests = c.self.inside.most_requests; log = c.self.inside.log; sessions = c.self.inside.roster; units = c.self.inside.units.units }) c.args.s c.self.inside.log.length c.args.piece.now c.in_ok-cut.cut.requests.items c.in_ok-cut.cut.cutter c.go_on.new.self
    c.self.invariant there refl is_open none c.in_ok-cut.ensures c.go_on.ensures.goes_on).holds

pub returns-then-is_empty-clause-hears : goal.returns-then-is_empty-clause-hears
returns-then-is_empty-clause-hears g c =
    let N : BookView → Type 0 = λ b. c.args.s < length b.sessions in
    let O : BookView → Type 0 = λ b. IsOpenAt c.args.s b.sessions in
    let there = subst N (sym c.self.view_is) (is_session c.args.self.now c.args.s c.in_ok-check_session.field-0 c.in_ok-check_session.ensures) in
    let is_open = subst O (sym c.self.view_is) (is_open_at c.args.self.now c.args.s c.in_ok-check_session.field-0 c.in_ok-check_session.ensures) in
    let few : length c.in_ok-cut.cut.requests.items ≡ 0 = search rules in
    let none = nothing c.in_ok-cut.cut.requests.items few in
    let P : BookView → Type 0 = λ b. AnswersRequests g.O.Outlet.exact c.args.s c.args.piece.now b (record { names = c.self.inside.names; most_requests = c.self.inside.most_requests; log = c.self.inside.log; sessions = c.go_on.new.self; units = c.self.inside.units.units }) in
    subst P c.self.view_is (record {
      same = record { names = refl; requests = refl; log = refl; units = refl };
      session = (hears_on g.O.Outlet.exact (record { names = c.self.inside.names; most_requests = c.self.inside.most_requests; log = c.self.inside.log; sessions = c.self.inside.roster; units = c.self.inside.units.units }) c.args.s c.self.inside.log.length c.args.piece.now c.in_ok-cut.cut.requests.items c.in_ok-cut.cut.cutter c.go_on.new.self
          c.self.invariant there refl is_open none c.in_ok-cut.ensures c.go_on.ensures.goes_on).session;
    })

pub invariant_of-self-2 : goal.invariant_of-self-2
invariant_of-self-2 g c =
    let N : BookView → Type 0 = λ b. c.args.s < length b.sessions in
    let there = subst N (sym c.self.view_is) (is_session c.args.self.now c.args.s c.in_ok-check_session.field-0 c.in_ok-check_session.ensures) in
    let R : List RawCommand → Type 0 = λ r. c.may_poll-polls.result ≡ false → list_any is_poll r ≡ false in
    let L : ℕ → Type 0 = λ n. Changes c.args.s (AnswersCut g.O.Outlet.exact c.in_ok-known.known c.self.inside.names n c.in_ok-cut.cut.requests.items c.in_ok-cut.cut.cutter) c.self.inside.roster c.input.new.self in
    (hears_requests g.O.Outlet.exact c.may_poll-polls.result (record { names = c.self.inside.names; most_requests = c.self.inside.most_requests; log = c.self.inside.log; sessions = c.self.inside.roster; units = c.self.inside.units.units }) c.args.s c.self.inside.log.length c.args.piece.now c.in_ok-known.known c.in_ok-cut.cut.requests.items c.in_ok-cut.cut.cutter c.input.new.self
    c.self.invariant there refl (subst R c.as_slice.ensures.value c.may_poll-polls.ensures) c.in_ok-known.ensures.known c.in_ok-cut.ensures (subst L c.place-place.ensures.place c.in_ok-input.ensures.answers)).holds

pub returns-clause-hears : goal.returns-clause-hears
returns-clause-hears g c =
    let N : BookView → Type 0 = λ b. c.args.s < length b.sessions in
    let there = subst N (sym c.self.view_is) (is_session c.args.self.now c.args.s c.in_ok-check_session.field-0 c.in_ok-check_session.ensures) in
    let R : List RawCommand → Type 0 = λ r. c.may_poll-polls.result ≡ false → list_any is_poll r ≡ false in
    let L : ℕ → Type 0 = λ n. Changes c.args.s (AnswersCut g.O.Outlet.exact c.in_ok-known.known c.self.inside.names n c.in_ok-cut.cut.requests.items c.in_ok-cut.cut.cutter) c.self.inside.roster c.input.new.self in
    let P : BookView → Type 0 = λ b. AnswersRequests g.O.Outlet.exact c.args.s c.args.piece.now b (record { names = c.self.inside.names; most_requests = c.self.inside.most_requests; log = c.self.inside.log; sessions = c.input.new.self; units = c.self.inside.units.units }) in
    subst P c.self.view_is (record {
      same = record { names = refl; requests = refl; log = refl; units = refl };
      session = (hears_requests g.O.Outlet.exact c.may_poll-polls.result (record { names = c.self.inside.names; most_requests = c.self.inside.most_requests; log = c.self.inside.log; sessions = c.self.inside.roster; units = c.self.inside.units.units }) c.args.s c.self.inside.log.length c.args.piece.now c.in_ok-known.known c.in_ok-cut.cut.requests.items c.in_ok-cut.cut.cutter c.input.new.self
          c.self.invariant there refl (subst R c.as_slice.ensures.value c.may_poll-polls.ensures) c.in_ok-known.ensures.known c.in_ok-cut.ensures (subst L c.place-place.ensures.place c.in_ok-input.ensures.answers)).session;
    })
