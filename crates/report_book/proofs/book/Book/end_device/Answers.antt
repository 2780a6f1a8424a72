use Rattle.std.proofs.Common.{◌<◌, false, length, refl, sym, subst, ◌∙◌, ap, ◌≡◌, None}
use Rattle.book_log.proofs.Owned.{are_named}
use Rattle.book_log.specs.Entries.{fed, edged, ended}
use Rattle.book_log.specs.DeviceLogView.{turns_at}
use Rattle.report_book.specs.Allowing.{MayAdd}
use Rattle.report_book.specs.BookView.{BookView, turned_if}
use Rattle.report_book.specs.Moves.{Earns}
use Rattle.report_book.specs.Refusals.{device_fault}
use Rattle.report_book.proofs.Allowing.{lines_allowed}
use Rattle.report_book.proofs.Calls.{after_if, is_device, limit_kept, moved}
use Rattle.report_book.proofs.Ending.{needs_no_room}
use Rattle.report_book.proofs.Changing.{passes}
use Rattle.report_book.proofs.book.Book.end_device.Goals as goal

pub put-requires-clause-after : goal.put-requires-clause-after
put-requires-clause-after g c =
    after_if false c.in_ok-added.added.turned c.in_ok-added.added.first (record { names = c.self.inside.names; most_requests = c.self.inside.most_requests; log = c.self.inside.log; sessions = c.self.inside.roster; units = c.self.inside.units.units }) c.self.invariant c.in_ok-added.ensures.turned c.in_ok-added.ensures.first

pub put-requires-clause-named : goal.put-requires-clause-named
put-requires-clause-named g c =
    let N : BookView → Type 0 = λ b. c.args.d < length b.names in
    are_named c.args.d c.self.inside.names c.in_ok-added.added.batch.reports c.in_ok-added.ensures.own (subst N (sym c.self.view_is) (is_device c.args.self.now c.args.d c.in_ok-check_device.field-0 c.in_ok-check_device.ensures))

pub put-requires-clause-room : goal.put-requires-clause-room
put-requires-clause-room g c =
    needs_no_room c.args.d c.self.inside.units.spare c.self.inside.log c.end_device.new.self c.in_ok-added.added.batch.reports c.self.invariant.log c.in_ok-added.ensures.adds

pub put-requires-clause-may : goal.put-requires-clause-may
put-requires-clause-may g c =
    let M : BookView → Type 0 = λ b. MayAdd g.O.Outlet.may c.args.d (ended c.args.d) b in
    let F : BookView → Type 0 = λ b. device_fault b c.args.d ≡ None in
    lines_allowed g.O.Outlet.may c.args.d (ended c.args.d) c.self.inside.names c.self.inside.most_requests c.self.inside.log c.end_device.new.self c.self.inside.roster c.self.inside.units.units
    false c.in_ok-added.added.turned c.in_ok-added.added.batch.reports c.self.invariant c.in_ok-added.ensures.adds
    (subst F (sym c.self.view_is) (passes (device_fault c.args.self.now c.args.d) c.in_ok-check_device.field-0 c.in_ok-check_device.ensures))
    (subst M (sym c.self.view_is) c.requires.may)

pub invariant_of-self-2 : goal.invariant_of-self-2
invariant_of-self-2 g c =
    (moved g.O.Outlet.exact c.self.inside.names c.self.inside.most_requests c.self.inside.log c.end_device.new.self c.self.inside.roster c.put.new.roster c.self.inside.units.units c.self.inside.units.units c.put.new.units.units
    false c.in_ok-added.added.turned c.in_ok-added.added.first (ended c.args.d) c.in_ok-added.added.batch.reports
    c.self.invariant c.in_ok-added.ensures.turned c.in_ok-added.ensures.first refl c.in_ok-added.ensures.holds c.in_ok-added.ensures.adds
    c.put.ensures.turned c.put.ensures.carried c.put.ensures.sessions c.put.ensures.units).holds

pub returns-clause-earns : goal.returns-clause-earns
returns-clause-earns g c =
    let P : BookView → Type 0 = λ b. Earns b (record { names = c.self.inside.names; most_requests = c.self.inside.most_requests; log = c.end_device.new.self; sessions = c.put.new.roster; units = c.put.new.units.units }) (ended c.args.d) in
    subst P c.self.view_is ((moved g.O.Outlet.exact c.self.inside.names c.self.inside.most_requests c.self.inside.log c.end_device.new.self c.self.inside.roster c.put.new.roster c.self.inside.units.units c.self.inside.units.units c.put.new.units.units
    false c.in_ok-added.added.turned c.in_ok-added.added.first (ended c.args.d) c.in_ok-added.added.batch.reports
    c.self.invariant c.in_ok-added.ensures.turned c.in_ok-added.ensures.first refl c.in_ok-added.ensures.holds c.in_ok-added.ensures.adds
    c.put.ensures.turned c.put.ensures.carried c.put.ensures.sessions c.put.ensures.units).earns)

pub returns-clause-limit : goal.returns-clause-limit
returns-clause-limit g c =
    limit_kept false c.self.inside.log c.end_device.new.self (ended c.args.d) c.in_ok-added.added.batch.reports c.in_ok-added.ensures.adds ∙ ap (λ (b : BookView). b.log.limit) c.self.view_is
