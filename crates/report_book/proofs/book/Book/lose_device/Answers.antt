use Rattle.std.proofs.Common.{ap, ◌∙◌, subst, refl}
use Rattle.book_log.specs.Entries.{lost}
use Rattle.report_book.specs.BookView.{BookView}
use Rattle.report_book.specs.Moves.{AddsQuietly, Earns}
use Rattle.report_book.proofs.Calls.{quiet}
use Rattle.report_book.proofs.book.Book.lose_device.Goals as goal

pub invariant_of-self : goal.invariant_of-self
invariant_of-self g c =
    (quiet c.self.inside.names c.self.inside.most_requests c.self.inside.log c.lose_device.new.self c.self.inside.roster c.self.inside.units.units (lost c.args.d) c.self.invariant c.lose_device.ensures.holds c.lose_device.ensures.adds).0

pub returns-clause-lost : goal.returns-clause-lost
returns-clause-lost g c =
    let P : BookView → Type 0 = λ b. AddsQuietly b (record { names = c.self.inside.names; most_requests = c.self.inside.most_requests; log = c.lose_device.new.self; sessions = c.self.inside.roster; units = c.self.inside.units.units }) (lost c.args.d) in
    subst P c.self.view_is (record { names = refl; requests = refl; log = c.lose_device.ensures.adds; sessions = refl; units = refl })

pub returns-clause-earns : goal.returns-clause-earns
returns-clause-earns g c =
    let P : BookView → Type 0 = λ b. Earns b (record { names = c.self.inside.names; most_requests = c.self.inside.most_requests; log = c.lose_device.new.self; sessions = c.self.inside.roster; units = c.self.inside.units.units }) (lost c.args.d) in
    subst P c.self.view_is (quiet c.self.inside.names c.self.inside.most_requests c.self.inside.log c.lose_device.new.self c.self.inside.roster c.self.inside.units.units (lost c.args.d) c.self.invariant c.lose_device.ensures.holds c.lose_device.ensures.adds).1

pub returns-clause-limit : goal.returns-clause-limit
returns-clause-limit g c = c.lose_device.ensures.adds.limit ∙ ap (λ (b : BookView). b.log.limit) c.self.view_is
