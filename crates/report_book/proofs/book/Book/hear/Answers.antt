use Rattle.std.proofs.Common.{get_or, subst}
use Rattle.book_units.specs.Steps.{BearsOut}
use Rattle.book_units.specs.Units.{UnitView}
use Rattle.report_book.specs.BookView.{BookView}
use Rattle.report_book.proofs.book.Book.hear.Goals as goal

pub returns-clause-heard : goal.returns-clause-heard
returns-clause-heard g c =
    let P : BookView → Type 0 = λ b. (free : UnitView) → BearsOut (get_or b.units c.args.u free) c.args.account.taken c.args.account.kept in
    subst P c.self.view_is c.hear.ensures.heard
