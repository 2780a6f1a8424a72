use Rattle.std.proofs.Common.{subst}
use Rattle.gps_fixed.specs.Lists.{IsPrefix}
use Rattle.report_book.specs.BookView.{BookView}
use Rattle.serve_end.specs.Outlets.{given_to}
use Rattle.serve_end.proofs.session.next_item.Goals as goal

pub returns-clause-begins : goal.returns-clause-begins
returns-clause-begins g c = λ free.
    subst (λ (b : BookView). IsPrefix c.settle.new.far.got (given_to c.args.number b free)) c.in-Ok.ensures.unchanged (c.in-Ok.ensures.prefix free)
