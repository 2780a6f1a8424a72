use Rattle.std.proofs.Common.{List, subst, sym}
use Rattle.book_batch.specs.Lines.{line_for}
use Rattle.book_sessions.specs.Allowing.{MayReportEach}
use Rattle.book_sessions.specs.MemberView.{MemberView}
use Rattle.report_book.proofs.placing.put.Goals as goal

pub spread-requires-clause-may : goal.spread-requires-clause-may
spread-requires-clause-may g c =
    let P : List MemberView → Type 0 = λ l. MayReportEach g.O.Outlet.may (line_for c.args.names.now) c.args.added.batch.reports l in
    subst P (sym c.turn_if.ensures.sessions) c.requires.may
