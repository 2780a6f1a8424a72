use Rattle.std.proofs.Common.{◌≡◌, subst}
use Rattle.gps_lane.specs.declared.piece.Piece.TheVariants.{Last}
use Rattle.session_core.specs.declared.mark.Close.{Close}
use Rattle.report_book.specs.Moves.{HangsUp}
use Rattle.hub_promise.specs.Given.{why_of}
use Rattle.hub_promise.proofs.Sessions.{hung_step, may_end}
use Rattle.gps_hub.proofs.session.end.Goals as goal

pub returns-clause-step : goal.returns-clause-step
returns-clause-step g c = λ x.
    let P : Close → Type 0 = λ w. HangsUp c.args.s w c.args.book.now c.hang_up.new.book in
    hung_step c.args.book.now c.hang_up.new.book c.args.s (why_of c.args.ending) (Last c.args.ending) x c.show.ensures.holds c.requires.within c.requires.open_one (may_end c.args.ending x) (subst P c.why.ensures.why c.hang_up.ensures)

pub returns-clause-hangs_up : goal.returns-clause-hangs_up
returns-clause-hangs_up g c =
    let P : Close → Type 0 = λ w. HangsUp c.args.s w c.args.book.now c.hang_up.new.book in
    subst P c.why.ensures.why c.hang_up.ensures
