use Rattle.std.proofs.Common.{◌≡◌, ℕ, List, sym, subst, false}
use Rattle.report_book.specs.BookView.{BookView}
use Rattle.std.specs.Prelude.{Err, Option}
use Rattle.report_book.specs.Moves.{HangsUp, AnswersRequests}
use Rattle.report_book.specs.Refusals.{RefusesAs}
use Rattle.report_book.specs.declared.fault.BookFault.{BookFault}
use Rattle.gps_lane.specs.declared.piece.Piece.TheVariants.{Input}
use Rattle.session_core.specs.declared.mark.Close.TheVariants.{NoMemory}
use Rattle.hub_promise.specs.Steps.{SessionStep, with_got}
use Rattle.hub_promise.proofs.Sessions.{cut_short, heard_step, hung_step}
use Rattle.gps_hub.proofs.session.hear.Goals as goal
use Rattle.gps_lane.specs.Lane.{MayKeep}
use Rattle.report_book.specs.Allowing.{MayInput}

pub input-requires-clause-may : goal.input-requires-clause-may
input-requires-clause-may g c =
    subst (λ (b : List ℕ). MayInput MayKeep c.args.s b c.args.book.now) (sym c.as_slice.ensures.bytes) c.requires.may

pub returns-in-Ok-clause-step : goal.returns-in-Ok-clause-step
returns-in-Ok-clause-step g c = λ x.
    let P : List ℕ → Type 0 = λ b. SessionStep c.args.s c.args.book.now c.input.new.self x (with_got (Input b) x) in
    subst P c.as_slice.ensures.bytes
    (heard_step false c.args.book.now c.input.new.self c.args.s c.as_slice.result.now x c.show.ensures.holds c.requires.within c.requires.open_one c.in-Ok.ensures.hears)

pub returns-in-Ok-clause-answer : goal.returns-in-Ok-clause-answer
returns-in-Ok-clause-answer g c =
    let P : List ℕ → Type 0 = λ b. AnswersRequests false c.args.s b c.args.book.now c.input.new.self in
    subst P c.as_slice.ensures.bytes c.in-Ok.ensures.hears

pub returns-in-Err-clause-step : goal.returns-in-Err-clause-step
returns-in-Err-clause-step g c = λ x.
    let P : BookView → Type 0 = λ b. HangsUp c.args.s NoMemory b c.hang_up.new.book in
    hung_step c.args.book.now c.hang_up.new.book c.args.s NoMemory (Input c.args.bytes.now) x c.show.ensures.holds c.requires.within c.requires.open_one (λ _ _ _ shown answered. cut_short x (Input c.args.bytes.now) shown tt answered) (subst P c.in-Err.ensures.unchanged c.hang_up.ensures)

pub returns-in-Err-clause-answer : goal.returns-in-Err-clause-answer
returns-in-Err-clause-answer g c =
    let P : BookView → Type 0 = λ b. HangsUp c.args.s NoMemory b c.hang_up.new.book in
    let Q : Option BookFault → Type 0 = λ o. RefusesAs {X = Unit {0}} o (Err c.in-Err.fault) in (
      subst Q c.requires.runs c.in-Err.ensures.refusal,
      subst P c.in-Err.ensures.unchanged c.hang_up.ensures,
    )
