use Rattle.std.proofs.Common.{◌≡◌, refl, sym, subst}
use Rattle.gps_lane.specs.declared.piece.Piece.{Piece}
use Rattle.gps_lane.specs.declared.piece.Piece.TheVariants.{Bytes, Line}
use Rattle.hub_promise.specs.Steps.{SessionStep, with_got}
use Rattle.hub_promise.proofs.Sessions.{useless_step}
use Rattle.gps_hub.specs.declared.pumped.Pumped.TheVariants.{Fed}
use Rattle.gps_hub.specs.Pumping.{TookInput}
use Rattle.gps_hub.proofs.session.take_input.Goals as goal

pub returns-in-Bytes-clause-step : goal.returns-in-Bytes-clause-step
returns-in-Bytes-clause-step g c = λ x.
    let P : Piece → Type 0 = λ p. SessionStep c.args.s c.args.book.now c.args.book.now x (with_got p x) in
    subst P (sym c.in-Bytes.is) (useless_step c.args.book.now c.args.s (Bytes _ _) x c.requires.within c.requires.open_one refl)

pub returns-clause-step : goal.returns-clause-step
returns-clause-step g c = λ x.
    let P : Piece → Type 0 = λ p. SessionStep c.args.s c.args.book.now c.args.book.now x (with_got p x) in
    subst P (sym c.in-Line.is) (useless_step c.args.book.now c.args.s (Line c.in-Line.field-0) x c.requires.within c.requires.open_one refl)

pub returns-in-Input-clause-step : goal.returns-in-Input-clause-step
returns-in-Input-clause-step g c = λ x.
    let P : Piece → Type 0 = λ p. SessionStep c.args.s c.args.book.now c.hear.new.book x (with_got p x) in
    subst P (sym c.in-Input.is) (c.hear.ensures.step x)

pub returns-in-Last-clause-step : goal.returns-in-Last-clause-step
returns-in-Last-clause-step g c = λ x.
    let P : Piece → Type 0 = λ p. SessionStep c.args.s c.args.book.now c.end.new.book x (with_got p x) in
    subst P (sym c.in-Last.is) (c.end.ensures.step x)

pub returns-in-Bytes-clause-answer : goal.returns-in-Bytes-clause-answer
returns-in-Bytes-clause-answer g c =
    let P : Piece → Type 0 = λ p. TookInput Fed p c.args.s c.args.book.now c.args.book.now in
    subst P (sym c.in-Bytes.is) refl

pub returns-clause-answer : goal.returns-clause-answer
returns-clause-answer g c =
    let P : Piece → Type 0 = λ p. TookInput Fed p c.args.s c.args.book.now c.args.book.now in
    subst P (sym c.in-Line.is) refl

pub returns-in-Input-clause-answer : goal.returns-in-Input-clause-answer
returns-in-Input-clause-answer g c =
    let P : Piece → Type 0 = λ p. TookInput c.hear.result p c.args.s c.args.book.now c.hear.new.book in
    subst P (sym c.in-Input.is) c.hear.ensures.answer

pub returns-in-Last-clause-answer : goal.returns-in-Last-clause-answer
returns-in-Last-clause-answer g c =
    let P : Piece → Type 0 = λ p. TookInput Fed p c.args.s c.args.book.now c.end.new.book in
    subst P (sym c.in-Last.is) c.end.ensures.hangs_up

pub hear-requires-clause-may : goal.hear-requires-clause-may
hear-requires-clause-may g c = c.requires.may _ c.in-Input.is
