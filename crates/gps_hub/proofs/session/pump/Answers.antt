use Rattle.std.proofs.Common.{◌≡◌, sym, ap, ◌∙◌, subst, append-nil}
use Rattle.gps_lane.specs.Ends.{Taking}
use Rattle.gps_lane.specs.declared.piece.Piece.{Piece}
use Rattle.hub_promise.specs.Steps.{SessionStep, with_got}
use Rattle.hub_promise.proofs.Sessions.{still_step}
use Rattle.gps_hub.proofs.Pumps.{looked_at}
use Rattle.gps_hub.proofs.session.pump.Goals as goal
use Rattle.gps_lane.specs.Held.{AreDue}
use Rattle.gps_lane.proofs.Held.{begun_held}

pub returns-in-None-clause-step : goal.returns-in-None-clause-step
returns-in-None-clause-step g c =
    let P : Taking Piece → Type 0 = λ y. SessionStep c.args.s c.args.book.now c.args.book.now c.args.input.now y in
    let same : c.pop.new.self ≡ c.args.input.now = c.in-None.ensures ∙ (λ i. record { lane = c.args.input.now.lane; about = c.args.input.now.about; got = append-nil c.args.input.now.got i }) in
    subst P (sym same) (still_step c.args.book.now c.args.s c.args.input.now c.requires.within)

pub returns-in-Some-clause-answer : goal.returns-in-Some-clause-answer
returns-in-Some-clause-answer g c =
    looked_at c.take_input.result c.in-Some.piece c.args.input.now c.pop.new.self c.args.s c.args.book.now c.take_input.new.book c.in-Some.ensures c.take_input.ensures.answer

pub take_input-requires-clause-may : goal.take_input-requires-clause-may
take_input-requires-clause-may g c = λ bytes is.
    c.requires.may bytes
    (subst (λ (y : Taking Piece). AreDue y.about y.got) (c.in-Some.ensures ∙ ap (λ (p : Piece). with_got p c.args.input.now) is) (begun_held c.pop.new.self.about c.pop.new.self.got c.show_due.ensures))

pub returns-in-Some-clause-about : goal.returns-in-Some-clause-about
returns-in-Some-clause-about g c = ap (λ (y : Taking Piece). y.about) c.in-Some.ensures

pub returns-in-Some-clause-heard : goal.returns-in-Some-clause-heard
returns-in-Some-clause-heard g c = begun_held c.pop.new.self.about c.pop.new.self.got c.show_due.ensures

pub returns-in-None-clause-about : goal.returns-in-None-clause-about
returns-in-None-clause-about g c = ap (λ (y : Taking Piece). y.about) c.in-None.ensures

pub returns-in-None-clause-heard : goal.returns-in-None-clause-heard
returns-in-None-clause-heard g c = begun_held c.pop.new.self.about c.pop.new.self.got c.show_due-in-None.ensures
