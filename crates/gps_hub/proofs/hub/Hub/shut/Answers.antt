use Rattle.std.proofs.Common.{◌≡◌, refl, sym, subst}
use Rattle.report_book.specs.Moves.{ShutsAll}
use Rattle.hub_promise.specs.Parts.{HubView}
use Rattle.hub_promise.proofs.Shutting.{all_stopped, hub_shut}
use Rattle.gps_hub.proofs.hub.Hub.shut.Goals as goal

pub invariant_of-self : goal.invariant_of-self
invariant_of-self g c =
    let h : HubView = record { book = c.self.inside.book; inlets = c.self.inside.inlets.items; ends = c.self.inside.ends.items; inputs = c.self.inside.inputs.items; door = c.self.inside.keeper; wait = c.self.inside.wait; is_shut = c.self.inside.is_shut } in
    (hub_shut g.J.HubNaming.terms h c.self.inside.lasts.items c.shut.new.self c.self.invariant.0 c.show.ensures.holds (sym c.if-not-all_ended.ensures) c.shut.ensures, c.self.invariant.1)

pub returns-clause-shuts : goal.returns-clause-shuts
returns-clause-shuts g c = λ _.
    let P : HubView → Type 0 = λ v. ShutsAll v.book c.shut.new.self in
    subst P c.self.view_is c.shut.ensures

pub returns-clause-closed : goal.returns-clause-closed
returns-clause-closed g c = λ _.
    let h : HubView = record { book = c.self.inside.book; inlets = c.self.inside.inlets.items; ends = c.self.inside.ends.items; inputs = c.self.inside.inputs.items; door = c.self.inside.keeper; wait = c.self.inside.wait; is_shut = c.self.inside.is_shut } in
    (hub_shut g.J.HubNaming.terms h c.self.inside.lasts.items c.shut.new.self c.self.invariant.0 c.show.ensures.holds (sym c.if-not-all_ended.ensures) c.shut.ensures).closed refl

pub returns-clause-all : goal.returns-clause-all
returns-clause-all g c = λ _.
    let h : HubView = record { book = c.self.inside.book; inlets = c.self.inside.inlets.items; ends = c.self.inside.ends.items; inputs = c.self.inside.inputs.items; door = c.self.inside.keeper; wait = c.self.inside.wait; is_shut = c.self.inside.is_shut } in
    all_stopped g.J.HubNaming.terms h c.self.inside.lasts.items c.self.invariant.0 (sym c.if-not-all_ended.ensures)
