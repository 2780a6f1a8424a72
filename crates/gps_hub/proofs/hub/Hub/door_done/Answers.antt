use Rattle.std.proofs.Common.{◌≡◌, true, sym, ap, ◌∙◌, subst}
use Rattle.hub_door.specs.Admissions.{Admissions}
use Rattle.hub_promise.specs.Keeping.{HubKeeps}
use Rattle.hub_promise.specs.Parts.{HubView}
use Rattle.hub_promise.proofs.Calls.{hub_done}
use Rattle.gps_hub.proofs.hub.Hub.door_done.Goals as goal

pub invariant_of-self : goal.invariant_of-self
invariant_of-self g c =
    let h : HubView = record { book = c.self.inside.book; inlets = c.self.inside.inlets.items; ends = c.self.inside.ends.items; inputs = c.self.inside.inputs.items; door = c.self.inside.keeper; wait = c.self.inside.wait; is_shut = c.self.inside.is_shut } in
    let P : Admissions → Type 0 = λ a. HubKeeps g.J.HubNaming.terms (record h { door = a }) c.self.inside.lasts.items in (
      subst P (sym c.finish.ensures.keeper) (hub_done g.J.HubNaming.terms h c.self.inside.lasts.items c.self.invariant.0),
      sym (ap (λ (a : Admissions). a.done) c.finish.ensures.keeper),
    )
