use Rattle.std.proofs.Common.{◌≡◌, length, sym, ap, ◌∙◌, subst}
use Rattle.hub_door.specs.Admissions.{Admissions}
use Rattle.hub_promise.specs.Keeping.{HubKeeps}
use Rattle.hub_promise.specs.Parts.{HubView}
use Rattle.gps_hub.proofs.Opening.{hub_drop, numbered}
use Rattle.gps_hub.proofs.hub.Hub.drop_link.Goals as goal

pub invariant_of-self : goal.invariant_of-self
invariant_of-self g c =
    let h : HubView = record { book = c.self.inside.book; inlets = c.self.inside.inlets.items; ends = c.self.inside.ends.items; inputs = c.self.inside.inputs.items; door = c.self.inside.keeper; wait = c.self.inside.wait; is_shut = c.self.inside.is_shut } in
    let P : Admissions → Type 0 = λ a. HubKeeps g.J.HubNaming.terms (record h { door = a }) c.self.inside.lasts.items in (
      subst P (sym c.drop_link.ensures.keeper) (hub_drop g.J.HubNaming.terms h c.self.inside.lasts.items _ c.self.invariant.0),
      c.self.invariant.1 ∙ sym (ap (λ (a : Admissions). a.done) c.drop_link.ensures.keeper),
    )

pub returns-clause-opened : goal.returns-clause-opened
returns-clause-opened g c =
    subst (λ (v : HubView). length v.book.sessions ≡ length c.args.door.now.links) c.self.view_is
    (numbered c.self.inside.keeper.links c.self.inside.book.sessions c.self.inside.inputs.items c.self.invariant.0.admitted
    ∙ ap (λ (a : Admissions). length a.links) c.drop_link.ensures.same)
