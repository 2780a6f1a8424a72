use Rattle.std.proofs.Common.{◌≡◌, ◌<◌, ℕ, length, sym, ap, ◌∙◌, subst}
use Rattle.book_units.specs.Units.{segment_of}
use Rattle.hub_promise.specs.Parts.{HubView, Terms}
use Rattle.hub_promise.proofs.Calls.{hub_publish}
use Rattle.hub_promise.proofs.Hubs.{map_length}
use Rattle.gps_hub.proofs.hub.Hub.publish.Goals as goal

pub publish_unit-step-requires : goal.publish_unit-step-requires
publish_unit-step-requires g c =
    let P : ℕ → Type 0 = λ n. c.args.u < n in
    subst P (sym (ap (λ (t : Terms). length t.segments) c.self.invariant.0.terms_are) ∙ map_length segment_of c.self.inside.book.units) c.requires

pub invariant_of-self : goal.invariant_of-self
invariant_of-self g c =
    let P : ℕ → Type 0 = λ n. c.args.u < n in
    let lt = subst P (sym (ap (λ (t : Terms). length t.segments) c.self.invariant.0.terms_are) ∙ map_length segment_of c.self.inside.book.units) c.requires in
    let h : HubView = record { book = c.self.inside.book; inlets = c.self.inside.inlets.items; ends = c.self.inside.ends.items; inputs = c.self.inside.inputs.items; door = c.self.inside.keeper; wait = c.self.inside.wait; is_shut = c.self.inside.is_shut } in (
      hub_publish g.J.HubNaming.terms h c.self.inside.lasts.items c.args.u c.publish_unit-step.result c.publish_unit-step.new.book c.self.invariant.0 lt c.show.ensures.holds c.publish_unit-step.ensures,
      c.self.invariant.1,
    )
