use Rattle.std.proofs.Common.{◌≡◌, ℕ, Bool, sym, ap, ◌∙◌, subst}
use Rattle.hub_door.specs.Admissions.{Admissions}
use Rattle.hub_promise.specs.DaemonHub.{DaemonHub}
use Rattle.hub_promise.specs.Parts.{AreAdmitted, HubView, Terms, devices_of, terms_of}
use Rattle.hub_promise.proofs.Calls.{hub_agrees}
use Rattle.gps_hub.proofs.hub.Hub.part.Goals as goal

pub returns-clause-agrees : goal.returns-clause-agrees
returns-clause-agrees g c =
    let h : HubView = record { book = c.self.inside.book; inlets = c.self.inside.inlets.items; ends = c.self.inside.ends.items; inputs = c.self.inside.inputs.items; door = c.self.inside.keeper; wait = c.self.inside.wait; is_shut = c.self.inside.is_shut } in
    let P : Bool × ℕ → Type 0 = λ t. DaemonHub (record { book = h.book; devices = devices_of h.inlets h.ends; inputs = h.inputs; done = t.0; wait = t.1 }) in
    subst P (λ i. ((c.agree.ensures.same i).done, (c.self.invariant.0.terms_are i).wait)) (hub_agrees g.J.HubNaming.terms h c.self.inside.lasts.items c.self.invariant.0)

pub returns-clause-count : goal.returns-clause-count
returns-clause-count g c = c.self.invariant.0.ends_count ∙ sym c.self.invariant.0.count

pub returns-clause-terms : goal.returns-clause-terms
returns-clause-terms g c =
    let P : ℕ → Type 0 = λ n. terms_of c.self.inside.book c.self.inside.inlets.items n ≡ g.J.HubNaming.terms in
    subst P (ap (λ (t : Terms). t.wait) c.self.invariant.0.terms_are) c.self.invariant.0.terms_are

pub returns-clause-sessions : goal.returns-clause-sessions
returns-clause-sessions g c =
    let P : Admissions → Type 0 = λ a. AreAdmitted a.links c.self.inside.book.sessions c.self.inside.inputs.items in
    subst P c.agree.ensures.same c.self.invariant.0.admitted

pub returns-clause-holds : goal.returns-clause-holds
returns-clause-holds g c = c.self.invariant.0.holds

pub returns-clause-same : goal.returns-clause-same
returns-clause-same g c = (ap (λ (v : HubView). v.book) c.self.view_is, ap (λ (v : HubView). v.ends) c.self.view_is)
