use Rattle.std.proofs.Common.{set, refl, sym, ap, ◌∙◌, subst, arith}
use Rattle.gps_lane.specs.Ends.{Taking}
use Rattle.hub_door.specs.Admissions.{Admissions}
use Rattle.gps_lane.specs.declared.piece.Piece.{Piece}
use Rattle.hub_promise.specs.Keeping.{HubKeeps}
use Rattle.hub_promise.specs.Parts.{AreAdmitted, HubView}
use Rattle.hub_promise.proofs.Settling.{closed_one, hub_settled, input_named, input_there, session_there}
use Rattle.gps_hub.specs.Pumping.{KeepsOtherInputs}
use Rattle.gps_hub.proofs.Pumps.{inputs_stay, other_inputs}
use Rattle.gps_hub.proofs.hub.Hub.settle_input.Goals as goal

pub index_mut-requires : goal.index_mut-requires
index_mut-requires g c =
    let P : Admissions → Type 0 = λ a. AreAdmitted a.links c.self.inside.book.sessions c.self.inside.inputs.items in
    let known = subst P c.agree.ensures.same c.self.invariant.0.admitted in
    let lt = input_there c.args.door.now.links c.self.inside.book.sessions c.self.inside.inputs.items known c.args.s c.requires.there in
    let size = c.self.inside.inputs.ok in
    omega arith

pub empty_and_show-requires-clause-one_lane : goal.empty_and_show-requires-clause-one_lane
empty_and_show-requires-clause-one_lane g c =
    let P : Admissions → Type 0 = λ a. AreAdmitted a.links c.self.inside.book.sessions c.self.inside.inputs.items in
    let known = subst P c.agree.ensures.same c.self.invariant.0.admitted in
    ap (λ (x : Taking Piece). x.lane) c.index_mut.ensures.value
    ∙ input_named c.args.door.now.links c.self.inside.book.sessions c.self.inside.inputs.items known c.args.s c.requires.there c.args.pieces.now.lane c.requires.input c.index_mut.result.now

pub invariant_of-self : goal.invariant_of-self
invariant_of-self g c =
    let h : HubView = record { book = c.self.inside.book; inlets = c.self.inside.inlets.items; ends = c.self.inside.ends.items; inputs = c.self.inside.inputs.items; door = c.self.inside.keeper; wait = c.self.inside.wait; is_shut = c.self.inside.is_shut } in
    let P : Admissions → Type 0 = λ a. HubKeeps g.J.HubNaming.terms (record h { inputs = set h.inputs c.args.s c.empty_and_show.new.input; door = a }) c.self.inside.lasts.items in
    let A : Admissions → Type 0 = λ a. AreAdmitted a.links h.book.sessions h.inputs in
    let there = session_there c.args.door.now.links h.book.sessions h.inputs (subst A c.agree.ensures.same c.self.invariant.0.admitted) c.args.s c.requires.there in (
      subst P (sym c.agree.ensures.keeper)
          (hub_settled g.J.HubNaming.terms h c.self.inside.lasts.items c.args.s c.index_mut.result.now c.empty_and_show.new.input c.self.invariant.0 there
          (closed_one c.self.inside.book.sessions c.args.s c.closing.result there c.closing.ensures c.if-is_none.ensures)
          (sym c.index_mut.ensures.value) c.empty_and_show.ensures.input c.empty_and_show.ensures.heard),
      c.self.invariant.1 ∙ sym (ap (λ (a : Admissions). a.done) c.agree.ensures.keeper),
    )

pub returns-clause-others : goal.returns-clause-others
returns-clause-others g c =
    let h : HubView = record { book = c.self.inside.book; inlets = c.self.inside.inlets.items; ends = c.self.inside.ends.items; inputs = c.self.inside.inputs.items; door = c.self.inside.keeper; wait = c.self.inside.wait; is_shut = c.self.inside.is_shut } in
    let A : Admissions → Type 0 = λ a. AreAdmitted a.links h.book.sessions h.inputs in
    let known = subst A c.agree.ensures.same c.self.invariant.0.admitted in
    let P : HubView × Admissions → Type 0 = λ t. KeepsOtherInputs c.args.s t.0 (record h { inputs = set h.inputs c.args.s c.empty_and_show.new.input; door = t.1 }) in
    subst P (λ i. (c.self.view_is i, sym c.agree.ensures.keeper i))
    (other_inputs h c.args.s h.book c.index_mut.result.now c.empty_and_show.new.input
    (input_there c.args.door.now.links h.book.sessions h.inputs known c.args.s c.requires.there)
    (session_there c.args.door.now.links h.book.sessions h.inputs known c.args.s c.requires.there)
    (sym c.index_mut.ensures.value))

pub returns-then-is_none-clause-others : goal.returns-then-is_none-clause-others
returns-then-is_none-clause-others g c = inputs_stay _ _ _ refl
