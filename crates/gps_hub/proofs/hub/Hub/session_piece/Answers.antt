use Rattle.std.proofs.Common.{◌≡◌, ◌<◌, ℕ, List, Option, Some, None, get_or, set, length, refl, sym, ap, ◌∙◌, subst, arith}
use Rattle.gps_lane.specs.Ends.{Taking}
use Rattle.hub_promise.specs.DaemonHub.{SessionFits}
use Rattle.hub_promise.specs.Keeping.{HubKeeps, Lasts}
use Rattle.hub_promise.specs.Parts.{HubView, InletsView, Terms, parts_of}
use Rattle.hub_promise.proofs.Going.{open_at, session_free}
use Rattle.hub_promise.proofs.Hubs.{hub_session}
use Rattle.hub_promise.proofs.Lists.{zip_length}
use Rattle.gps_hub.specs.Pumping.{IsClosedAt, KeepsOtherInputs, SessionPumped}
use Rattle.std.specs.Prelude.{option_and_then, slice_get}
use Rattle.book_sessions.specs.MemberView.{MemberView}
use Rattle.gps_hub.proofs.Pumps.{closed_there, inputs_stay, none_of, other_inputs, session_pumped}
use Rattle.gps_hub.proofs.hub.Hub.session_piece.Goals as goal
use Rattle.hub_promise.proofs.Allowing.{hub_may_hear}

module _ (g : _) (c : goal.After-index_mut g) where
  abbrev seen : HubView
  seen = record { book = c.self.inside.book; inlets = c.self.inside.inlets.items; ends = c.self.inside.ends.items; inputs = c.self.inside.inputs.items; door = c.self.inside.keeper; wait = c.self.inside.wait; is_shut = c.self.inside.is_shut }

  held : c.args.s < length c.self.inside.inputs.items
  held = subst (λ (v : HubView). c.args.s < length v.inputs) (sym c.self.view_is) c.requires

  within : c.args.s < length c.self.inside.book.sessions
  within =
      let lt = held in
      let k = c.self.invariant.0.over in
      let n = zip_length (SessionFits c.self.inside.book.names k.0 c.self.inside.book.log.log) c.self.inside.book.sessions c.self.inside.inputs.items k.1.hub.sessions in
      omega arith

  not_closed : option_and_then (λ (a : MemberView). a.session.closing) (slice_get c.self.inside.book.sessions c.args.s) ≡ None
  not_closed = sym c.closing.ensures ∙ none_of c.closing.result c.if-is_some.ensures

module _ (g : _) (c : goal.After-show g) where
  abbrev seen_after : HubView
  seen_after = record { book = c.self.inside.book; inlets = c.self.inside.inlets.items; ends = c.self.inside.ends.items; inputs = c.self.inside.inputs.items; door = c.self.inside.keeper; wait = c.self.inside.wait; is_shut = c.self.inside.is_shut }

  held_after : c.args.s < length c.self.inside.inputs.items
  held_after = subst (λ (v : HubView). c.args.s < length v.inputs) (sym c.self.view_is) c.requires

  within_after : c.args.s < length c.self.inside.book.sessions
  within_after =
      let lt = held_after in
      let k = c.self.invariant.0.over in
      let n = zip_length (SessionFits c.self.inside.book.names k.0 c.self.inside.book.log.log) c.self.inside.book.sessions c.self.inside.inputs.items k.1.hub.sessions in
      omega arith

  not_closed_after : option_and_then (λ (a : MemberView). a.session.closing) (slice_get c.self.inside.book.sessions c.args.s) ≡ None
  not_closed_after = sym c.closing.ensures ∙ none_of c.closing.result c.if-is_some.ensures

pub pump-pumped-requires-clause-runs : goal.pump-pumped-requires-clause-runs
pump-pumped-requires-clause-runs g c = session_free c.self.inside.book c.args.s (within g c) (not_closed g c)

pub pump-pumped-requires-clause-within : goal.pump-pumped-requires-clause-within
pump-pumped-requires-clause-within g c = within g c

pub pump-pumped-requires-clause-open_one : goal.pump-pumped-requires-clause-open_one
pump-pumped-requires-clause-open_one g c = open_at c.self.inside.book.sessions c.args.s (within g c) (not_closed g c)

pub pump-pumped-requires-clause-may : goal.pump-pumped-requires-clause-may
pump-pumped-requires-clause-may g c =
    hub_may_hear g.J.HubNaming.terms (seen g c) c.self.inside.lasts.items c.args.s c.index_mut.result.now c.self.invariant.0 (within g c) (sym c.index_mut.ensures.value)

pub invariant_of-self : goal.invariant_of-self
invariant_of-self g c =
    let new = c.pump-pumped.new in (
      hub_session g.J.HubNaming.terms (seen_after g c) c.self.inside.lasts.items c.args.s new.book c.index_mut.result.now new.input c.self.invariant.0 (within_after g c) (sym c.index_mut.ensures.value) c.show.ensures.holds c.pump-pumped.ensures.about c.pump-pumped.ensures.heard c.pump-pumped.ensures.step,
      c.self.invariant.1,
    )

pub returns-clause-pumped : goal.returns-clause-pumped
returns-clause-pumped g c =
    let new = c.pump-pumped.new in
    let h : HubView = seen_after g c in
    let P : HubView → Type 0 = λ v. SessionPumped c.pump-pumped.result c.args.s v (record h { book = new.book; inputs = set c.self.inside.inputs.items c.args.s new.input }) in
    subst P c.self.view_is
    (session_pumped h c.args.s new.book c.index_mut.result.now new.input (held_after g c) (within_after g c) (sym c.index_mut.ensures.value) c.pump-pumped.result (open_at c.self.inside.book.sessions c.args.s (within_after g c) (not_closed_after g c)) c.pump-pumped.ensures.answer c.pump-pumped.ensures.empty)

pub returns-clause-others : goal.returns-clause-others
returns-clause-others g c =
    let new = c.pump-pumped.new in
    let h : HubView = seen_after g c in
    let P : HubView → Type 0 = λ v. KeepsOtherInputs c.args.s v (record h { book = new.book; inputs = set c.self.inside.inputs.items c.args.s new.input }) in
    subst P c.self.view_is
    (other_inputs h c.args.s new.book c.index_mut.result.now new.input (held_after g c) (within_after g c) (sym c.index_mut.ensures.value))

pub returns-then-is_some-clause-pumped : goal.returns-then-is_some-clause-pumped
returns-then-is_some-clause-pumped g c =
    (subst (λ (v : HubView). IsClosedAt v c.args.s) c.self.view_is (closed_there c.self.inside.book.sessions c.args.s c.closing.result c.closing.ensures (sym c.if-is_some.ensures)), refl)

pub returns-then-is_some-clause-others : goal.returns-then-is_some-clause-others
returns-then-is_some-clause-others g c = inputs_stay _ _ _ refl
