use Rattle.std.proofs.Common.{inl, inr, sym, ap, ◌∙◌, subst}
use Rattle.book_sessions.specs.Roster.{IsOpenAt}
use Rattle.hub_door.specs.Admissions.{Admissions}
use Rattle.report_book.specs.BookView.{BookView}
use Rattle.hub_promise.specs.Keeping.{HubKeeps}
use Rattle.hub_promise.specs.Parts.{AreAdmitted, HubView}
use Rattle.hub_promise.proofs.Going.{open_at}
use Rattle.hub_promise.proofs.Settling.{outlet_named, session_there}
use Rattle.gps_hub.specs.Emptied.{GotAll}
use Rattle.gps_hub.proofs.Pumps.{none_so}
use Rattle.gps_hub.proofs.hub.Hub.settle_outlet.Goals as goal

pub next_item-requires-clause-there : goal.next_item-requires-clause-there
next_item-requires-clause-there g c =
    let P : Admissions → Type 0 = λ a. AreAdmitted a.links c.self.inside.book.sessions c.self.inside.inputs.items in
    let known = subst P c.agree.ensures.same c.self.invariant.0.admitted in
    session_there c.args.door.now.links c.self.inside.book.sessions c.self.inside.inputs.items known c.args.s c.requires.there

pub next_item-requires-clause-outlet : goal.next_item-requires-clause-outlet
next_item-requires-clause-outlet g c =
    let P : Admissions → Type 0 = λ a. AreAdmitted a.links c.self.inside.book.sessions c.self.inside.inputs.items in
    let known = subst P c.agree.ensures.same c.self.invariant.0.admitted in
    outlet_named c.args.door.now.links c.self.inside.book.sessions c.self.inside.inputs.items known c.args.s c.requires.there c.args.items.now.lane c.requires.outlet

pub invariant_of-self-in-None : goal.invariant_of-self-in-None
invariant_of-self-in-None g c =
    let h : HubView = record { book = c.self.inside.book; inlets = c.self.inside.inlets.items; ends = c.self.inside.ends.items; inputs = c.self.inside.inputs.items; door = c.self.inside.keeper; wait = c.self.inside.wait; is_shut = c.self.inside.is_shut } in
    let P : Admissions → Type 0 = λ a. HubKeeps g.J.HubNaming.terms (record h { door = a }) c.self.inside.lasts.items in (
      subst P (sym c.agree.ensures.keeper) c.self.invariant.0,
      c.self.invariant.1 ∙ sym (ap (λ (a : Admissions). a.done) c.agree.ensures.keeper),
    )

pub invariant_of-self : goal.invariant_of-self
invariant_of-self g c =
    let h : HubView = record { book = c.self.inside.book; inlets = c.self.inside.inlets.items; ends = c.self.inside.ends.items; inputs = c.self.inside.inputs.items; door = c.self.inside.keeper; wait = c.self.inside.wait; is_shut = c.self.inside.is_shut } in
    let P : BookView × Admissions → Type 0 = λ t. HubKeeps g.J.HubNaming.terms (record h { book = t.0; door = t.1 }) c.self.inside.lasts.items in (
      subst P (λ i. (sym c.next_item.ensures.book i, sym c.agree.ensures.keeper i)) c.self.invariant.0,
      c.self.invariant.1 ∙ sym (ap (λ (a : Admissions). a.done) c.agree.ensures.keeper),
    )

pub returns-in-None-clause-all : goal.returns-in-None-clause-all
returns-in-None-clause-all g c =
    let A : Admissions → Type 0 = λ a. AreAdmitted a.links c.self.inside.book.sessions c.self.inside.inputs.items in
    let there = session_there c.args.door.now.links c.self.inside.book.sessions c.self.inside.inputs.items (subst A c.agree.ensures.same c.self.invariant.0.admitted) c.args.s c.requires.there in
    let P : HubView → Type 0 = λ v. IsOpenAt c.args.s v.book.sessions in
    inl (subst P c.self.view_is (open_at c.self.inside.book.sessions c.args.s there (sym c.closing.ensures ∙ c.in-None.is)))

pub returns-in-Some-clause-all : goal.returns-in-Some-clause-all
returns-in-Some-clause-all g c =
    let P : BookView → Type 0 = λ b. GotAll c.args.s b c.next_item.new.items in
    none_so {P = GotAll c.args.s c.next_item.new.book c.next_item.new.items} c.next_item.result c.next_item.ensures.all (λ all. inr (subst P (c.next_item.ensures.book ∙ ap (λ (v : HubView). v.book) c.self.view_is) all))
