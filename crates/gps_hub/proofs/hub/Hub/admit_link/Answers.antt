use Rattle.std.proofs.Common.{◌≡◌, List, [], ◌∷◌, ◌++◌, length, sym, ap, ◌∙◌, subst}
use Rattle.gps_lane.specs.Ends.{Putting, Taking}
use Rattle.hub_door.specs.Admissions.{Admissions, admitting, link_of}
use Rattle.report_book.specs.BookView.{BookView}
use Rattle.report_book.specs.Refusals.{crowd_fault}
use Rattle.gps_lane.specs.declared.piece.Piece.{Piece}
use Rattle.hub_promise.specs.Keeping.{HubKeeps}
use Rattle.hub_promise.specs.Parts.{HubView}
use Rattle.gps_hub.specs.Admitting.{AdmitsAs, IsCrowded, RefusesLink}
use Rattle.gps_hub.proofs.Opening.{crowded, fault_of, numbered, not_refused, opened_keeps, refuses_again, shut_ended}
use Rattle.gps_hub.proofs.hub.Hub.admit_link.Goals as goal
use Rattle.hub_promise.proofs.Allowing.{hub_may_open}
use Rattle.hub_promise.specs.Giving.{MayOpen}
use Rattle.report_book.specs.Moves.{Admits}
use Rattle.session_core.specs.Naming.{of_table}
use Rattle.session_core.specs.declared.subject.Subject.{Subject}

pub open-requires-clause-ended : goal.open-requires-clause-ended
open-requires-clause-ended g c = λ is.
    let h : HubView = record { book = c.self.inside.book; inlets = c.self.inside.inlets.items; ends = c.self.inside.ends.items; inputs = c.self.inside.inputs.items; door = c.self.inside.keeper; wait = c.self.inside.wait; is_shut = c.self.inside.is_shut } in
    shut_ended g.J.HubNaming.terms h c.self.inside.lasts.items c.self.invariant.0 is

pub open-requires-clause-may : goal.open-requires-clause-may
open-requires-clause-may g c =
    let h : HubView = record { book = c.self.inside.book; inlets = c.self.inside.inlets.items; ends = c.self.inside.ends.items; inputs = c.self.inside.inputs.items; door = c.self.inside.keeper; wait = c.self.inside.wait; is_shut = c.self.inside.is_shut } in
    subst (MayOpen c.args.outlet.lane) (sym c.requires.about) (hub_may_open g.J.HubNaming.terms h c.self.inside.lasts.items c.args.input.about.source c.args.outlet.lane c.self.invariant.0)

pub push_reserved-requires : goal.push_reserved-requires
push_reserved-requires g c = c.in-Ok.ensures.room

pub invariant_of-self-in-Ok-open : goal.invariant_of-self-in-Ok-open
invariant_of-self-in-Ok-open g c =
    let h : HubView = record { book = c.self.inside.book; inlets = c.self.inside.inlets.items; ends = c.self.inside.ends.items; inputs = c.self.inside.inputs.items; door = c.self.inside.keeper; wait = c.self.inside.wait; is_shut = c.self.inside.is_shut } in
    let admits = c.in-Ok-open.ensures.admits in
    let inputs = c.push_reserved.ensures.items ∙ ap (λ l. l ++ c.args.input ∷ []) c.take_room.ensures.items in
    let door : c.admit.new.self ≡ admitting (link_of c.args.outlet.lane c.args.outlet.cap c.args.input.lane) c.self.inside.keeper =
    c.admit.ensures.keeper ∙ (λ i. admitting (link_of (c.of.ensures i).lane (c.of.ensures i).cap (c.of-2.ensures i).lane) c.self.inside.keeper) in
    let P : List (Taking Piece) × Admissions → Type 0 = λ t. HubKeeps g.J.HubNaming.terms (record h { book = c.open.new.book; inputs = t.0; door = t.1 }) c.self.inside.lasts.items in (
      subst P (λ i. (sym inputs i, sym door i))
          (opened_keeps g.J.HubNaming.terms h c.self.inside.lasts.items admits.0 c.open.new.book c.args.outlet.lane c.args.outlet.cap c.args.input c.self.invariant.0 admits.1 c.show.ensures.holds (subst (λ (about : Subject). Admits (of_table c.args.outlet.lane about) c.args.outlet.cap c.self.inside.book admits.0) c.requires.about admits.2) admits.3 c.requires.input),
      c.self.invariant.1 ∙ sym (ap (λ (a : Admissions). a.done) door),
    )

pub returns-in-Ok-open-clause-number : goal.returns-in-Ok-open-clause-number
returns-in-Ok-open-clause-number g c =
    c.in-Ok-open.ensures.number ∙ numbered c.self.inside.keeper.links c.self.inside.book.sessions c.self.inside.inputs.items c.self.invariant.0.admitted
    ∙ ap (λ (a : Admissions). length a.links) c.admit.ensures.same

pub returns-in-Ok-open-clause-refusal : goal.returns-in-Ok-open-clause-refusal
returns-in-Ok-open-clause-refusal g c =
    not_refused _ _ _ (crowd_fault c.self.inside.book) (crowd_fault c.args.self.now.book) c.in-Ok-open.s (ap (λ (v : HubView). crowd_fault v.book) c.self.view_is) c.in-Ok-open.ensures.refusal

pub returns-in-Err-clause-refusal : goal.returns-in-Err-clause-refusal
returns-in-Err-clause-refusal g c =
    refuses_again _ _ _ (crowd_fault c.self.inside.book) (crowd_fault c.args.self.now.book) c.in-Err.outlet c.args.input c.in-Err.fault (ap (λ (v : HubView). crowd_fault v.book) c.self.view_is) c.in-Err.ensures.refusal

pub returns-in_default-clause-crowded : goal.returns-in_default-clause-crowded
returns-in_default-clause-crowded g c =
    subst (λ (v : HubView). IsCrowded c.refusal_of-fault.result v.book) c.self.view_is
    (subst (λ fault. IsCrowded fault c.self.inside.book) (sym c.refusal_of-fault.ensures) (crowded c.self.inside.book))

pub returns-in-Err-clause-crowded : goal.returns-in-Err-clause-crowded
returns-in-Err-clause-crowded g c =
    subst (λ (v : HubView). IsCrowded c.in-Err.fault v.book) c.self.view_is
    (subst (λ fault. IsCrowded fault c.self.inside.book)
    (sym (fault_of _ _ (crowd_fault c.self.inside.book) c.in-Err.outlet c.in-Err.fault c.in-Err.ensures.refusal)) (crowded c.self.inside.book))

pub returns-in-Ok-open-clause-admits : goal.returns-in-Ok-open-clause-admits
returns-in-Ok-open-clause-admits g c =
    let admits = c.in-Ok-open.ensures.admits in
    let P : HubView → Type 0 = λ v. AdmitsAs (link_of c.args.outlet.lane c.args.outlet.cap c.args.input.lane) v.is_shut v.book c.open.new.book in
    subst P c.self.view_is (c.args.outlet.about, admits.0, admits.2, admits.3)
