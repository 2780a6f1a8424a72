use Rattle.std.proofs.Common.{◌≡◌, ◌<◌, ◌+◌, ℕ, List, [], ◌∷◌, ◌++◌, subst, sym, ap, ◌∙◌, length, length-append, arith}
use Rattle.hub_door.specs.declared.view.Entry.{Entry}
use Rattle.hub_door.specs.Views.{noted, keeper}
use Rattle.hub_door.specs.Admissions.{admissions}
use Rattle.hub_door.proofs.Agreeing.{agreed}
use Rattle.hub_door.proofs.keeper.Keeper.enter.Goals as goal

pub invariant_of-door : goal.invariant_of-door
invariant_of-door g c =
    let renewed = c.renew.ensures.seat in
    let i = c.door.invariant in
    let now = ap (λ m. m.0.list) renewed.1 in
    let added = ap (λ m. m.0.list) c.add.ensures.1 in
    let before = ap (λ m. m.0.list) c.compare.ensures.hub.1 in
    let list : c.renew.new.seat.me.0.list ≡ c.self.inside.seat.me.0.list ++ g.E.Entering.entry ∷ [] = now ∙ (added ∙ ap (λ l. l ++ g.E.Entering.entry ∷ []) before) in
    let audit : c.door.inside.share.amount ≡ c.self.inside.ledger.total = c.audit.ensures.whole (i.2 ∙ sym c.show.ensures) in
    let longer = ap length list in
    let more = length-append c.self.inside.seat.me.0.list (g.E.Entering.entry ∷ []) in
    let total = c.self.invariant.4 in
    let kept = c.audit.ensures.amount in
    let amount = c.add-2.ensures.amount in
    let parts = c.add-2.ensures.parts ∙ c.audit.ensures.parts in (
      renewed.0 ∙ (c.add.ensures.0 ∙ (c.compare.ensures.hub.0 ∙ c.self.invariant.2)),
      renewed.1 ∙ ap (λ l. (noted l, [])) (sym now),
      parts ∙ i.2,
      subst (λ (n : ℕ). 0 < n) (sym parts) i.3,
      omega arith,
    )

pub returns-clause-same : goal.returns-clause-same
returns-clause-same g c =
    let audit : c.door.inside.share.amount ≡ c.self.inside.ledger.total = c.audit.ensures.whole (c.door.invariant.2 ∙ sym c.show.ensures) in
    let list = agreed c.door.inside.note.me.0.list c.self.inside.seat.me.0.list c.compare.ensures.begins (sym c.door.invariant.4 ∙ (audit ∙ c.self.invariant.4)) in
    sym c.self.view_is ∙ (ap admissions (sym list) ∙ c.door.view_is)
