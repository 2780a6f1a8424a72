use Rattle.std.proofs.Common.{◌≡◌, ◌<◌, ℕ, List, [], subst, sym, ap, ◌∙◌, length}
use Rattle.hub_door.specs.declared.view.Entry.{Entry}
use Rattle.hub_door.specs.Admissions.{admissions}
use Rattle.hub_door.specs.Views.{noted}
use Rattle.hub_door.proofs.Agreeing.{agreed}
use Rattle.hub_door.proofs.keeper.Keeper.agree.Goals as goal

-- the note is the hub's list
one_list : (g : _) (c : goal.After-compare g) → c.door.inside.note.me.0.list ≡ c.self.inside.seat.me.0.list
one_list g c =
    agreed c.door.inside.note.me.0.list c.self.inside.seat.me.0.list c.compare.ensures.begins
    (sym c.door.invariant.4 ∙ (c.audit.ensures.whole (c.door.invariant.2 ∙ sym c.show.ensures) ∙ c.self.invariant.4))

pub returns-clause-same : goal.returns-clause-same
returns-clause-same g c = sym c.self.view_is ∙ (ap admissions (sym (one_list g c)) ∙ c.door.view_is)

pub invariant_of-door : goal.invariant_of-door
invariant_of-door g c =
    let seat = c.compare.ensures.seat in
    let i = c.door.invariant in
    let list = one_list g c in
    let now = ap (λ m. m.0.list) seat.1 in (
      seat.0 ∙ i.0,
      seat.1 ∙ ap (λ l. (noted l, [])) (sym now),
      c.audit.ensures.parts ∙ i.2,
      subst (λ (n : ℕ). 0 < n) (sym c.audit.ensures.parts) i.3,
      c.audit.ensures.amount ∙ (i.4 ∙ ap length (list ∙ sym now)),
    )

pub returns-clause-door : goal.returns-clause-door
returns-clause-door g c = ap (λ m. admissions m.0.list) c.compare.ensures.seat.1 ∙ (ap admissions (sym (one_list g c)) ∙ c.door.view_is)
