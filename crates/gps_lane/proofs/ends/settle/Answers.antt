use Rattle.std.proofs.Common.{◌≡◌, sym, ap, ◌∙◌, subst}
use Rattle.std.specs.Prelude.{IfSome}
use Rattle.std.specs.Arc.{arc_value}
use Rattle.crossbeam_queue.specs.Passes.{IsPassOf, ruled_capacity}
use Rattle.gps_lane.specs.Bonds.{bond_by}
use Rattle.gps_lane.proofs.Meeting.{same_ids, still_there}
use Rattle.gps_lane.proofs.ends.settle.Goals as goal

pub next-item-requires-clause-rx : goal.next-item-requires-clause-rx
next-item-requires-clause-rx g c =
    let tx = c.tx.inside in
    let rx = c.rx.inside in
    let same : bond_by tx.queue tx.pass.table_id tx.pass.me.0.client.put.items ≡ bond_by rx.queue rx.pass.table_id rx.pass.me.0.client.got.items =
    sym (ap (λ m. m.0.put) c.tx.invariant.4.1) ∙ (c.meet.ensures.same ∙ ap (λ m. m.0.got) c.rx.invariant.2.1) in
    let mine = subst (λ o. IfSome o (λ q. IsPassOf (arc_value q) tx.pass × (ruled_capacity (arc_value q) ≡ tx.cap))) c.in-Some.is c.tx.invariant.3 in
    let theirs = still_there (λ q. IsPassOf (arc_value q) rx.pass) tx.queue rx.queue c.in-Some.queue _ _ _ _ c.in-Some.is same c.rx.invariant.1 in (
      same_ids tx.queue rx.queue _ _ _ _ same ∙ (mine.0.0 ∙ ap (λ q. q.table.shared.table_id) (sym c.deref.ensures)),
      theirs.1.1,
    )
