use Rattle.std.proofs.Common.{◌≡◌, ◌<◌, ℕ, List, ◌++◌, Option, Some, None, get_or, set, length, refl, sym, ap, ◌∙◌, subst, arith}
use Rattle.book_log.specs.Entries.{Entry}
use Rattle.hub_promise.specs.DaemonHub.{DeviceFits, MayGoOn, whole_log}
use Rattle.hub_promise.specs.declared.ends.DeviceEnd.{DeviceEnd}
use Rattle.hub_promise.specs.Keeping.{HubKeeps, Lasts, told_of}
use Rattle.hub_promise.specs.Parts.{HubView, InletsView, Terms, device_of, parts_of}
use Rattle.hub_promise.proofs.Going.{device_free, device_now}
use Rattle.hub_promise.proofs.Hubs.{hub_device, last_told}
use Rattle.gps_hub.specs.Pumping.{DeviceHasStopped, DevicePumped, KeepsOthers}
use Rattle.gps_hub.proofs.Pumps.{device_pumped, looked_names, match_none, other_devices, others_stay, running_is, stopped_there}
use Rattle.gps_hub.proofs.hub.Hub.device_piece.Goals as goal
use Rattle.hub_promise.proofs.Allowing.{hub_may_give}

-- the hub as its fields show it, before the device was looked at
module _ (g : _) (c : goal.After-index_mut-3 g) where
  abbrev seen : HubView
  seen = record { book = c.self.inside.book; inlets = c.self.inside.inlets.items; ends = c.self.inside.ends.items; inputs = c.self.inside.inputs.items; door = c.self.inside.keeper; wait = c.self.inside.wait; is_shut = c.self.inside.is_shut }

  within : c.args.d < length c.self.inside.book.names
  within = subst (λ (n : ℕ). c.args.d < n) (sym (ap (λ (t : Terms). length t.names) c.self.invariant.0.terms_are)) c.requires

  going : c.index_mut-3.result.now ≡ None
  going =
      running_is c.self.inside.ends.items c.from-at.result c.index.result.now c.index_mut-3.result.now
      (let at = c.from-at.ensures in let lt = within in let n = c.self.invariant.0.ends_count in omega arith)
      c.index.ensures c.index_mut-3.ensures.value c.if-is_some.ensures

  there : get_or c.self.inside.ends.items c.args.d c.index_mut-3.result.now ≡ c.index_mut-3.result.now
  there = subst (λ (n : ℕ). get_or c.self.inside.ends.items n c.index_mut-3.result.now ≡ c.index_mut-3.result.now) c.from-at.ensures (sym c.index_mut-3.ensures.value)

  may : MayGoOn (parts_of seen)
  may = subst (λ (v : HubView). MayGoOn (parts_of v)) (sym c.self.view_is) (match_none c.waiting.result _ _ c.waiting.ensures c.in_default.not-Some)

pub pump-pumped-requires-clause-runs : goal.pump-pumped-requires-clause-runs
pump-pumped-requires-clause-runs g c =
    device_free g.J.HubNaming.terms (seen g c) c.self.inside.lasts.items c.args.d c.index_mut-3.result.now c.self.invariant.0 (within g c) (there g c ∙ going g c)

pub pump-pumped-requires-clause-going : goal.pump-pumped-requires-clause-going
pump-pumped-requires-clause-going g c = going g c

pub pump-pumped-requires-clause-may : goal.pump-pumped-requires-clause-may
pump-pumped-requires-clause-may g c =
    let x = c.index_mut.result.now in
    hub_may_give g.J.HubNaming.terms (seen g c) c.self.inside.lasts.items c.args.d x c.index_mut-3.result.now c.self.invariant.0 (within g c)
    (subst (λ (n : ℕ). get_or c.self.inside.inlets.items n x ≡ x) c.from-at.ensures (sym c.index_mut.ensures.value))
    (there g c ∙ going g c)

-- and after
module _ (g : _) (c : goal.After-show g) where
  abbrev seen_after : HubView
  seen_after = record { book = c.self.inside.book; inlets = c.self.inside.inlets.items; ends = c.self.inside.ends.items; inputs = c.self.inside.inputs.items; door = c.self.inside.keeper; wait = c.self.inside.wait; is_shut = c.self.inside.is_shut }

  within_after : c.args.d < length c.self.inside.book.names
  within_after = subst (λ (n : ℕ). c.args.d < n) (sym (ap (λ (t : Terms). length t.names) c.self.invariant.0.terms_are)) c.requires

  going_after : c.index_mut-3.result.now ≡ None
  going_after =
      running_is c.self.inside.ends.items c.from-at.result c.index.result.now c.index_mut-3.result.now
      (let at = c.from-at.ensures in let lt = within_after in let n = c.self.invariant.0.ends_count in omega arith)
      c.index.ensures c.index_mut-3.ensures.value c.if-is_some.ensures

  there_after : get_or c.self.inside.ends.items c.args.d c.index_mut-3.result.now ≡ c.index_mut-3.result.now
  there_after = subst (λ (n : ℕ). get_or c.self.inside.ends.items n c.index_mut-3.result.now ≡ c.index_mut-3.result.now) c.from-at.ensures (sym c.index_mut-3.ensures.value)

  may_after : MayGoOn (parts_of seen_after)
  may_after = subst (λ (v : HubView). MayGoOn (parts_of v)) (sym c.self.view_is) (match_none c.waiting.result _ _ c.waiting.ensures c.in_default.not-Some)

pub invariant_of-self : goal.invariant_of-self
invariant_of-self g c =
    let x = c.index_mut.result.now in
    let l = c.index_mut-2.result.now in
    let e = c.index_mut-3.result.now in
    let new = c.pump-pumped.new in
    let P : ℕ → Type 0 = λ n. HubKeeps g.J.HubNaming.terms (record (seen_after g c) { book = new.book; inlets = set c.self.inside.inlets.items n new.inlets; ends = set c.self.inside.ends.items n new.end }) (set c.self.inside.lasts.items n new.lasts) in (
      subst P (sym c.from-at.ensures)
          (hub_device g.J.HubNaming.terms (seen_after g c) c.self.inside.lasts.items c.args.d new.book x new.inlets e new.end l new.lasts c.self.invariant.0 (within_after g c)
          (subst (λ (n : ℕ). get_or c.self.inside.inlets.items n x ≡ x) c.from-at.ensures (sym c.index_mut.ensures.value))
          (there_after g c)
          (subst (λ (n : ℕ). get_or c.self.inside.lasts.items n l ≡ l) c.from-at.ensures (sym c.index_mut-2.ensures.value))
          (going_after g c) (may_after g c) c.show.ensures.holds (looked_names c.pump-pumped.result c.args.d x new.inlets l new.end c.self.inside.book new.book c.pump-pumped.ensures.answer) c.pump-pumped.ensures.read c.pump-pumped.ensures.step),
      c.self.invariant.1,
    )

pub returns-clause-pumped : goal.returns-clause-pumped
returns-clause-pumped g c =
    let x = c.index_mut.result.now in
    let e = c.index_mut-3.result.now in
    let new = c.pump-pumped.new in
    let h : HubView = seen_after g c in
    let at = c.from-at.ensures in
    let lt = within_after g c in
    let n = c.self.invariant.0.count in
    let m = c.self.invariant.0.ends_count in
    let here = subst (λ (n : ℕ). get_or c.self.inside.inlets.items n x ≡ x) at (sym c.index_mut.ensures.value) in
    let l = c.index_mut-2.result.now in
    let now = subst (λ (n : ℕ). get_or c.self.inside.lasts.items n l ≡ l) at (sym c.index_mut-2.ensures.value) in
    let log : List Entry = whole_log c.self.invariant.0.over.0 c.self.inside.book in
    let told : l ≡ told_of x = last_told c.self.inside.inlets.items c.self.inside.lasts.items c.args.d x l (omega arith) here now c.self.invariant.0.told in
    let none = there_after g c ∙ going_after g c in
    let fits : DeviceFits log c.args.d (device_of x None) =
    subst (DeviceFits log c.args.d) (λ i. device_of (here i) (none i)) (device_now g.J.HubNaming.terms h c.self.inside.lasts.items c.args.d x e c.self.invariant.0 lt) in
    let P : HubView × ℕ → Type 0 = λ t. DevicePumped c.pump-pumped.result c.args.d t.0 (record h { book = new.book; inlets = set c.self.inside.inlets.items t.1 new.inlets; ends = set c.self.inside.ends.items t.1 new.end }) in
    subst P (λ i. (c.self.view_is i, sym at i))
    (device_pumped h c.args.d new.book x new.inlets e new.end (omega arith) (omega arith) here (there_after g c) c.pump-pumped.result log l told fits (may_after g c) (going_after g c) c.pump-pumped.ensures.answer c.pump-pumped.ensures.empty)

pub returns-clause-others : goal.returns-clause-others
returns-clause-others g c =
    let x = c.index_mut.result.now in
    let e = c.index_mut-3.result.now in
    let new = c.pump-pumped.new in
    let h : HubView = seen_after g c in
    let at = c.from-at.ensures in
    let lt = within_after g c in
    let n = c.self.invariant.0.count in
    let m = c.self.invariant.0.ends_count in
    let here = subst (λ (n : ℕ). get_or c.self.inside.inlets.items n x ≡ x) at (sym c.index_mut.ensures.value) in
    let P : HubView × ℕ → Type 0 = λ t. KeepsOthers c.args.d t.0 (record h { book = new.book; inlets = set c.self.inside.inlets.items t.1 new.inlets; ends = set c.self.inside.ends.items t.1 new.end }) in
    subst P (λ i. (c.self.view_is i, sym at i))
    (other_devices h c.args.d new.book x new.inlets e new.end (omega arith) (omega arith) here (there_after g c))

pub returns-then-is_some-clause-pumped : goal.returns-then-is_some-clause-pumped
returns-then-is_some-clause-pumped g c =
    let h : HubView = record { book = c.self.inside.book; inlets = c.self.inside.inlets.items; ends = c.self.inside.ends.items; inputs = c.self.inside.inputs.items; door = c.self.inside.keeper; wait = c.self.inside.wait; is_shut = c.self.inside.is_shut } in
    let lt = subst (λ (n : ℕ). c.args.d < n) (sym (ap (λ (t : Terms). length t.names) c.self.invariant.0.terms_are)) c.requires in
    let n = c.self.invariant.0.count in
    let m = c.self.invariant.0.ends_count in
    (subst (λ (v : HubView). DeviceHasStopped v c.args.d) c.self.view_is (stopped_there h c.args.d c.from-at.result c.index.result.now (omega arith) (omega arith) c.from-at.ensures c.index.ensures c.if-is_some.ensures), refl)

pub returns-then-is_some-clause-others : goal.returns-then-is_some-clause-others
returns-then-is_some-clause-others g c = others_stay _ _ _ refl

pub returns-in-Some-clause-others : goal.returns-in-Some-clause-others
returns-in-Some-clause-others g c = others_stay _ _ _ refl
