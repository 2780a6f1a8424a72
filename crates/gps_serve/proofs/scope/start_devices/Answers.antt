use Rattle.std.proofs.Common.{◌≡◌, length, refl, sym, ap, subst, ◌∙◌, arith}
use Rattle.std.specs.Vec.Iter.{into_iter_items}
use Rattle.serve_workers.proofs.Zips.{ran_begin, ran_end, ran_next}
use Rattle.gps_serve.proofs.Stamps.{count_next, none_counted, none_numbered, numbered_next}
use Rattle.stamp_shares.specs.Shares.{Roll}
use Rattle.std.proofs.lemmas.List.Elements.{All-head, All-tail}
use Rattle.gps_serve.specs.Starts.{AreTold, EachTold}
use Rattle.gps_serve.proofs.scope.start_devices.Goals as goal

pub start_readers-requires-clause-told : goal.start_readers-requires-clause-told
start_readers-requires-clause-told g c κs within =
    All-head (AreTold g.S.Source.content) _ _ (subst (EachTold g.S.Source.content) c.in-Some.ensures.steps.0 c.starts.invariant.told)

pub starts-preserved : goal.starts-preserved
starts-preserved g c = record {
  told = All-tail (AreTold g.S.Source.content) _ _ (subst (EachTold g.S.Source.content) c.in-Some.ensures.steps.0 c.starts.invariant.told);
  so_far = ran_next _ _ _ _ _ _ _ _ c.starts.invariant.so_far c.in-Some.ensures.steps.0 c.start_readers.ensures.started c.push_reserved.ensures.items;
  count = omega (arith, c.push_reserved.ensures.len, c.starts.invariant.count, ap length c.in-Some.ensures.steps.0);
  room = omega (arith, c.push_reserved.ensures.capacity, c.starts.invariant.room);
  numbered = numbered_next _ c.starts.roll.begun _ _ _ c.starts.invariant.numbered c.starts.invariant.begun
      (c.start_readers.ensures.share ∙ c.begin-share.ensures.share) c.push_reserved.ensures.items;
  begun = count_next _ c.starts.roll.begun _ _ _ _ c.starts.invariant.begun (ap (λ (r : Roll). r.begun) c.begin-share.ensures.roll) c.push_reserved.ensures.items;
  ended = ap (λ (r : Roll). r.ended) c.begin-share.ensures.roll ∙ c.starts.invariant.ended;
}

pub starts-init : goal.starts-init
starts-init g c =
    let gives : into_iter_items c.into_iter-start-iterator.result ≡ c.args.starts.items = c.into_iter-start-iterator.ensures.into_iter_gives.0 in
    record {
      told = subst (EachTold g.S.Source.content) (sym gives) c.requires.told;
      so_far = ran_begin _ _ _ _ gives c.requires.none;
      count = omega (arith, c.requires.empty, ap length gives, c.args.starts.ok.0);
      room = c.requires.enough;
      numbered = none_numbered _ _ c.requires.none;
      begun = none_counted _ _ c.requires.none;
      ended = refl;
    }

pub returns-clause-started : goal.returns-clause-started
returns-clause-started g c = ran_end _ _ _ _ c.starts.invariant.so_far (sym c.starts.start-iterator.rest.ok.0 ∙ c.in-None.ensures.steps.0)
