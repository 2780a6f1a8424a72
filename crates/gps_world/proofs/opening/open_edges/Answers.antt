use Rattle.std.proofs.Common.{rules, ap, length, sym, ◌∙◌}
use Rattle.gps_world.proofs.Asking.{asked_all, begins_at, edge_asks_at, edge_room_at, edge_stopped_at, no_more}
use Rattle.gps_world.proofs.Held.{all_held, edge_more, none_held, pairs_all, pairs_more}
use Rattle.gps_world.specs.OpenInOrder.{places_in, sources_in}
use Rattle.gps_world.proofs.Unread.{none_unread}
use Rattle.gps_world.proofs.opening.open_edges.Goals as goal

pub open_next-requires-after_bounds : goal.open_next-requires-after_bounds
open_next-requires-after_bounds g c κs within = edge_room_at c.in-Some.ensures.steps.0 c.places.invariant.so c.requires.few

pub returns-in-Err-clause-asked : goal.returns-in-Err-clause-asked
returns-in-Err-clause-asked g c = edge_stopped_at c.in-Some.ensures.steps.0 c.places.invariant.so c.in-Err.ensures.places c.in-Err.ensures.address

pub places-preserved : goal.places-preserved
places-preserved g c = record {
  so = edge_asks_at c.in-Some.ensures.steps.0 c.places.invariant.so c.in-Ok.ensures.places c.in-Ok.ensures.address c.in-Ok.ensures.faults_stay;
  tells = search rules;
  unread = c.in-Ok.ensures.unread c.places.invariant.unread;
  held = edge_more g.W.In.Source.content c.in-Some.ensures.steps.0 c.places.invariant.held c.in-Ok.ensures.others c.in-Ok.ensures.held;
  pairs = pairs_more g.W.In.Source.content _ _ _ _ _ _ _ c.in-Some.ensures.steps.0 c.places.invariant.pairs c.in-Ok.ensures.held;
  count = search rules;
}

pub returns-clause-pairs : goal.returns-clause-pairs
returns-clause-pairs g c = pairs_all _ _ _ (sym c.places.place-iterator.rest.ok.0 ∙ c.in-None.ensures.steps.0) c.places.invariant.pairs

pub returns-clause-asked : goal.returns-clause-asked
returns-clause-asked g c = asked_all c.places.invariant.so (ap (λ l. length (places_in l)) (no_more _ (sym c.places.place-iterator.rest.ok.0 ∙ c.in-None.ensures.steps.0)))

pub returns-clause-held : goal.returns-clause-held
returns-clause-held g c = all_held c.places.invariant.held (sym c.places.place-iterator.rest.ok.0 ∙ c.in-None.ensures.steps.0)

pub places-init : goal.places-init
places-init g c = record {
  so = begins_at (ap places_in c.into_iter-place-iterator.ensures.into_iter_gives.0);
  tells = search rules;
  unread = none_unread g.W.In.Source.content g.W.In.Source.faults g.W.In.Source.quiets (ap sources_in c.requires.empty);
  held = none_held c.into_iter-place-iterator.ensures.into_iter_gives.0 c.requires.empty;
  pairs = search rules;
  count = search rules;
}
