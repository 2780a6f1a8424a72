use Rattle.std.proofs.Common.{rules, sym, ◌∙◌}
use Rattle.gps_world.proofs.Asking.{asked_all, asks_at, begins_at, room_at, stopped_at}
use Rattle.gps_world.proofs.Held.{all_held, input_more, none_held, others_stay}
use Rattle.gps_world.proofs.Unread.{none_unread}
use Rattle.gps_world.proofs.opening.open_inputs.Goals as goal

pub open_one-requires-after_bounds : goal.open_one-requires-after_bounds
open_one-requires-after_bounds g c κs within = room_at c.in-Some.ensures.steps.0 c.places.invariant.so c.requires.few

pub returns-in-Err-clause-asked : goal.returns-in-Err-clause-asked
returns-in-Err-clause-asked g c = stopped_at c.in-Some.ensures.steps.0 c.places.invariant.so c.in-Err.ensures.places c.in-Err.ensures.address

pub places-preserved : goal.places-preserved
places-preserved g c = record {
  so = asks_at c.in-Some.ensures.steps.0 c.places.invariant.so c.in-Ok.ensures.places c.in-Ok.ensures.address c.in-Ok.ensures.faults_stay;
  tells = search rules;
  unread = c.in-Ok.ensures.unread c.places.invariant.unread;
  held = input_more g.W.In.Source.content c.in-Some.ensures.steps.0 c.places.invariant.held c.in-Ok.ensures.others c.in-Ok.ensures.held;
  count = search rules;
}

pub returns-clause-asked : goal.returns-clause-asked
returns-clause-asked g c = asked_all c.places.invariant.so (sym c.places.place-iterator.rest.ok.0 ∙ c.in-None.ensures.steps.0)

pub returns-clause-held : goal.returns-clause-held
returns-clause-held g c = all_held c.places.invariant.held (sym c.places.place-iterator.rest.ok.0 ∙ c.in-None.ensures.steps.0)

pub returns-clause-others : goal.returns-clause-others
returns-clause-others g c = others_stay c.places.invariant.held (sym c.places.place-iterator.rest.ok.0 ∙ c.in-None.ensures.steps.0)

pub places-init : goal.places-init
places-init g c = record {
  so = begins_at c.into_iter-place-iterator.ensures.into_iter_gives.0;
  tells = search rules;
  unread = none_unread g.W.In.Source.content g.W.In.Source.faults g.W.In.Source.quiets c.requires.empty;
  held = none_held c.into_iter-place-iterator.ensures.into_iter_gives.0 c.requires.empty;
  count = search rules;
}
