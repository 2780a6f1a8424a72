use Rattle.std.proofs.Common.{◌∙◌, [], inl, inr, ap, sym, length, arith, length-append, append-nil}
use Rattle.gps_world.specs.Asking.{Asking}
use Rattle.gps_world.specs.OpenInOrder.{places_in}
use Rattle.gps_world.proofs.Asking.{asked_both, asked_some, stopped_early}
use Rattle.gps_world.proofs.Held.{edges_held, inputs_held}
use Rattle.gps_world.proofs.opening.open.Goals as goal

pub returns-in-Err-clause-asked : goal.returns-in-Err-clause-asked
returns-in-Err-clause-asked g c = stopped_early c.args.inputs.items (places_in c.args.edges.items) (g.W.World.asked c.args.world.now) (g.W.World.asked c.open_inputs.new.world)
    c.requires.address c.in-Err.ensures.asked

pub returns-in-Ok-open_door-clause-held : goal.returns-in-Ok-open_door-clause-held
returns-in-Ok-open_door-clause-held g c = inputs_held g.W.In.Source.content (g.W.World.behind c.args.world.now) c.args.inputs.items c.args.edges.items _ c.in-Ok.ensures.held

pub returns-in-Ok-open_door-clause-held_edges : goal.returns-in-Ok-open_door-clause-held_edges
returns-in-Ok-open_door-clause-held_edges g c = edges_held g.W.In.Source.content (g.W.World.behind c.args.world.now) _ c.args.inputs.items c.args.edges.items _ c.in-Ok.ensures.others c.in-Ok-open_edges.ensures.held

pub open_edges-requires-clause-few : goal.open_edges-requires-clause-few
open_edges-requires-clause-few g c =
    omega (arith, ap length c.in-Ok.ensures.asked.0, length-append (g.W.World.asked c.args.world.now).places c.args.inputs.items, c.requires.few)

pub returns-in-Ok-open_door-clause-asked : goal.returns-in-Ok-open_door-clause-asked
returns-in-Ok-open_door-clause-asked g c =
    let asked = c.clock-clock.ensures.asked in (
      asked_both _ _ _ _ c.args.inputs.items (places_in c.args.edges.items) c.in-Ok.ensures.asked.0 c.in-Ok-open_edges.ensures.asked.0 (ap (λ (a : Asking). a.places) asked ∙ c.open_door.ensures.places),
      ap (λ (a : Asking). a.address) asked ∙ c.open_door.ensures.address,
    )

pub returns-in-Err-open_door-clause-asked : goal.returns-in-Err-open_door-clause-asked
returns-in-Err-open_door-clause-asked g c = (
  (
    [],
    sym (asked_both _ _ _ _ c.args.inputs.items (places_in c.args.edges.items) c.in-Ok.ensures.asked.0 c.in-Ok-open_edges.ensures.asked.0 c.open_door.ensures.places)
        ∙ sym (append-nil (g.W.World.asked c.open_door.new.world).places),
  ),
  inr (c.open_door.ensures.address, c.in-Err-open_door.ensures.stops),
)

pub returns-in-Err-open_edges-clause-asked : goal.returns-in-Err-open_edges-clause-asked
returns-in-Err-open_edges-clause-asked g c =
    let some = c.in-Err-open_edges.ensures.asked in (
      (some.0.0, asked_some _ _ _ c.args.inputs.items (places_in c.args.edges.items) some.0.0 c.in-Ok.ensures.asked.0 some.0.1),
      inl (some.1 ∙ c.in-Ok.ensures.asked.1 ∙ c.requires.address),
    )
