use Rattle.std.proofs.Common.{rules, ◌∙◌, length, sym, ap, arith}
use Rattle.gps_serve.proofs.Starting.{edges_more, none_behind, sources_more}
use Rattle.serve_workers.proofs.Zips.{zip_grown}
use Rattle.gps_serve.proofs.lanes.lay.Goals as goal

pub next_edge-edge-requires-clause-some : goal.next_edge-edge-requires-clause-some
next_edge-edge-requires-clause-some g c = omega (arith, c.devices.invariant.left, ap length c.in-Some.ensures.steps.0)

pub devices-preserved : goal.devices-preserved
devices-preserved g c = record {
  inputs = search rules;
  edges = c.next_edge-edge.ensures.rest;
  sources = sources_more _ _ _ _ _ _ _ c.devices.invariant.sources c.in-Some.ensures.steps.0 c.in_ok-laid.ensures.source c.push_reserved.ensures.items;
  edge_sources = edges_more _ _ _ _ _ _ _ c.devices.invariant.edge_sources c.next_edge-edge.ensures.items c.in_ok-laid.ensures.edges c.push_reserved.ensures.items;
  left = omega (arith, c.devices.invariant.left, ap length c.next_edge-edge.ensures.items, ap length c.in-Some.ensures.steps.0);
  fresh = zip_grown _ _ _ _ _ _ _ c.devices.invariant.fresh c.in_ok-laid.ensures.fresh c.push_reserved.ensures.items c.push_reserved-in-devices.ensures.items;
  starts_room = search rules;
  inlets_room = search rules;
  count = search rules;
}

pub returns-clause-sources : goal.returns-clause-sources
returns-clause-sources g c = none_behind _ _ _ c.devices.invariant.sources (sym c.devices.source-iterator.rest.ok.0 ∙ c.in-None.ensures.steps.0)

pub returns-clause-edge_sources : goal.returns-clause-edge_sources
returns-clause-edge_sources g c =
    none_behind _ _ _ c.devices.invariant.edge_sources (c.devices.invariant.left ∙ sym c.devices.source-iterator.rest.ok.0 ∙ c.in-None.ensures.steps.0)
