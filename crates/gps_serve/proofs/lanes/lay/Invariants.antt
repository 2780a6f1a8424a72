use Rattle.std.proofs.Common.{◌≡◌, ◌≤◌, ◌+◌, ◌++◌, length}
use Rattle.std.specs.List.{AllZip}
use Rattle.std.specs.Vec.{vec_len, vec_capacity}
use Rattle.std.specs.Vec.Iter.{into_iter_items}
use Rattle.gps_world.specs.OpenInOrder.{AreUnread, sources_in}
use Rattle.serve_end.specs.Runs.{source_facts}
use Rattle.gps_serve.specs.Starts.{IsFreshDevice, edges_at, sources_at}
use Rattle.gps_serve.proofs.lanes.lay.Given as goal

abbrev pub invariant-devices : goal.invariant-devices
invariant-devices g l = record {
  inputs : AreUnread g.S.Source.content g.S.Source.faults g.S.Source.quiets (into_iter_items l.source-iterator);
  edges : AreUnread g.S.Source.content g.S.Source.faults g.S.Source.quiets (sources_in (into_iter_items l.edges));
  sources : sources_at l.starts.items ++ into_iter_items l.source-iterator ≡ l.fn.inputs.items;
  edge_sources : edges_at l.starts.items ++ into_iter_items l.edges ≡ l.fn.edges.items;
  left : length (into_iter_items l.edges) ≡ length (into_iter_items l.source-iterator);
  fresh : AllZip (IsFreshDevice (source_facts g.S.Source)) l.starts.items l.inlets.items;
  starts_room : vec_len l.starts + length (into_iter_items l.source-iterator) ≤ vec_capacity l.starts;
  inlets_room : vec_len l.inlets + length (into_iter_items l.source-iterator) ≤ vec_capacity l.inlets;
  count : length l.inlets.items + length (into_iter_items l.source-iterator) ≡ length l.fn.inputs.items;
}
