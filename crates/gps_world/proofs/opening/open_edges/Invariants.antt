use Rattle.std.proofs.Common.{◌≡◌, ◌+◌, ◌++◌, is_some, length, map}
use Rattle.std.specs.Vec.Iter.{into_iter_items}
use Rattle.gps_world.specs.OpenInOrder.{AreUnread, IsAsking, IsOpeningEdges, TellsAsBefore, places_in, sources_in, world_faults}
use Rattle.gps_world.proofs.opening.open_edges.Given as goal

abbrev pub invariant-places : goal.invariant-places
invariant-places g l = record {
  so : IsAsking (places_in l.fn.places.items) (places_in (into_iter_items l.place-iterator)) (g.W.World.asked l.initial.world) (g.W.World.asked l.world)
      (world_faults (g.W.World.input_faults l.initial.world) (g.W.World.listen_faults l.initial.world))
      (world_faults (g.W.World.input_faults l.world) (g.W.World.listen_faults l.world));
  tells : TellsAsBefore (g.W.World.links l.initial.world) (g.W.World.links l.world) (g.W.World.stamps l.initial.world) (g.W.World.stamps l.world);
  unread : AreUnread g.W.In.Source.content g.W.In.Source.faults g.W.In.Source.quiets (sources_in l.opened.items);
  held : IsOpeningEdges (g.W.World.behind l.initial.world) (g.W.World.behind l.world) g.W.In.Source.content l.fn.places.items (into_iter_items l.place-iterator) l.opened.items;
  pairs : map is_some l.opened.items ++ map is_some (into_iter_items l.place-iterator) ≡ map is_some l.fn.places.items;
  count : length l.opened.items + length (into_iter_items l.place-iterator) ≡ length l.fn.places.items;
}
