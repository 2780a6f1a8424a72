use Rattle.std.proofs.Common.{◌≡◌, ◌+◌, length}
use Rattle.std.specs.Vec.Iter.{into_iter_items}
use Rattle.gps_world.specs.OpenInOrder.{AreUnread, IsAsking, IsOpeningInputs, TellsAsBefore, world_faults}
use Rattle.gps_world.proofs.opening.open_inputs.Given as goal

abbrev pub invariant-places : goal.invariant-places
invariant-places g l = record {
  so : IsAsking l.fn.places.items (into_iter_items l.place-iterator) (g.W.World.asked l.initial.world) (g.W.World.asked l.world)
      (world_faults (g.W.World.input_faults l.initial.world) (g.W.World.listen_faults l.initial.world))
      (world_faults (g.W.World.input_faults l.world) (g.W.World.listen_faults l.world));
  tells : TellsAsBefore (g.W.World.links l.initial.world) (g.W.World.links l.world) (g.W.World.stamps l.initial.world) (g.W.World.stamps l.world);
  unread : AreUnread g.W.In.Source.content g.W.In.Source.faults g.W.In.Source.quiets l.opened.items;
  held : IsOpeningInputs (g.W.World.behind l.initial.world) (g.W.World.behind l.world) g.W.In.Source.content l.fn.places.items (into_iter_items l.place-iterator) l.opened.items;
  count : length l.opened.items + length (into_iter_items l.place-iterator) ≡ length l.fn.places.items;
}
