use Rattle.std.proofs.Common.{◌≡◌}
use Rattle.serve_door.specs.Released.{GotMore}
use Rattle.serve_door.proofs.release.drop_items.Given as goal

abbrev pub invariant-items : goal.invariant-items
invariant-items g l = record {
  seat : l.seat ≡ l.initial.seat;
  items : GotMore l.initial.items l.items;
}
