use Rattle.std.proofs.Common.{◌≡◌, ◌≤◌, ◌+◌, length}
use Rattle.std.specs.Vec.{vec_len, vec_capacity}
use Rattle.std.specs.Vec.Iter.{into_iter_items}
use Rattle.serve_workers.specs.Joining.{RanSoFar}
use Rattle.gps_serve.specs.Dealt.{AreNumbered}
use Rattle.gps_serve.specs.Starts.{EachTold}
use Rattle.gps_serve.specs.Works.{ReadersAre}
use Rattle.gps_serve.proofs.scope.start_devices.Given as goal

abbrev pub invariant-starts : goal.invariant-starts
invariant-starts g l = record {
  told : EachTold g.S.Source.content (into_iter_items l.start-iterator);
  so_far : RanSoFar ReadersAre l.fn.starts.items (into_iter_items l.start-iterator) l.works.items;
  count : vec_len l.works + length (into_iter_items l.start-iterator) ≡ vec_len l.fn.starts;
  room : vec_len l.fn.starts ≤ vec_capacity l.works;
  numbered : AreNumbered l.initial.roll.begun l.works.items;
  begun : l.roll.begun ≡ l.initial.roll.begun + length l.works.items;
  ended : l.roll.ended ≡ l.initial.roll.ended;
}
