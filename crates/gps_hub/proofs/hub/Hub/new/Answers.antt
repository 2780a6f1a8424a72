use Rattle.std.proofs.Common.{◌≡◌, List, Option, None, [], false, replicate, length, map, sym, ap, ◌∙◌, subst, rules}
use Rattle.gps_lane.specs.Ends.{Taking}
use Rattle.hub_door.specs.Admissions.{Admissions}
use Rattle.gps_lane.specs.declared.piece.Piece.{Piece}
use Rattle.hub_promise.specs.declared.ends.DeviceEnd.{DeviceEnd}
use Rattle.hub_promise.specs.Keeping.{HubKeeps, Lasts}
use Rattle.hub_promise.proofs.Calls.{hub_new}
use Rattle.gps_hub.proofs.hub.Hub.new.Goals as goal

pub invariant_of-hub : goal.invariant_of-hub
invariant_of-hub g c =
    let P : List (Option DeviceEnd) × List (Taking Piece) × Admissions × List Lasts → Type 0 =
    λ t. HubKeeps g.J.HubNaming.terms (record { book = c.args.book; inlets = c.args.inlets.items; ends = t.0; inputs = t.1; door = t.2; wait = c.args.wait; is_shut = false }) t.3 in (
      subst P (λ i. (sym c.in-Ok-no_ends.ensures i, sym c.new.ensures.items i, sym c.open-keeper.ensures.keeper i, sym c.in-Ok.ensures i))
          (hub_new g.J.HubNaming.terms c.args.book c.args.inlets.items c.args.wait c.show.ensures.holds c.requires.unused c.requires.terms c.requires.count c.requires.nothing_got),
      sym (ap (λ (a : Admissions). a.done) c.open-keeper.ensures.keeper),
    )
