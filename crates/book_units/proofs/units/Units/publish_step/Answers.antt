use Rattle.std.proofs.lemmas.List.Elements.{All-set}
use Rattle.book_units.specs.Units.{RoomView, IsUnit}
use Rattle.book_units.proofs.Rooms.{published_seen}
use Rattle.book_units.proofs.units.Units.publish_step.Goals as goal

pub invariant_of-self : goal.invariant_of-self
invariant_of-self c = All-set (λ (r : RoomView). IsUnit r.unit) _ _ _ c.publish_step.ensures.kept c.self.invariant

pub returns : goal.returns
returns c =
    published_seen _ _ _ _ _ _ _ c.self.view_is c.from.ensures c.requires c.index_mut-unit.ensures.value c.publish_step.ensures.steps
