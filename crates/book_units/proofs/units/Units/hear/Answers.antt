use Rattle.std.proofs.Common.{◌∙◌}
use Rattle.book_units.proofs.Rooms.{segment_seen}
use Rattle.book_units.proofs.units.Units.hear.Goals as goal

pub hear-requires : goal.hear-requires
hear-requires c =
    c.requires.account _ ∙ segment_seen _ _ _ _ _ c.self.view_is c.from.ensures c.requires.unit c.index_mut-unit.ensures.value
