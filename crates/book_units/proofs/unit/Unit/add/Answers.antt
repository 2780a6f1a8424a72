use Rattle.book_units.proofs.Orders.{gained_seen}
use Rattle.book_units.proofs.unit.Unit.add.Goals as goal

pub returns-clause-gains : goal.returns-clause-gains
returns-clause-gains c =
    gained_seen _ _ _ _ _ _ _ _ c.self.view_is c.self.invariant.keeps c.push_back_reserved.ensures.items
