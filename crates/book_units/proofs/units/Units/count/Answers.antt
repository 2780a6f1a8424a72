use Rattle.book_units.proofs.Rooms.{all_kept, all_in_order}
use Rattle.book_units.proofs.units.Units.count.Goals as goal

pub returns-clause-order : goal.returns-clause-order
returns-clause-order c = all_in_order _ _ c.self.view_is c.self.invariant

pub returns-clause-kept : goal.returns-clause-kept
returns-clause-kept c = all_kept _ _ c.self.view_is c.self.invariant
