use Rattle.book_units.proofs.Given.{joined, few, apart, room}
use Rattle.book_units.proofs.laws.reports_give_samples_in_order.Goals as goal

pub returns-clause-joined : goal.returns-clause-joined
returns-clause-joined c = joined

pub returns-clause-few : goal.returns-clause-few
returns-clause-few c = few

pub returns-clause-apart : goal.returns-clause-apart
returns-clause-apart c = apart

pub returns-clause-room : goal.returns-clause-room
returns-clause-room c = room
