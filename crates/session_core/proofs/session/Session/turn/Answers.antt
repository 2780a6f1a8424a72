use Rattle.std.proofs.Common.{rules}
use Rattle.session_core.proofs.Gaining.{turned_as}
use Rattle.session_core.proofs.session.Session.turn.Goals as goal

pub returns-clause-holding : goal.returns-clause-holding
returns-clause-holding g c = λ lines. turned_as lines c.args.self.now _ (search rules)
